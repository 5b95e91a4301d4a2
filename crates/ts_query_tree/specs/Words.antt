-- The bytes of a query's text: names, blanks and comments, and what is between quotes.
use Rattle.std.specs.Prelude.{ℕ, ◌+◌, Bool, false, not, ◌&&◌, ◌||◌, ◌==◌, nat_le, [], ◌∷◌, ◌++◌, drop, slice_get, Option, Some, None, if◌then◌else◌}
use Rattle.std.specs.List.{prefix_len}
use Rattle.ts_base.specs.Bytes.{Bytes}
use Rattle.ts_query_tree.specs.declared.bytes.Test.{Test}
use Rattle.ts_query_tree.specs.declared.bytes.Test.TheVariants.{Name, Plain}

-- a name begins with a letter of ASCII, a digit or `_`, and goes on with these, `-` and `.`
abbrev pub is_name_start : ℕ → Bool
is_name_start c =
    (nat_le 48 c && nat_le c 57) || (nat_le 65 c && nat_le c 90) || (c == 95)
    || (nat_le 97 c && nat_le c 122)

-- a byte with which a name goes on: one that begins a name, `-` or `.`
abbrev pub is_name_byte : ℕ → Bool
is_name_byte c = is_name_start c || (c == 45) || (c == 46)

-- a byte that stands for itself in a string: neither a quote nor a backslash
abbrev pub is_plain : ℕ → Bool
is_plain c = not (c == 34) && not (c == 92)

-- the byte passes the test
abbrev pub passes : Test → ℕ → Bool
passes Name = is_name_byte
passes Plain = is_plain

-- how many bytes in a row pass the test
abbrev pub run : (ℕ → Bool) → Bytes → ℕ → ℕ
run p w i = prefix_len p (drop i w)

-- there is a byte, and p holds of it
abbrev pub holds : (ℕ → Bool) → Option ℕ → Bool
holds p None = false
holds p (Some c) = p c

-- a name stands at place i
abbrev pub begins_name : Bytes → ℕ → Bool
begins_name w i = holds is_name_start (slice_get w i)

-- the place behind the name at place i
abbrev pub name_end : Bytes → ℕ → ℕ
name_end w i = i + run is_name_byte w i

-- the name `_` stands for any node
abbrev pub is_wild : Bytes → Bool
is_wild [] = false
is_wild (c ∷ []) = c == 95
is_wild (c ∷ d ∷ w) = false

-- a space, or one of the bytes 9 to 13: tab, line feed, vertical tab, form feed, carriage return
abbrev pub is_blank : ℕ → Bool
is_blank c = (c == 32) || (nat_le 9 c && nat_le c 13)

-- a blank, the `;` that begins a comment, or what is in one
abbrev pub is_gap : Bool → ℕ → Bool
is_gap in_comment c = in_comment || is_blank c || (c == 59)

-- whether a comment is open behind this byte: it begins with `;` and ends with the line
abbrev pub stays_open : Bool → ℕ → Bool
stays_open in_comment c = if in_comment then not (c == 10) else c == 59

-- how many bytes are blanks or in comments, before another one comes
abbrev pub gap : Bool → Bytes → ℕ
gap in_comment [] = 0
gap in_comment (c ∷ w) =
    if is_gap in_comment c then 1 + gap (stays_open in_comment c) w else 0

-- the first place from i on with neither a blank nor a comment
abbrev pub gap_end : Bytes → ℕ → ℕ
gap_end w i = i + gap false (drop i w)

-- the letters that stand for another character behind a backslash: `n`, `r`, `t` and `0`
abbrev pub letter_of : ℕ → Option ℕ
letter_of c =
    if c == 110 then Some 10 else if c == 114 then Some 13 else if c == 116 then Some 9
    else if c == 48 then Some 0 else None

-- what a byte behind a backslash stands for
abbrev pub meaning : Option ℕ → ℕ → ℕ
meaning None c = c
meaning (Some d) c = d

-- with so many bytes of text more, written in n bytes
abbrev pub before : Bytes → ℕ → Option (Bytes × ℕ) → Option (Bytes × ℕ)
before s n None = None
before s n (Some x) = Some (s ++ x.0, n + x.1)

-- the text up to the quote that ends a string, and in how many bytes it is written with that quote
abbrev mutual
  pub inside : Bytes → Option (Bytes × ℕ)
  inside [] = None
  inside (c ∷ w) =
      if c == 34 then Some ([], 1) else if c == 92 then escaped w
      else before (c ∷ []) 1 (inside w)

  -- the same behind a backslash
  pub escaped : Bytes → Option (Bytes × ℕ)
  escaped [] = None
  escaped (c ∷ w) = before (meaning (letter_of c) c ∷ []) 2 (inside w)

-- a string's text, and the place behind it: as many bytes behind place i as it is written in
abbrev pub ending : ℕ → Option (Bytes × ℕ) → Option (Bytes × ℕ)
ending i None = None
ending i (Some x) = Some (x.0, i + x.1)

-- the text of a string whose quote stands before place i, and the place behind the string
abbrev pub quoted : Bytes → ℕ → Option (Bytes × ℕ)
quoted w i = ending i (inside (drop i w))
