-- What a tree is spelled with: no more tokens than characters, sets in form, and counts in order.
use Rattle.std.proofs.Common.{◌≡◌, ◌∙◌, sym, ap, subst, refl, ℕ, zero, suc, ◌+◌, ◌<◌, ◌≤◌, min, inl, inr, ⊎_elim, Bool, true, false, nat_le, nat_lt, ◌&&◌, ◌||◌, ◌==◌, if◌then◌else◌, List, [], ◌∷◌, ◌++◌, length, slice_get, take, drop, Option, Some, None, arith}
use Rattle.std.specs.List.{Contains}
use Rattle.std.proofs.lemmas.Option.{slice_get-get_or}
use Rattle.regex_class.specs.Ranges.{in_ranges, IsCanonical}
use Rattle.ucd_sets.specs.declared.set.Set.{Set}
use Rattle.ts_pattern.specs.declared.item.Base.TheVariants.{Range}
use Rattle.ts_pattern.specs.declared.item.Item.{Item}
use Rattle.ts_pattern.specs.declared.item.CharSet.{CharSet}
use Rattle.ts_pattern.specs.declared.item.Mark.{Mark}
use Rattle.ts_pattern.specs.declared.item.Mark.TheVariants.{Char, Class, Join}
use Rattle.ts_pattern.specs.declared.sight.Flaw.{Flaw}
use Rattle.ts_pattern.specs.declared.sight.Flaw.TheVariants.{Syntax, Unsupported, UnknownProperty}
use Rattle.ts_pattern.specs.declared.sight.Sight.{Sight}
use Rattle.ts_pattern.specs.declared.sight.Sight.TheVariants.{Sees, Wrong}
use Rattle.ts_pattern.specs.declared.sign.Sign.{Sign}
use Rattle.ts_pattern.specs.declared.sign.Sign.TheVariants as sign
use Rattle.ts_pattern.specs.declared.property.Table.{Table}
use Rattle.ts_pattern.specs.declared.property.Table.TheVariants.{Any}
use Rattle.ts_pattern.specs.Characters.{Text, ending, question, open_bracket, open_brace, close_brace, close_bracket, backslash, hyphen, peek, run, number, is_decimal, is_hex, is_name_char, is_scalar}
use Rattle.ts_pattern.specs.Classes.{AreClassItems, item, item_from, range_to, mark, hyphen_mark, is_itself, is_joined, one, is_class, inside, is_inverted, IsClass}
use Rattle.ts_pattern.specs.Escapes.{escape, shorthand, escaped_char, short_escape, coded, fixed_code, braced_code, unicode_code, found, named, prefix, braced_name, short_name, property}
use Rattle.ts_pattern.specs.Signs.{count, char, dot, brace, two_counts, counts, opened, escaped, plain, IsSign}
use Rattle.ts_pattern.specs.Sets.{InSet, AreRangesOf}
use Rattle.ts_pattern.specs.Trees.{Token, one_of, opening, closing, bar, quantifier, Pattern, spelling}
use Rattle.ts_pattern.specs.Reads.{Means, IsTokenAt, Tokens, IsTree}

-- ---- what is seen ends after its place

data Ends {T : Type 0} (P : T → Type 0) (i : ℕ) : Sight T → Type 0 where
  seen : (x : T) (j : ℕ) → P x → i < j → Ends P i (Sees x j)
  wrong : (flaw : Flaw) (p : ℕ) → Ends P i (Wrong flaw p)

abbrev AnyOf : (T : Type 0) → T → Type 0
AnyOf T x = Unit {0}

either : {T : Type 0} (P : T → Type 0) (i : ℕ) (b : Bool) (x y : Sight T) → Ends P i x → Ends P i y → Ends P i (if b then x else y)
either P i true x y h k = h
either P i false x y h k = k

ends_after : {T : Type 0} (P : T → Type 0) (i : ℕ) (x : T) (j : ℕ) → Ends P i (Sees x j) → P x × (i < j)
ends_after P i _ _ (seen x j p lt) = (p, lt)

-- ---- marks

abbrev EndsMark : ℕ → Sight Mark → Type 0
EndsMark = Ends (AnyOf Mark)

coded_ends : (i c j : ℕ) → i < j → EndsMark i (coded i c j)
coded_ends i c j lt = either (AnyOf Mark) i (is_scalar c) (Sees (Char c) j) (Wrong Syntax i) (seen (Char c) j tt lt) (wrong Syntax i)

fixed_ends : (w : Text) (i n : ℕ) → EndsMark i (fixed_code w i n)
fixed_ends w i n = either (AnyOf Mark) i (nat_le n (run is_hex w (i + 2))) (coded i (number 16 w (i + 2) n) (i + 2 + n)) (Wrong Syntax i)
    (coded_ends i (number 16 w (i + 2) n) (i + 2 + n) (omega arith)) (wrong Syntax i)

braced_ends : (w : Text) (i n : ℕ) → EndsMark i (braced_code w i n)
braced_ends w i n = either (AnyOf Mark) i (nat_le 1 n && nat_le n 6 && (peek w (i + 3 + n) == close_brace)) (coded i (number 16 w (i + 3) n) (i + 4 + n)) (Wrong Syntax i)
    (coded_ends i (number 16 w (i + 3) n) (i + 4 + n) (omega arith)) (wrong Syntax i)

unicode_ends : (w : Text) (i : ℕ) → EndsMark i (unicode_code w i)
unicode_ends w i = either (AnyOf Mark) i (peek w (i + 2) == open_brace) (braced_code w i (run is_hex w (i + 3))) (fixed_code w i 4)
    (braced_ends w i (run is_hex w (i + 3))) (fixed_ends w i 4)

found_ends : (i : ℕ) (lacking : Bool) (j : ℕ) (set : Option Set) → i < j → EndsMark i (found i lacking j set)
found_ends i lacking j None lt = wrong UnknownProperty i
found_ends i lacking j (Some s) lt = seen _ j tt lt

name_ends : (w : Text) (i : ℕ) (lacking : Bool) (table : Table) (k n : ℕ) → i ≤ k → EndsMark i (braced_name w i lacking table k n)
name_ends w i lacking table k n le = either (AnyOf Mark) i (nat_le 1 n && (peek w (k + n) == close_brace))
    _ (Wrong Syntax i)
    (found_ends i lacking (k + n + 1) _ (omega arith)) (wrong Syntax i)

short_ends : (w : Text) (i : ℕ) (lacking : Bool) → EndsMark i (short_name w i lacking)
short_ends w i lacking = either (AnyOf Mark) i (is_name_char (peek w (i + 2)))
    _ (Wrong Syntax i)
    (found_ends i lacking (i + 3) _ (omega arith)) (wrong Syntax i)

property_ends : (w : Text) (i : ℕ) (lacking : Bool) → EndsMark i (property w i lacking)
property_ends w i lacking =
    let k : ℕ = i + 3 + (prefix w (i + 3)).1 in
    either (AnyOf Mark) i (peek w (i + 2) == open_brace) (braced_name w i lacking (prefix w (i + 3)).0 k (run is_name_char w k)) (short_name w i lacking)
    (name_ends w i lacking (prefix w (i + 3)).0 k (run is_name_char w k) (omega arith)) (short_ends w i lacking)

plain_ends : (i c : ℕ) (set : Option Item) (letter : Option ℕ) → EndsMark i (short_escape i c set letter)
plain_ends i c (Some x) letter = seen (Class x) (i + 2) tt (omega arith)
plain_ends i c None (Some d) = seen (Char d) (i + 2) tt (omega arith)
plain_ends i c None None = wrong _ i

escape_ends : (w : Text) (i : ℕ) → EndsMark i (escape w i)
escape_ends w i =
    let c : ℕ = peek w (i + 1) in
    either (AnyOf Mark) i (c == 120) (fixed_code w i 2) _ (fixed_ends w i 2)
    (either (AnyOf Mark) i (c == 117) (unicode_code w i) _ (unicode_ends w i)
    (either (AnyOf Mark) i (c == 112) (property w i false) _ (property_ends w i false)
    (either (AnyOf Mark) i (c == 80) (property w i true) _ (property_ends w i true)
    (plain_ends i c (shorthand c) (escaped_char c)))))

hyphen_ends : (w : Text) (opens : Bool) (i : ℕ) → EndsMark i (hyphen_mark w opens i)
hyphen_ends w opens i =
    either (AnyOf Mark) i (is_itself w opens i) (Sees (Char hyphen) (i + 1)) _ (seen (Char hyphen) (i + 1) tt (omega arith))
    (either (AnyOf Mark) i (peek w (i + 1) == ending) (Wrong Syntax (i + 1)) (Sees Join (i + 1)) (wrong Syntax (i + 1)) (seen Join (i + 1) tt (omega arith)))

mark_ends : (w : Text) (opens : Bool) (i : ℕ) → EndsMark i (mark w opens i)
mark_ends w opens i =
    let c : ℕ = peek w i in
    either (AnyOf Mark) i (c == backslash) (escape w i) _ (escape_ends w i)
    (either (AnyOf Mark) i (c == hyphen) (hyphen_mark w opens i) _ (hyphen_ends w opens i)
    (either (AnyOf Mark) i (c == ending) (Wrong Syntax i) (Sees (Char c) (i + 1)) (wrong Syntax i) (seen (Char c) (i + 1) tt (omega arith))))

-- ---- items

abbrev EndsItem : ℕ → Sight Item → Type 0
EndsItem = Ends (AnyOf Item)

range_ends : (i c k : ℕ) (s : Sight Mark) → i ≤ k → EndsMark k s → EndsItem i (range_to i c k s)
range_ends i c k _ le (seen (Char d) j p lt) = either (AnyOf Item) i (nat_le c d) (Sees (one (Range c d)) j) (Wrong Syntax i) (seen (one (Range c d)) j tt (omega arith)) (wrong Syntax i)
range_ends i c k _ le (seen (Class x) j p lt) = wrong Syntax k
range_ends i c k _ le (seen Join j p lt) = wrong Syntax k
range_ends i c k _ le (wrong flaw p) = wrong flaw p

from_ends : (w : Text) (i : ℕ) (s : Sight Mark) → EndsMark i s → EndsItem i (item_from w i s)
from_ends w i _ (seen (Char c) j p lt) = either (AnyOf Item) i (is_joined w j) (range_to i c (j + 1) (mark w false (j + 1))) (Sees (one (Range c c)) j)
    (range_ends i c (j + 1) (mark w false (j + 1)) (omega arith) (mark_ends w false (j + 1))) (seen (one (Range c c)) j tt lt)
from_ends w i _ (seen (Class x) j p lt) = seen x j tt lt
from_ends w i _ (seen Join j p lt) = wrong Syntax i
from_ends w i _ (wrong flaw p) = wrong flaw p

item_ends : (w : Text) (opens : Bool) (i : ℕ) → EndsItem i (item w opens i)
item_ends w opens i = from_ends w i (mark w opens i) (mark_ends w opens i)

items_end : (w : Text) (opens : Bool) (i : ℕ) (xs : List Item) (j : ℕ) → AreClassItems w opens i xs j → i ≤ j
items_end w opens i [] j h = omega (arith, h)
items_end w opens i (x ∷ xs) j h =
    let lt = (ends_after (AnyOf Item) i x h.0 (subst (EndsItem i) h.2 (item_ends w opens i))).1 in
    let more = items_end w (is_class x.base) h.0 xs j h.3 in
    omega (arith, lt, more)

-- ---- signs

-- the most is not below the least
abbrev IsInOrder : ℕ → Option ℕ → Type 0
IsInOrder least None = Unit {0}
IsInOrder least (Some most) = least ≤ most

-- the counts are in order
abbrev IsRightSign : Sign → Type 0
IsRightSign (sign.Set s) = Unit {0}
IsRightSign sign.Open = Unit {0}
IsRightSign sign.Close = Unit {0}
IsRightSign sign.Bar = Unit {0}
IsRightSign (sign.Times least most) = IsInOrder least most

abbrev EndsSign : ℕ → Sight Sign → Type 0
EndsSign = Ends IsRightSign

brace_ends : (i : ℕ) → EndsSign i (brace i)
brace_ends i = seen (char open_brace) (i + 1) tt (omega arith)

capped : (most a b : ℕ) → a ≤ b → min most a ≤ min most b
capped most a b le = omega arith

two_end : (w : Text) (i n k m : ℕ) → i ≤ k → EndsSign i (two_counts w i n k m)
two_end w i n k m le =
    either IsRightSign i (peek w (k + m) == close_brace) _ (brace i)
    (either IsRightSign i (m == 0) (Sees (sign.Times (count w (i + 1) n) None) (k + m + 1)) _ (seen (sign.Times (count w (i + 1) n) None) (k + m + 1) tt (omega arith))
    (by (nat_lt (number 10 w k m) (number 10 w (i + 1) n)) refl))
    (brace_ends i)
  where
    by : (b : Bool) → nat_lt (number 10 w k m) (number 10 w (i + 1) n) ≡ b → EndsSign i (if b then Wrong Syntax i else Sees (sign.Times (count w (i + 1) n) (Some (count w k m))) (k + m + 1))
    by true e = wrong Syntax i
    by false e = seen (sign.Times (count w (i + 1) n) (Some (count w k m))) (k + m + 1)
        (capped 65536 (number 10 w (i + 1) n) (number 10 w k m) (not_less (number 10 w k m) (number 10 w (i + 1) n) e)) (omega arith)
      where
        not_less : (a b : ℕ) → nat_lt a b ≡ false → b ≤ a
        not_less a b e = grind arith

counts_end : (w : Text) (i n : ℕ) → EndsSign i (counts w i n)
counts_end w i n =
    either IsRightSign i (n == 0) (brace i) _ (brace_ends i)
    (either IsRightSign i (peek w (i + 1 + n) == close_brace) (Sees (sign.Times (count w (i + 1) n) (Some (count w (i + 1) n))) (i + 2 + n)) _
    (seen (sign.Times (count w (i + 1) n) (Some (count w (i + 1) n))) (i + 2 + n) (omega arith) (omega arith))
    (either IsRightSign i (peek w (i + 1 + n) == 44) (two_counts w i n (i + 2 + n) (run is_decimal w (i + 2 + n))) (brace i)
    (two_end w i n (i + 2 + n) (run is_decimal w (i + 2 + n)) (omega arith)) (brace_ends i)))

opened_ends : (w : Text) (i : ℕ) → EndsSign i (opened w i)
opened_ends w i =
    either IsRightSign i (peek w (i + 1) == question) _ (Sees sign.Open (i + 1))
    (either IsRightSign i (peek w (i + 2) == 58) (Sees sign.Open (i + 3)) (Wrong Unsupported i) (seen sign.Open (i + 3) tt (omega arith)) (wrong Unsupported i))
    (seen sign.Open (i + 1) tt (omega arith))

escaped_ends : (i : ℕ) (s : Sight Mark) → EndsMark i s → EndsSign i (escaped i s)
escaped_ends i _ (seen (Char c) j p lt) = seen (char c) j tt lt
escaped_ends i _ (seen (Class x) j p lt) = seen _ j tt lt
escaped_ends i _ (seen Join j p lt) = wrong Syntax i
escaped_ends i _ (wrong flaw p) = wrong flaw p

plain_sign_ends : (w : Text) (i : ℕ) → EndsSign i (plain w i)
plain_sign_ends w i =
    let c : ℕ = peek w i in
    either IsRightSign i (c == backslash) (escaped i (escape w i)) _ (escaped_ends i (escape w i) (escape_ends w i))
    (either IsRightSign i (c == 46) (Sees dot (i + 1)) _ (seen dot (i + 1) tt (omega arith))
    (either IsRightSign i (c == 40) (opened w i) _ (opened_ends w i)
    (either IsRightSign i (c == 41) (Sees sign.Close (i + 1)) _ (seen sign.Close (i + 1) tt (omega arith))
    (either IsRightSign i (c == 124) (Sees sign.Bar (i + 1)) _ (seen sign.Bar (i + 1) tt (omega arith))
    (either IsRightSign i (c == 42) (Sees (sign.Times 0 None) (i + 1)) _ (seen (sign.Times 0 None) (i + 1) tt (omega arith))
    (either IsRightSign i (c == 43) (Sees (sign.Times 1 None) (i + 1)) _ (seen (sign.Times 1 None) (i + 1) tt (omega arith))
    (either IsRightSign i (c == question) (Sees (sign.Times 0 (Some 1)) (i + 1)) _ (seen (sign.Times 0 (Some 1)) (i + 1) (omega arith) (omega arith))
    (either IsRightSign i (c == open_brace) (counts w i (run is_decimal w (i + 1))) _ (counts_end w i (run is_decimal w (i + 1)))
    (either IsRightSign i ((c == 94) || (c == 36)) (Wrong Unsupported i) (Sees (char c) (i + 1)) (wrong Unsupported i) (seen (char c) (i + 1) tt (omega arith)))))))))))

inside_after : (w : Text) (i : ℕ) → i ≤ inside w i
inside_after w i = by (is_inverted w i)
  where
    by : (b : Bool) → i ≤ (if b then i + 2 else i + 1)
    by true = omega arith
    by false = omega arith

sign_ends : (w : Text) (i : ℕ) (s : Sign) (j : ℕ) → IsSign w i s j → IsRightSign s × (i < j)
sign_ends w i s j (inl h) = ends_after IsRightSign i s j (subst (EndsSign i) h.2 (plain_sign_ends w i))
sign_ends w i s j (inr h) =
    let items = h.2 in
    let from = inside_after w i in
    let more = items_end w true (inside w i) h.1 items.0 items.2 in
    let last = items.4 in
    (subst IsRightSign (sym h.3) tt, omega (arith, from, more, last))

-- ---- tokens

-- ranges in canonical form, of characters alone
abbrev HasCharacters : List (ℕ × ℕ) → Type 0
HasCharacters ranges = IsCanonical ranges × ((c : ℕ) → in_ranges ranges c ≡ true → is_scalar c ≡ true)

abbrev IsRightToken : Token → Type 0
IsRightToken (one_of ranges) = HasCharacters ranges
IsRightToken opening = Unit {0}
IsRightToken closing = Unit {0}
IsRightToken bar = Unit {0}
IsRightToken (quantifier least most) = IsInOrder least most

means_right : (ignore_case : Bool) (s : Sign) (t : Token) → IsRightSign s → Means ignore_case s t → IsRightToken t
means_right ignore_case (sign.Set s) t h m = let ranges = m.2 in subst IsRightToken (sym m.1) (ranges.canonical, λ c e. ((ranges.members c).0 e).0)
means_right ignore_case sign.Open t h m = subst IsRightToken (sym m) tt
means_right ignore_case sign.Close t h m = subst IsRightToken (sym m) tt
means_right ignore_case sign.Bar t h m = subst IsRightToken (sym m) tt
means_right ignore_case (sign.Times least most) t h m = subst IsRightToken (sym m) h

-- tokens are no more than the characters that they stand in
count_tokens : (ignore_case : Bool) (w : Text) (i : ℕ) (ts : List Token) (j : ℕ) → Tokens ignore_case w i ts j → i + length ts ≤ j
count_tokens ignore_case w i [] j h = omega (arith, h)
count_tokens ignore_case w i (t ∷ ts) j h =
    let token = h.1 in
    let lt = (sign_ends w i token.0 h.0 token.1).1 in
    let rest = count_tokens ignore_case w h.0 ts j h.2 in
    omega (arith, lt, rest)

token_right : (ignore_case : Bool) (w : Text) (i : ℕ) (ts : List Token) (j : ℕ) (k : ℕ) (t : Token) → Tokens ignore_case w i ts j → slice_get ts k ≡ Some t → IsRightToken t
token_right ignore_case w i [] j k t h at = absurd (let e : None ≡ Some t = at in cc)
token_right ignore_case w i (u ∷ ts) j zero t h at =
    let token = h.1 in
    let s = sign_ends w i token.0 h.0 token.1 in
    let e : Some u ≡ Some t = at in
    let is : u ≡ t = cc in
    subst IsRightToken is (means_right ignore_case token.0 u s.0 token.2)
token_right ignore_case w i (u ∷ ts) j (suc k) t h at = token_right ignore_case w h.0 ts j k t h.2 at

-- ---- trees

module _ (ignore_case : Bool) (w : Text) (p : Pattern) (tree : IsTree ignore_case w p) where
  pub spelling_short : length (spelling p) ≤ length w
  spelling_short = let le = count_tokens ignore_case w 0 (spelling p) (length w) tree in omega (arith, le)

  right_token : (t : Token) → Contains (spelling p) t → IsRightToken t
  right_token t v = token_right ignore_case w 0 (spelling p) (length w) v.0 t tree (slice_get-get_or (spelling p) v.0 t v.1 ∙ ap Some v.2)

  pub spelled_ranges : (ranges : List (ℕ × ℕ)) → Contains (spelling p) (one_of ranges) → IsCanonical ranges × ((c : ℕ) → in_ranges ranges c ≡ true → is_scalar c ≡ true)
  spelled_ranges ranges v = right_token (one_of ranges) v

  pub spelled_counts : (least most : ℕ) → Contains (spelling p) (quantifier least (Some most)) → least ≤ most
  spelled_counts least most v = right_token (quantifier least (Some most)) v
