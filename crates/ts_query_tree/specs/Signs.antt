-- What stands at a place of a query's text: a sign and the place behind it; or a sign that needs a
-- name, and the place where none stands; or nothing that a sign begins with.
use Rattle.std.specs.Prelude.{ℕ, ◌+◌, ◌-◌, ◌<◌, ◌≤◌, Bool, ◌&&◌, ◌||◌, ◌==◌, length, take, drop, slice_get, Option, Some, None, if◌then◌else◌, ⊤}
use Rattle.ts_base.specs.Bytes.{Bytes}
use Rattle.ts_query_tree.specs.declared.tree.Written.{Written}
use Rattle.ts_query_tree.specs.declared.tree.Quantity.{Quantity}
use Rattle.ts_query_tree.specs.declared.tree.Quantity.TheVariants.{Optional, Many, Several}
use Rattle.ts_query_tree.specs.declared.sign.Sign.TheVariants as sign
use Rattle.ts_query_tree.specs.declared.sight.Sight.{Sight}
use Rattle.ts_query_tree.specs.declared.sight.Sight.TheVariants.{Sees, Cut, Strange}
use Rattle.ts_query_tree.specs.Words.{is_name_start, begins_name, name_end, gap_end, holds, quoted}

-- the text between two places, for a sign at place i
abbrev pub written : Bytes → ℕ → ℕ → ℕ → Written
written w i from to = record { at = i; text = take (to - from) (drop from w) }

-- a name, which stands at place i
abbrev pub name_at : Bytes → ℕ → Sight
name_at w i = Sees (sign.Name (written w i i (name_end w i))) (name_end w i)

-- `@` and a name
abbrev pub capture_from : Bytes → ℕ → ℕ → Sight
capture_from w i k =
    if begins_name w k then Sees (sign.Capture (written w i k (name_end w k))) (name_end w k)
    else Cut (sign.Capture (written w i i i)) k

-- the same of an `@` at place i, with blanks and comments before the name
abbrev pub capture_at : Bytes → ℕ → Sight
capture_at w i = capture_from w i (gap_end w (i + 1))

-- `!` and a name
abbrev pub without_from : Bytes → ℕ → ℕ → Sight
without_from w i k =
    if begins_name w k then Sees (sign.Without (written w k k (name_end w k))) (name_end w k)
    else Cut (sign.Without (written w k i i)) k

-- the same of a `!` at place i, with blanks and comments before the name
abbrev pub without_at : Bytes → ℕ → Sight
without_at w i = without_from w i (gap_end w (i + 1))

-- a predicate's name ends with `?` or `!`
abbrev pub is_predicate_mark : Option ℕ → Bool
is_predicate_mark = holds (λ c. (c == 63) || (c == 33))

-- `#` and a predicate's name
abbrev pub predicate_from : Bytes → ℕ → ℕ → Sight
predicate_from w i k =
    if begins_name w k && is_predicate_mark (slice_get w (name_end w k))
    then Sees (sign.Predicate (written w i k (name_end w k + 1))) (name_end w k + 1)
    else Cut (sign.Predicate (written w i i i)) k

-- the same of a `#` at place i, with blanks and comments before the name
abbrev pub predicate_at : Bytes → ℕ → Sight
predicate_at w i = predicate_from w i (gap_end w (i + 1))

-- a string at place i, of this text and with this place behind it, if it has an end
abbrev pub string : ℕ → Option (Bytes × ℕ) → Sight
string i None = Strange
string i (Some x) = Sees (sign.Text (record { at = i; text = x.0 })) x.1

-- a string, but an open one is none
abbrev pub text_at : Bytes → ℕ → Sight
text_at w i = string i (quoted w (i + 1))

-- a quantifier at place i
abbrev pub mark_at : ℕ → Quantity → Sight
mark_at i quantity = Sees (sign.Mark (record { at = i; quantity = quantity })) (i + 1)

-- the quote with which a string begins, as a byte
abbrev pub quote_mark : ℕ
quote_mark = 34

-- `@`, with which a capture begins
abbrev pub capture_mark : ℕ
capture_mark = 64

-- `!`, with which a field that is not there begins
abbrev pub without_mark : ℕ
without_mark = 33

-- `#`, with which a predicate begins
abbrev pub predicate_mark : ℕ
predicate_mark = 35

-- what begins with the byte c: ( ) [ ] . : ? * + " @ ! # or a name
abbrev pub sign_from : Bytes → ℕ → ℕ → Sight
sign_from w i c =
    if c == 40 then Sees sign.Open (i + 1)
    else if c == 41 then Sees sign.Close (i + 1)
    else if c == 91 then Sees sign.OpenChoice (i + 1)
    else if c == 93 then Sees sign.CloseChoice (i + 1)
    else if c == 46 then Sees sign.Anchor (i + 1)
    else if c == 58 then Sees sign.Colon (i + 1)
    else if c == 63 then mark_at i Optional
    else if c == 42 then mark_at i Many
    else if c == 43 then mark_at i Several
    else if c == quote_mark then text_at w i
    else if c == capture_mark then capture_at w i
    else if c == without_mark then without_at w i
    else if c == predicate_mark then predicate_at w i
    else if is_name_start c then name_at w i
    else Strange

-- what stands at place i, where this byte is, or the end of the text
abbrev pub sight_of : Bytes → ℕ → Option ℕ → Sight
sight_of w i None = Strange
sight_of w i (Some c) = sign_from w i c

-- what stands at place i
abbrev pub sight : Bytes → ℕ → Sight
sight w i = sight_of w i (slice_get w i)

-- what is seen at place i ends after it, and what is missed stands after it, both within the text
abbrev pub IsWithin : Bytes → ℕ → Sight → Type 0
IsWithin w i (Sees s j) = (i < j) × (j ≤ length w)
IsWithin w i (Cut s j) = (i < j) × (j ≤ length w)
IsWithin w i Strange = ⊤
