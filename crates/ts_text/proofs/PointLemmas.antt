-- How the row and the column of a place change from one place to the next.
use Rattle.std.proofs.Common.{◌≡◌, ℕ, ◌+◌, ◌-◌, ◌<◌, ◌≤◌, take, length}
use Rattle.std.proofs.Common.{get_or, cond, true, false, not, arith, length-take}
use Rattle.std.proofs.Common.{ap, ◌∙◌, sym, inl, inr}
use Rattle.std.proofs.lemmas.Bool.{cases_Bool}
use Rattle.std.proofs.lemmas.List.Sums.{count_by_more_yes, count_by_more_no, count_by-le-length}
use Rattle.std.proofs.lemmas.List.Sums.{suffix_len-le-length}
use Rattle.std.proofs.lemmas.List.Sums.{suffix_len-take_yes, suffix_len-take_no}
use Rattle.std.specs.List.{slice_range}
use Rattle.std.proofs.lemmas.List.{get_or_default}
use Rattle.ts_base.specs.Bytes.{Bytes}
use Rattle.ts_text.proofs.PlaceLemmas.{byte_of_slice}
use Rattle.ts_text.specs.Point.{is_newline, is_no_newline, row_of, column_of, point_of}

pub row_of_within : (text : Bytes) (place : ℕ) → row_of text place ≤ place
row_of_within text place =
    omega (arith, count_by-le-length is_newline (take place text), length-take place text)

pub column_of_within : (text : Bytes) (place : ℕ) → column_of text place ≤ place
column_of_within text place =
    omega (arith, suffix_len-le-length is_no_newline (take place text), length-take place text)

pub row_of_more : (text : Bytes) (place : ℕ) → place < length text
    → row_of text (place + 1)
    ≡ cond (is_newline (get_or text place 0)) (row_of text place + 1) (row_of text place)
row_of_more text place within =
    elim (cases_Bool (is_newline (get_or text place 0))) [
      | inl ends ↦ rw ends (count_by_more_yes is_newline text place 0 within ends)
      | inr goes ↦ rw goes (count_by_more_no is_newline text place 0 within goes)
    ]

pub column_of_more : (text : Bytes) (place : ℕ) → place < length text
    → column_of text (place + 1)
    ≡ cond (is_newline (get_or text place 0)) 0 (column_of text place + 1)
column_of_more text place within =
    let back : place + 1 - 1 ≡ place = omega arith in
    let some : 0 < place + 1 = omega arith in
    let more : place + 1 ≤ length text = omega arith in
    elim (cases_Bool (is_newline (get_or text place 0))) [
      | inl ends ↦
          let stops : is_no_newline (get_or text (place + 1 - 1) 0) ≡ false =
          rw back (ap not ends) in
          rw ends (suffix_len-take_no is_no_newline text (place + 1) 0 some more stops)
      | inr goes ↦
          let goes_on : is_no_newline (get_or text (place + 1 - 1) 0) ≡ true =
          rw back (ap not goes) in
          let one : column_of text (place + 1) ≡ 1 + column_of text (place + 1 - 1) =
          suffix_len-take_yes is_no_newline text (place + 1) 0 some more goes_on in
          rw goes (one ∙ ap (λ (k : ℕ). 1 + column_of text k) back ∙ omega arith)
    ]

-- both at once, as the code has them
pub point_of_more : (text : Bytes) (place : ℕ) (point : ℕ × ℕ) → place < length text
    → point.0 ≡ cond (is_newline (get_or text place 0)) (row_of text place + 1) (row_of text place)
    → point.1 ≡ cond (is_newline (get_or text place 0)) 0 (column_of text place + 1)
    → point ≡ point_of text (place + 1)
point_of_more text place point within row column =
    let row_is : point.0 ≡ row_of text (place + 1) =
    row ∙ sym (row_of_more text place within) in
    let column_is : point.1 ≡ column_of text (place + 1) =
    column ∙ sym (column_of_more text place within) in
    λ k. (row_is k, column_is k)

-- the same, where the byte is one of a stretch of the text
pub point_of_byte : (text bytes : Bytes) (place k byte : ℕ) (old point : ℕ × ℕ) → bytes ≡ slice_range text place (place + length bytes)
    → place + length bytes ≤ length text → k < length bytes → byte ≡ get_or bytes k byte → old ≡ point_of text (place + k)
    → point.0 ≡ cond (is_newline byte) (old.0 + 1) old.0 → point.1 ≡ cond (is_newline byte) 0 (old.1 + 1)
    → point ≡ point_of text (place + (k + 1))
point_of_byte text bytes place k byte old point is within lt read before row column =
    let here : byte ≡ get_or text (place + k) 0 = read ∙ get_or_default bytes k byte 0 lt ∙ byte_of_slice text bytes place k 0 is lt in
    let sum : place + k + 1 ≡ place + (k + 1) = omega arith in
    let first : point.0 ≡ cond (is_newline (get_or text (place + k) 0)) (row_of text (place + k) + 1) (row_of text (place + k)) =
    row ∙ ap (λ (b : ℕ). cond (is_newline b) (old.0 + 1) old.0) here
    ∙ ap (λ (p : ℕ × ℕ). cond (is_newline (get_or text (place + k) 0)) (p.0 + 1) p.0) before in
    let second : point.1 ≡ cond (is_newline (get_or text (place + k) 0)) 0 (column_of text (place + k) + 1) =
    column ∙ ap (λ (b : ℕ). cond (is_newline b) 0 (old.1 + 1)) here
    ∙ ap (λ (p : ℕ × ℕ). cond (is_newline (get_or text (place + k) 0)) 0 (p.1 + 1)) before in
    point_of_more text (place + k) point (omega arith) first second ∙ ap (λ (n : ℕ). point_of text n) sum

pub point_here : (text : Bytes) (place : ℕ) (point : ℕ × ℕ) → point ≡ point_of text place → point ≡ point_of text (place + 0)
point_here text place point is =
    let here : place ≡ place + 0 = omega arith in
    is ∙ ap (λ (n : ℕ). point_of text n) here
