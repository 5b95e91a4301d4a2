-- Parts of a text between its places.
use Rattle.std.proofs.Common.{◌≡◌, ◌∙◌, sym, ap, ℕ, ◌+◌, ◌-◌, ◌<◌, ◌≤◌, ◌++◌, length, take, drop, get_or, min, arith}
use Rattle.std.specs.Prelude.{slice_index}
use Rattle.std.specs.List.{slice_range}
use Rattle.std.proofs.Math.Seq.{take-add}
use Rattle.std.proofs.lemmas.List.{drop-drop, take-take, take_all, get_or_default, get_or-take, get_or-drop}
use Rattle.ts_base.specs.Bytes.{Bytes}
use Rattle.ts_text.specs.Same.{IsSameTo}

pub joined_slices : (bytes : Bytes) (a b c : ℕ) → a ≤ b → b ≤ c
    → slice_range bytes a b ++ slice_range bytes b c ≡ slice_range bytes a c
joined_slices bytes a b c low high =
    let sum : a + (b - a) ≡ b = omega arith in
    let all : (b - a) + (c - b) ≡ c - a = omega arith in
    let moved : drop (b - a) (drop a bytes) ≡ drop b bytes =
    drop-drop (b - a) a bytes ∙ ap (λ (n : ℕ). drop n bytes) sum in
    ap (λ (rest : Bytes). take (b - a) (drop a bytes) ++ take (c - b) rest) (sym moved)
    ∙ sym (take-add (b - a) (c - b) (drop a bytes))
    ∙ ap (λ (n : ℕ). take n (drop a bytes)) all

-- the first bytes of a part
pub first_of_slice : (bytes : Bytes) (place n count : ℕ) → count ≤ n
    → take count (slice_range bytes place (place + n)) ≡ take count (drop place bytes)
first_of_slice bytes place n count few =
    let size : place + n - place ≡ n = omega arith in
    ap (λ (m : ℕ). take count (take m (drop place bytes))) size ∙ take-take count n (drop place bytes) few

-- a byte of a part
pub byte_of_slice : (bytes part : Bytes) (place k d : ℕ) → part ≡ slice_range bytes place (place + length part) → k < length part
    → get_or part k d ≡ get_or bytes (place + k) d
byte_of_slice bytes part place k d is lt =
    let size : place + length part - place ≡ length part = omega arith in
    ap (λ (ys : Bytes). get_or ys k d) is
    ∙ get_or-take (place + length part - place) (drop place bytes) k d (omega arith)
    ∙ get_or-drop place bytes k d

-- the first byte of a part
pub first_byte : (text bytes : Bytes) (place x : ℕ) → bytes ≡ slice_range text place (place + length bytes) → 0 < length bytes → x ≡ get_or bytes 0 x
    → x ≡ slice_index text place
first_byte text bytes place x is some read =
    let here : place + 0 ≡ place = omega arith in
    read
    ∙ get_or_default bytes 0 x 0 some
    ∙ byte_of_slice text bytes place 0 0 is some
    ∙ ap (λ (n : ℕ). get_or text n 0) here

-- ---- two texts that are compared

first_of : (text part first : Bytes) (place count : ℕ) → count ≤ length part → part ≡ slice_range text place (place + length part) → first ≡ take count part
    → first ≡ take count (drop place text)
first_of text part first place count few is cut =
    cut ∙ ap (λ (ys : Bytes). take count ys) is ∙ first_of_slice text place (length part) count few

pub same_more : (one other part parts first firsts : Bytes) (place count : ℕ)
    → part ≡ slice_range one place (place + length part) → parts ≡ slice_range other place (place + length parts)
    → 0 < length part → 0 < length parts → place + length part ≤ length one → count ≡ min (length part) (length parts)
    → first ≡ take count part → firsts ≡ take count parts → first ≡ firsts → IsSameTo one other place count
same_more one other part parts first firsts place count is are some several within few cut cuts same = record {
  some = omega arith;
  within = omega arith;
  same = λ before.
      take-add place count one
      ∙ ap (λ (ys : Bytes). ys ++ take count (drop place one)) before
      ∙ ap (λ (ys : Bytes). take place other ++ ys) middle
      ∙ sym (take-add place count other);
}
  where
    middle : take count (drop place one) ≡ take count (drop place other)
    middle = sym (first_of one part first place count (omega (arith, few)) is cut) ∙ same ∙ first_of other parts firsts place count (omega (arith, few)) are cuts

pub differ_there : (one other part parts first firsts : Bytes) (place count : ℕ)
    → part ≡ slice_range one place (place + length part) → parts ≡ slice_range other place (place + length parts)
    → count ≡ min (length part) (length parts) → first ≡ take count part → firsts ≡ take count parts → (first ≡ firsts → ⊥) → one ≡ other → ⊥
differ_there one other part parts first firsts place count is are few cut cuts differ same =
    differ (first_of one part first place count (omega (arith, few)) is cut
    ∙ ap (λ (ys : Bytes). take count (drop place ys)) same
    ∙ sym (first_of other parts firsts place count (omega (arith, few)) are cuts))

pub same_goes_on : (one other : Bytes) (place count : ℕ) → IsSameTo one other place count → take place one ≡ take place other
    → take (place + count) one ≡ take (place + count) other
same_goes_on one other place count is before = is.same before

pub same_all : (one other : Bytes) (place : ℕ) → length one ≤ place → length other ≤ place
    → take place one ≡ take place other → one ≡ other
same_all one other place all every same = sym (take_all place one all) ∙ same ∙ take_all place other every
