-- The bytes that no part of an edit meets are in the new text where their place is moved.
use Rattle.std.proofs.Common.{◌≡◌, ℕ, zero, suc, ◌+◌, ◌-◌, ◌<◌, ◌≤◌, ◌⊎◌, inl, inr, sym, ap, ◌∙◌, refl, arith, List, [], ◌∷◌, ◌++◌, length, length-append, take, drop, slice_get, All}
use Rattle.std.proofs.lemmas.List.{length-take, length-drop}
use Rattle.std.proofs.lemmas.List.Elements.{All-head, All-tail}
use Rattle.std.specs.List.{slice_range}
use Rattle.std.specs.Prelude.{false}
use Rattle.ts_base.specs.Bytes.{Bytes}
use Rattle.ts_text.specs.declared.edit.Edit.{Edit}
use Rattle.ts_text.specs.declared.edit.Part.{Part}
use Rattle.ts_text.specs.Edit.{IsPartOf, InRange, replaced_from, apply_of}
use Rattle.spec_reuse.specs.Changes.{is_met, moved, moved_from}
use Rattle.ts_marks.specs.Parts.{AreOrdered}
use Rattle.ts_marks.proofs.MovedLemmas.{ordered, clear, shifted, AreClear, moved_low, moved_high}

get_drop : (n : ℕ) (xs : Bytes) (i : ℕ) → slice_get (drop n xs) i ≡ slice_get xs (n + i)
get_drop zero xs i = let e : i ≡ 0 + i = omega arith in ap (λ (k : ℕ). slice_get xs k) e
get_drop (suc n) [] i = let e : suc n + i ≡ suc (n + i) = omega arith in ap (λ (k : ℕ). slice_get {X = ℕ} [] k) (sym e)
get_drop (suc n) (x ∷ xs) i =
    let e : suc n + i ≡ suc (n + i) = omega arith in
    get_drop n xs i ∙ ap (λ (k : ℕ). slice_get (x ∷ xs) k) (sym e)

get_take : (n : ℕ) (xs : Bytes) (i : ℕ) → i < n → slice_get (take n xs) i ≡ slice_get xs i
get_take zero xs i h = absurd (omega (arith, h))
get_take (suc n) [] i h = refl
get_take (suc n) (x ∷ xs) zero h = refl
get_take (suc n) (x ∷ xs) (suc i) h = get_take n xs i (omega (arith, h))

get_left : (xs ys : Bytes) (i : ℕ) → i < length xs → slice_get (xs ++ ys) i ≡ slice_get xs i
get_left [] ys i h = absurd (omega (arith, h))
get_left (x ∷ xs) ys zero h = refl
get_left (x ∷ xs) ys (suc i) h = get_left xs ys i (omega (arith, h))

get_right : (xs ys : Bytes) (i : ℕ) → slice_get (xs ++ ys) (length xs + i) ≡ slice_get ys i
get_right [] ys i = let e : 0 + i ≡ i = omega arith in ap (λ (k : ℕ). slice_get ys k) e
get_right (x ∷ xs) ys i =
    let e : length (x ∷ xs) + i ≡ suc (length xs + i) = omega arith in
    ap (λ (k : ℕ). slice_get (x ∷ (xs ++ ys)) k) e ∙ get_right xs ys i

slice_length : (text : Bytes) (a b : ℕ) → b ≤ length text → length (slice_range text a b) ≡ b - a
slice_length text a b high = omega (arith, length-take (b - a) (drop a text), length-drop a text, high)

still : (text : Bytes) (from : ℕ) (ps : List Part) (place extent at : ℕ) → AreOrdered from ps → All (IsPartOf text) ps → AreClear ps place extent → from ≤ at → place ≤ at → at < place + extent → slice_get (replaced_from text from ps) (moved_from from ps at) ≡ slice_get text at
still text from [] place extent at o w c f h k =
    let e : from + (at - from) ≡ at = omega (arith, f) in
    get_drop from text (at - from) ∙ ap (λ (i : ℕ). slice_get text i) e
still text from (p ∷ ps) place extent at o w c f h k = by (λ x. still text p.end ps place extent at o.1.1 (All-tail (IsPartOf text) p ps w) c.1 x h k) c.0
  where
    inside : p.start ≤ length text
    inside = (All-head (IsPartOf text) p ps w).start_on.0

    by : (p.end ≤ at → slice_get (replaced_from text p.end ps) (moved_from p.end ps at) ≡ slice_get text at) → (place + extent ≤ p.start) ⊎ (p.end ≤ place) → slice_get (replaced_from text from (p ∷ ps)) (moved_from from (p ∷ ps) at) ≡ slice_get text at
    by more (inl x) =
        let lt : at < p.start = omega (arith, x, k) in
        let l : length (slice_range text from p.start) ≡ p.start - from = slice_length text from p.start inside in
        let a : length (slice_range text from p.start ++ p.new) ≡ length (slice_range text from p.start) + length p.new = length-append (slice_range text from p.start) p.new in
        let e : from + (at - from) ≡ at = omega (arith, f) in
        ap (λ (i : ℕ). slice_get (replaced_from text from (p ∷ ps)) i) (moved_low from p ps at lt)
        ∙ get_left (slice_range text from p.start ++ p.new) (replaced_from text p.end ps) (at - from) (omega (arith, l, a, lt, f))
        ∙ get_left (slice_range text from p.start) p.new (at - from) (omega (arith, l, lt, f))
        ∙ get_take (p.start - from) (drop from text) (at - from) (omega (arith, lt, f))
        ∙ get_drop from text (at - from)
        ∙ ap (λ (i : ℕ). slice_get text i) e
    by more (inr x) =
        let after : p.end ≤ at = omega (arith, x, h) in
        let begun : p.start ≤ at = omega (arith, after, o.1.0) in
        let l : length (slice_range text from p.start) ≡ p.start - from = slice_length text from p.start inside in
        let a : length (slice_range text from p.start ++ p.new) ≡ length (slice_range text from p.start) + length p.new = length-append (slice_range text from p.start) p.new in
        let e : moved_from from (p ∷ ps) at ≡ length (slice_range text from p.start ++ p.new) + moved_from p.end ps at = omega (arith, moved_high from p ps at begun, l, a) in
        ap (λ (i : ℕ). slice_get (replaced_from text from (p ∷ ps)) i) e
        ∙ get_right (slice_range text from p.start ++ p.new) (replaced_from text p.end ps) (moved_from p.end ps at)
        ∙ more after

pub agree : (text : Bytes) (e : Edit) (place extent k : ℕ) → InRange text e → is_met e.parts place extent ≡ false → k < extent → slice_get (apply_of text e) (moved e place + k) ≡ slice_get text (place + k)
agree text e place extent k r m h =
    let o : AreOrdered 0 e.parts = ordered text 0 e.parts (λ p i. omega arith) r.within r.apart in
    let c : AreClear e.parts place extent = clear e.parts place extent m in
    let s : moved e (place + k) ≡ moved e place + k = omega (arith, shifted 0 e.parts place extent (place + k) o c (omega arith) (omega arith) (omega (arith, h))) in
    ap (λ (i : ℕ). slice_get (apply_of text e) i) (sym s)
    ∙ still text 0 e.parts place extent (place + k) o r.within c (omega arith) (omega arith) (omega (arith, h))
