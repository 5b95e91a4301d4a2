-- One part after another of an edit that is gone through.
use Rattle.std.proofs.Common.{◌≡◌, ℕ, zero, suc, ◌+◌, ◌-◌, ◌<◌, ◌≤◌, ◌⊎◌, inl, inr, sym, ap, subst, ◌∙◌, refl, arith, Bool, true, false, true≢false, nat_lt, List, [], ◌∷◌, length, drop, get_or, slice_get, Some}
use Rattle.std.proofs.lemmas.List.{drop_all}
use Rattle.std.proofs.lemmas.Option.{slice_get_read, slice_get_within}
use Rattle.ts_text.specs.declared.edit.Edit.{Edit}
use Rattle.ts_text.specs.declared.edit.Part.{Part}
use Rattle.spec_trees.specs.Made.{most_span}
use Rattle.spec_reuse.specs.Changes.{is_met, moved, moved_from}
use Rattle.ts_marks.specs.declared.passed.Passed.{Passed}
use Rattle.ts_marks.specs.Parts.{AreOrdered, IsPassed}
use Rattle.ts_marks.specs.Passing.{left_of, next_start_of, BeginsBy, EndsBy, HasNext, IsNextOf, IsTowards}
use Rattle.ts_marks.proofs.MovedLemmas.{moved_low, moved_high, met_behind, met_first, less_or, is_lower, is_not_lower}
use Rattle.ts_marks.proofs.MarkedLemmas.{drop_next}

-- ---- the first part that is left

pub part_at : (ps : List Part) (k : ℕ) → k < length ps → (p : Part) × (slice_get ps k ≡ Some p)
part_at [] k h = absurd (omega (arith, h))
part_at (p ∷ ps) zero h = (p, refl)
part_at (p ∷ ps) (suc k) h = part_at ps k (omega (arith, h))

left_at : (a : Passed) (p : Part) → slice_get a.edit.now.parts a.next ≡ Some p → left_of a ≡ p ∷ drop (a.next + 1) a.edit.now.parts
left_at a p e = drop_next a.edit.now.parts a.next p e

left_next : (a b : Passed) (n : IsNextOf a b) → left_of a ≡ n.part ∷ left_of b
left_next a b n = left_at a n.part n.there
    ∙ ap (λ (k : ℕ). n.part ∷ drop k a.edit.now.parts) (sym n.next)
    ∙ ap (λ (e : Edit). n.part ∷ drop b.next e.parts) (sym n.edit)

-- what an index reads in a list that is those parts
pub there_is : (ps qs : List Part) (k : ℕ) (o p : Part) → qs ≡ ps → slice_get ps k ≡ Some o → p ≡ get_or qs k p → slice_get ps k ≡ Some p
there_is ps qs k o p e s h =
    let within : k < length qs = subst (λ (xs : List Part). k < length xs) (sym e) (slice_get_within ps k o s) in
    subst (λ (xs : List Part). slice_get xs k ≡ Some p) e (slice_get_read qs (length qs) k p refl within h)

pub begun : (a : Passed) (p : Part) (place : ℕ) → slice_get a.edit.now.parts a.next ≡ Some p → BeginsBy (left_of a) place → p.start ≤ place
begun a p place e h = subst (λ (ps : List Part). BeginsBy ps place) (left_at a p e) h

pub ends : (a : Passed) (p : Part) (place : ℕ) → slice_get a.edit.now.parts a.next ≡ Some p → p.end ≤ place → EndsBy (left_of a) place
ends a p place e h = subst (λ (ps : List Part). EndsBy ps place) (sym (left_at a p e)) h

pub ended : (a : Passed) (p : Part) (place : ℕ) → slice_get a.edit.now.parts a.next ≡ Some p → EndsBy (left_of a) place → p.end ≤ place
ended a p place e h = subst (λ (ps : List Part). EndsBy ps place) (left_at a p e) h

pub none_begins : (a : Passed) (place : ℕ) → length a.edit.now.parts ≤ a.next → BeginsBy (left_of a) place → ⊥
none_begins a place h b = subst (λ (ps : List Part). BeginsBy ps place) (drop_all a.next a.edit.now.parts h) b

pub next_start_is : (a : Passed) (p : Part) → slice_get a.edit.now.parts a.next ≡ Some p → p.start ≡ next_start_of (left_of a)
next_start_is a p e = sym (ap next_start_of (left_at a p e))

pub no_next_start : (a : Passed) → length a.edit.now.parts ≤ a.next → 4294967295 ≡ next_start_of (left_of a)
no_next_start a h = sym (ap next_start_of (drop_all a.next a.edit.now.parts h))

-- ---- one part more

list_ends_begins : (from : ℕ) (ps : List Part) (place : ℕ) → AreOrdered from ps → EndsBy ps place → BeginsBy ps place
list_ends_begins from [] place o h = h
list_ends_begins from (p ∷ ps) place o h = omega (arith, o.1.0, h)

pub ends_begins : (a : Passed) (place : ℕ) → AreOrdered a.from (left_of a) → EndsBy (left_of a) place → BeginsBy (left_of a) place
ends_begins a place o h = list_ends_begins a.from (left_of a) place o h

pub towards : (a : Passed) (place : ℕ) → a.from ≤ place → IsTowards a place
towards a place h = record { left = a.passed.left; is = a.passed.moves place h }

some_begins : (a : Passed) (place : ℕ) → BeginsBy (left_of a) place → (p : Part) × (slice_get a.edit.now.parts a.next ≡ Some p)
some_begins a place b = by (less_or a.next (length a.edit.now.parts))
  where
    by : (a.next < length a.edit.now.parts) ⊎ (length a.edit.now.parts ≤ a.next) → (p : Part) × (slice_get a.edit.now.parts a.next ≡ Some p)
    by (inl h) = part_at a.edit.now.parts a.next h
    by (inr h) = absurd (none_begins a place h b)

pub has_next : (a : Passed) (place : ℕ) → IsTowards a place → BeginsBy (left_of a) place → moved a.edit.now place ≤ most_span → HasNext a
has_next a place w b short =
    let q = some_begins a place b in
    let l : left_of a ≡ q.0 ∷ drop (a.next + 1) a.edit.now.parts = left_at a q.0 q.1 in
    let o : AreOrdered a.from (q.0 ∷ drop (a.next + 1) a.edit.now.parts) = subst (λ (ps : List Part). AreOrdered a.from ps) l w.left in
    let m : moved_from a.from (left_of a) place ≡ moved_from a.from (q.0 ∷ drop (a.next + 1) a.edit.now.parts) place = ap (λ (ps : List Part). moved_from a.from ps place) l in
    record {
      part = q.0;
      there = q.1;
      after = o.0;
      short = omega (arith, w.is, m, moved_high a.from q.0 (drop (a.next + 1) a.edit.now.parts) place (begun a q.0 place q.1 b), short);
    }

next_left : (a b : Passed) (n : IsNextOf a b) → AreOrdered a.from (left_of a) → AreOrdered a.from (n.part ∷ left_of b)
next_left a b n o = subst (λ (ps : List Part). AreOrdered a.from ps) (left_next a b n) o

from_is : (a b : Passed) (n : IsNextOf a b) → AreOrdered a.from (left_of a) → AreOrdered b.from (left_of b)
from_is a b n o = subst (λ (k : ℕ). AreOrdered k (left_of b)) (sym n.from) (next_left a b n o).1.1

moved_next : (a b : Passed) (n : IsNextOf a b) (place : ℕ) → n.part.start ≤ place → a.to + moved_from a.from (left_of a) place ≡ b.to + moved_from b.from (left_of b) place
moved_next a b n place h =
    let m : moved_from a.from (left_of a) place ≡ moved_from a.from (n.part ∷ left_of b) place = ap (λ (ps : List Part). moved_from a.from ps place) (left_next a b n) in
    let f : moved_from n.part.end (left_of b) place ≡ moved_from b.from (left_of b) place = ap (λ (k : ℕ). moved_from k (left_of b) place) (sym n.from) in
    omega (arith, m, f, n.to, moved_high a.from n.part (left_of b) place h)

pub towards_next : (a b : Passed) (place : ℕ) → IsTowards a place → IsNextOf a b → BeginsBy (left_of a) place → IsTowards b place
towards_next a b place w n h =
    let s : n.part.start ≤ place = begun a n.part place n.there h in
    let e : moved b.edit.now place ≡ moved a.edit.now place = ap (λ (x : Edit). moved x place) n.edit in
    record {
      left = from_is a b n w.left;
      is = e ∙ w.is ∙ moved_next a b n place s;
    }

pub passed_next : (e : Edit) (next from to : ℕ) (p : Part) → IsPassed e next from to → slice_get e.parts next ≡ Some p → IsPassed e (next + 1) p.end (to + ((p.start - from) + length p.new))
passed_next e next from to p w there =
    let l : drop next e.parts ≡ p ∷ drop (next + 1) e.parts = drop_next e.parts next p there in
    let o : AreOrdered from (p ∷ drop (next + 1) e.parts) = subst (λ (ps : List Part). AreOrdered from ps) l w.left in
    record {
      whole = w.whole;
      left = o.1.1;
      moves = λ place h.
          let s : p.start ≤ place = omega (arith, o.1.0, h) in
          let m : moved_from from (drop next e.parts) place ≡ moved_from from (p ∷ drop (next + 1) e.parts) place = ap (λ (ps : List Part). moved_from from ps place) l in
          omega (arith, w.moves place (omega (arith, o.0, s)), m, moved_high from p (drop (next + 1) e.parts) place s);
      meets = λ place extent h.
          w.meets place extent (omega (arith, o.0, o.1.0, h))
          ∙ ap (λ (ps : List Part). is_met ps place extent) l
          ∙ met_behind p (drop (next + 1) e.parts) place extent h;
    }

pub fewer_left : (a b : Passed) → IsNextOf a b → length (left_of b) < length (left_of a)
fewer_left a b n =
    let l : length (left_of a) ≡ length (n.part ∷ left_of b) = ap (λ (ps : List Part). length ps) (left_next a b n) in
    omega (arith, l)

pub from_next : (a b : Passed) (place : ℕ) → IsNextOf a b → EndsBy (left_of a) place → b.from ≤ place
from_next a b place n h = omega (arith, n.from, ended a n.part place n.there h)

-- ---- the end

list_end : (from : ℕ) (ps : List Part) (place : ℕ) → (BeginsBy ps place → ⊥) → moved_from from ps place ≡ place - from
list_end from [] place h = refl
list_end from (p ∷ ps) place h = by (less_or place p.start)
  where
    by : (place < p.start) ⊎ (p.start ≤ place) → moved_from from (p ∷ ps) place ≡ place - from
    by (inl k) = moved_low from p ps place k
    by (inr k) = absurd (h k)

pub towards_end : (a : Passed) (place : ℕ) → IsTowards a place → (BeginsBy (left_of a) place → ⊥) → a.to + (place - a.from) ≡ moved a.edit.now place
towards_end a place w h = omega (arith, w.is, list_end a.from (left_of a) place h)

-- ---- what is met

pub met_left : (a : Passed) (place extent : ℕ) (p : Part) → a.from ≤ place → (EndsBy (left_of a) place → ⊥) → slice_get a.edit.now.parts a.next ≡ Some p
    → (is_met a.edit.now.parts place extent ≡ true → p.start < place + extent) × (p.start < place + extent → is_met a.edit.now.parts place extent ≡ true)
met_left a place extent p h n e =
    let l : left_of a ≡ p ∷ drop (a.next + 1) a.edit.now.parts = left_at a p e in
    let o : AreOrdered a.from (p ∷ drop (a.next + 1) a.edit.now.parts) = subst (λ (ps : List Part). AreOrdered a.from ps) l a.passed.left in
    let m : is_met a.edit.now.parts place extent ≡ is_met (p ∷ drop (a.next + 1) a.edit.now.parts) place extent = a.passed.meets place extent h ∙ ap (λ (ps : List Part). is_met ps place extent) l in
    let r = met_first a.from p (drop (a.next + 1) a.edit.now.parts) place extent o (by (less_or place p.end)) in
    (λ t. r.0 (sym m ∙ t), λ t. m ∙ r.1 t)
  where
    by : (place < p.end) ⊎ (p.end ≤ place) → place < p.end
    by (inl k) = k
    by (inr k) = absurd (n (ends a p place e k))

-- a test of numbers that says what some other test says
pub test_is : (a b : ℕ) (x : Bool) → (x ≡ true → a < b) → (a < b → x ≡ true) → nat_lt a b ≡ x
test_is a b true f g = is_lower a b (f refl)
test_is a b false f g = is_not_lower a b (by (less_or a b))
  where
    by : (a < b) ⊎ (b ≤ a) → b ≤ a
    by (inl h) = absurd (true≢false (sym (g h)))
    by (inr h) = h
