-- Where an edit moves places, and what its parts meet.
use Rattle.std.proofs.Common.{◌≡◌, ℕ, suc, ◌+◌, ◌-◌, ◌<◌, ◌≤◌, ◌⊎◌, inl, inr, sym, ap, ◌∙◌, refl, arith, Bool, true, false, true≢false, ◌||◌, nat_lt, List, [], ◌∷◌, length, slice_get, Some, All}
use Rattle.std.proofs.lemmas.List.Elements.{All-head, All-tail}
use Rattle.ts_base.specs.Bytes.{Bytes}
use Rattle.ts_text.specs.declared.edit.Part.{Part}
use Rattle.ts_text.specs.Edit.{IsPartOf, AreApart}
use Rattle.spec_reuse.specs.Changes.{is_met_by, is_met, moved_from}
use Rattle.ts_marks.specs.Parts.{AreOrdered}

-- ---- tests of numbers

lower : (a b : ℕ) → nat_lt a b ≡ true → a < b
lower a b e = grind arith

not_lower : (a b : ℕ) → nat_lt a b ≡ false → b ≤ a
not_lower a b e = grind arith

pub is_lower : (a b : ℕ) → a < b → nat_lt a b ≡ true
is_lower a b h = by (nat_lt a b) refl
  where
    by : (t : Bool) → nat_lt a b ≡ t → nat_lt a b ≡ true
    by true e = e
    by false e = absurd (omega (arith, h, not_lower a b e))

pub is_not_lower : (a b : ℕ) → b ≤ a → nat_lt a b ≡ false
is_not_lower a b h = by (nat_lt a b) refl
  where
    by : (t : Bool) → nat_lt a b ≡ t → nat_lt a b ≡ false
    by true e = absurd (omega (arith, h, lower a b e))
    by false e = e

-- ---- parts in order

pub ordered : (text : Bytes) (from : ℕ) (ps : List Part) → ((p : Part) → slice_get ps 0 ≡ Some p → from ≤ p.start) → All (IsPartOf text) ps → AreApart ps → AreOrdered from ps
ordered text from [] first within apart = tt
ordered text from (p ∷ ps) first within apart =
    let own : IsPartOf text p = All-head (IsPartOf text) p ps within in
    (first p refl, (own.ordered, ordered text p.end ps (λ q e. omega (arith, apart 0 p q refl e)) (All-tail (IsPartOf text) p ps within) (λ k a b e f. apart (suc k) a b e f)))

-- ---- where places go

pub moved_low : (from : ℕ) (p : Part) (ps : List Part) (place : ℕ) → place < p.start → moved_from from (p ∷ ps) place ≡ place - from
moved_low from p ps place h = rw (is_lower place p.start h) refl

pub moved_high : (from : ℕ) (p : Part) (ps : List Part) (place : ℕ) → p.start ≤ place → moved_from from (p ∷ ps) place ≡ (p.start - from) + (length p.new + moved_from p.end ps place)
moved_high from p ps place h = rw (is_not_lower place p.start h) refl

pub less_or : (a b : ℕ) → (a < b) ⊎ (b ≤ a)
less_or a b = by (nat_lt a b) refl
  where
    by : (t : Bool) → nat_lt a b ≡ t → (a < b) ⊎ (b ≤ a)
    by true e = inl (lower a b e)
    by false e = inr (not_lower a b e)

pub moved_rises : (from : ℕ) (ps : List Part) (a b : ℕ) → a ≤ b → moved_from from ps a ≤ moved_from from ps b
moved_rises from [] a b h = omega (arith, h)
moved_rises from (p ∷ ps) a b h = by (less_or a p.start) (less_or b p.start) (moved_rises p.end ps a b h)
  where
    by : (a < p.start) ⊎ (p.start ≤ a) → (b < p.start) ⊎ (p.start ≤ b) → moved_from p.end ps a ≤ moved_from p.end ps b → moved_from from (p ∷ ps) a ≤ moved_from from (p ∷ ps) b
    by (inl x) (inl y) r = omega (arith, moved_low from p ps a x, moved_low from p ps b y, h)
    by (inl x) (inr y) r = omega (arith, moved_low from p ps a x, moved_high from p ps b y, x)
    by (inr x) (inl y) r = absurd (omega (arith, x, y, h))
    by (inr x) (inr y) r = omega (arith, moved_high from p ps a x, moved_high from p ps b y, r)

-- ---- what is met

-- so many bytes from a place on are clear of each part
abbrev pub AreClear : List Part → ℕ → ℕ → Type 0
AreClear [] place extent = Unit {0}
AreClear (p ∷ ps) place extent = ((place + extent ≤ p.start) ⊎ (p.end ≤ place)) × AreClear ps place extent

clear_of : (p : Part) (place extent : ℕ) → is_met_by place extent p ≡ false → (place + extent ≤ p.start) ⊎ (p.end ≤ place)
clear_of p place extent e = by (nat_lt p.start (place + extent)) (nat_lt place p.end) refl refl
  where
    by : (a b : Bool) → nat_lt p.start (place + extent) ≡ a → nat_lt place p.end ≡ b → (place + extent ≤ p.start) ⊎ (p.end ≤ place)
    by false b f g = inl (not_lower p.start (place + extent) f)
    by true false f g = inr (not_lower place p.end g)
    by true true f g = absurd (let h : is_met_by place extent p ≡ true = rw (f, g) refl in true≢false (sym h ∙ e))

of_clear : (p : Part) (place extent : ℕ) → (place + extent ≤ p.start) ⊎ (p.end ≤ place) → is_met_by place extent p ≡ false
of_clear p place extent (inl h) = rw (is_not_lower p.start (place + extent) h) refl
of_clear p place extent (inr h) = by (nat_lt p.start (place + extent)) refl
  where
    by : (a : Bool) → nat_lt p.start (place + extent) ≡ a → is_met_by place extent p ≡ false
    by true f = rw (f, is_not_lower place p.end h) refl
    by false f = rw f refl

pub met_here : (p : Part) (ps : List Part) (place extent : ℕ) (b : Bool) → is_met_by place extent p ≡ b → is_met (p ∷ ps) place extent ≡ (b || is_met ps place extent)
met_here p ps place extent b e = ap (λ (x : Bool). x || is_met ps place extent) e

pub clear : (ps : List Part) (place extent : ℕ) → is_met ps place extent ≡ false → AreClear ps place extent
clear [] place extent e = tt
clear (p ∷ ps) place extent e = by (clear ps place extent) (is_met_by place extent p) refl
  where
    by : (is_met ps place extent ≡ false → AreClear ps place extent) → (b : Bool) → is_met_by place extent p ≡ b → AreClear (p ∷ ps) place extent
    by rest true f = absurd (true≢false (sym (met_here p ps place extent true f) ∙ e))
    by rest false f = (clear_of p place extent f, rest (sym (met_here p ps place extent false f) ∙ e))

pub unmet : (ps : List Part) (place extent : ℕ) → AreClear ps place extent → is_met ps place extent ≡ false
unmet [] place extent h = refl
unmet (p ∷ ps) place extent h = met_here p ps place extent false (of_clear p place extent h.0) ∙ unmet ps place extent h.1

pub clear_inside : (ps : List Part) (place extent at more : ℕ) → place ≤ at → at + more ≤ place + extent → AreClear ps place extent → AreClear ps at more
clear_inside [] place extent at more h k c = tt
clear_inside (p ∷ ps) place extent at more h k c = (by c.0, clear_inside ps place extent at more h k c.1)
  where
    by : (place + extent ≤ p.start) ⊎ (p.end ≤ place) → (at + more ≤ p.start) ⊎ (p.end ≤ at)
    by (inl x) = inl (omega (arith, x, k))
    by (inr x) = inr (omega (arith, x, h))

-- all places of bytes that are clear of an edit move by as much
pub shifted : (from : ℕ) (ps : List Part) (place extent at : ℕ) → AreOrdered from ps → AreClear ps place extent → from ≤ place → place ≤ at → at < place + extent → moved_from from ps at ≡ moved_from from ps place + (at - place)
shifted from [] place extent at o c f h k = omega (arith, f, h)
shifted from (p ∷ ps) place extent at o c f h k = by (λ x. shifted p.end ps place extent at o.1.1 c.1 x h k) c.0
  where
    by : (p.end ≤ place → moved_from p.end ps at ≡ moved_from p.end ps place + (at - place)) → (place + extent ≤ p.start) ⊎ (p.end ≤ place) → moved_from from (p ∷ ps) at ≡ moved_from from (p ∷ ps) place + (at - place)
    by rest (inl x) = omega (arith, moved_low from p ps at (omega (arith, x, k)), moved_low from p ps place (omega (arith, x, h, k)), f, h)
    by rest (inr x) =
        let s : p.start ≤ place = omega (arith, x, o.1.0) in
        omega (arith, moved_high from p ps at (omega (arith, s, h)), moved_high from p ps place s, rest x)

-- parts that end at a place or before it are left behind
pub met_behind : (p : Part) (ps : List Part) (place extent : ℕ) → p.end ≤ place → is_met (p ∷ ps) place extent ≡ is_met ps place extent
met_behind p ps place extent h = met_here p ps place extent false (of_clear p place extent (inr h))

-- where a part ends behind a place, it alone tells whether some part is met
pub met_first : (from : ℕ) (p : Part) (ps : List Part) (place extent : ℕ) → AreOrdered from (p ∷ ps) → place < p.end → (is_met (p ∷ ps) place extent ≡ true → p.start < place + extent) × (p.start < place + extent → is_met (p ∷ ps) place extent ≡ true)
met_first from p ps place extent o h = (by (less_or p.start (place + extent)), yes')
  where
    yes' : p.start < place + extent → is_met (p ∷ ps) place extent ≡ true
    yes' k = let m : is_met_by place extent p ≡ true = rw (is_lower p.start (place + extent) k, is_lower place p.end h) refl in met_here p ps place extent true m

    rest : (end : ℕ) (qs : List Part) → AreOrdered end qs → place + extent ≤ end → AreClear qs place extent
    rest end [] i j = tt
    rest end (q ∷ qs) i j = (inl (omega (arith, i.0, j)), rest q.end qs i.1.1 (omega (arith, i.0, i.1.0, j)))

    by : (p.start < place + extent) ⊎ (place + extent ≤ p.start) → is_met (p ∷ ps) place extent ≡ true → p.start < place + extent
    by (inl k) e = k
    by (inr k) e = absurd (true≢false (sym e ∙ unmet (p ∷ ps) place extent (inl k, rest p.end ps o.1.1 (omega (arith, k, o.1.0)))))
