-- When an item could take more than it took.
use Rattle.std.proofs.Common.{◌≡◌, sym, subst, ℕ, ◌+◌, ◌-◌, ◌%◌, ◌<◌, ◌≤◌, ⊎_elim, List, Option, false, arith}
use Rattle.std.proofs.lemmas.Bool.{cases_lt}
use Rattle.std.proofs.Math.Nat.{zero-mod}
use Rattle.spec_matches.specs.declared.placing.Slot.{Slot}
use Rattle.spec_matches.specs.declared.placing.Run.{Run}
use Rattle.ts_search.specs.declared.stand.Stand.{Stand}
use Rattle.ts_search.specs.declared.stand.Siblings.{Siblings}
use Rattle.spec_matches.specs.declared.placing.Placing.{Placing}
use Rattle.ts_search.specs.Next.{Passes, TakesFirst}
use Rattle.ts_search.specs.Table.{Takes}
use Rattle.ts_search.specs.Steps.{NoneTaken, SomeFrom, SomeIn, TakesAt, Widens, WidensBy}
use Rattle.ts_search.proofs.NextLemmas.{passes_taken}
use Rattle.ts_search.proofs.PlaceLemmas.{cases_lt_or_eq}

pub none_more : (P : ℕ → Type 0) (from n : ℕ) → (SomeIn P from n → ⊥) → (P n → ⊥) → SomeIn P from (n + 1) → ⊥
none_more P from n before one h = ⊎_elim (λ lt. before (h.0, h.1, lt, h.3)) (λ e. one (subst P e h.3)) (cases_lt_or_eq h.0 n h.2)

pub no_offset : (m p : ℕ) → (p - p) % (m + 1) ≡ 0
no_offset m p = let e : p - p ≡ 0 = omega arith in subst (λ (d : ℕ). d % (m + 1) ≡ 0) (sym e) (zero-mod (m + 1))

module _ (s : Siblings) (is : List Slot) (at : Stand) (taken : Option Run) (tail : Placing) where
  abbrev pub By : Run → Type 0
  By run = WidensBy s is at taken tail run

  abbrev pub From : ℕ → Type 0
  From f = SomeFrom s is at taken tail f

  widens_of : (r : Run) → By r → From r.first
  widens_of r w =
      let some = w.placed.fits.some in
      let inside = w.placed.fits.inside in
      let e : r.past ≡ (r.past - 1) + 1 = omega arith in
      let same : r ≡ record { first = r.first; past = (r.past - 1) + 1 } = (λ k. record { first = r.first; past = e k }) in
      (r.past - 1, omega arith, omega arith, subst (WidensBy s is at taken tail) same w)

  -- no run begins where the item takes nothing
  pub none_before : (from : ℕ) → NoneTaken s at from → SomeIn From at.lo from → ⊥
  none_before from none (p, low, below, (q, after, inside, w)) =
      let x = w.placed.fits.covers p (omega arith) (omega arith) in
      none p low below (x.0, subst (λ (o : ℕ). Takes s.table at.number o p x.0) (no_offset at.slot.more p) x.1)

  -- .. nor where places are passed that it does not take
  pub none_passed : (from to : ℕ) → Passes (TakesFirst s.table false at.number) from to → (SomeIn From at.lo from → ⊥) → SomeIn From at.lo to → ⊥
  none_passed from to passes before (p, low, below, w) = ⊎_elim (λ lt. before (p, low, lt, w)) (λ le. at_last le w) (cases_lt p from)
    where
      at_last : from ≤ p → From p → ⊥
      at_last le (q, after, inside, w) =
          let x = w.placed.fits.covers p (omega arith) (omega arith) in
          passes_taken s.table at.number from to passes p le below (x.0, subst (λ (o : ℕ). Takes s.table at.number o p x.0) (no_offset at.slot.more p) x.1)

  pub none_widens : (first end : ℕ) → end ≤ first → ((at : Stand) (run : Run) → WidensBy s is at taken tail run → run.first < end) → (SomeIn From at.lo first → ⊥) → Widens s is at taken tail → ⊥
  none_widens first end past ends nothing w =
      let low = ends at w.run w.by in
      nothing (w.run.first, w.by.placed.after, omega arith, widens_of w.run w.by)

pub none_taken_more : (s : Siblings) (at : Stand) (p : ℕ) → NoneTaken s at p → (TakesAt s at p → ⊥) → NoneTaken s at (p + 1)
none_taken_more s at p none here q low below t = ⊎_elim (λ lt. none q low lt t) (λ e. here (subst (TakesAt s at) e t)) (cases_lt_or_eq q p below)

pub none_taken_before : (s : Siblings) (at : Stand) → NoneTaken s at at.lo
none_taken_before s at p low below t = omega (arith, low, below)

pub none_taken_on : (s : Siblings) (at : Stand) (from to : ℕ) → NoneTaken s at from → Passes (TakesFirst s.table false at.number) from to → NoneTaken s at to
none_taken_on s at from to none passes p low below t = ⊎_elim (λ lt. none p low lt t) (λ le. passes_taken s.table at.number from to passes p le below t) (cases_lt p from)
