-- Entries with rising turns, of which the first ones were seen.
use Rattle.std.proofs.Common.{◌≡◌, ◌∙◌, sym, ap, subst, ℕ, zero, suc, ◌+◌, ◌<◌, ◌≤◌, ◌⊎◌, inl, inr, ⊎_elim, List, [], ◌∷◌, ◌++◌, slice_get, Some, None, arith}
use Rattle.ts_shelf.specs.declared.journal.Entry.{Entry}
use Rattle.ts_shelf.specs.Entries.{RisesWithin, Extends}

module _ {I : Type 0} where
  pub entries_late : (low high : ℕ) (es : List (Entry I)) → RisesWithin low high es → (place : ℕ) (e : Entry I) → slice_get es place ≡ Some e → low ≤ e.turn
  entries_late low high [] rises place e is = absurd (let f : None ≡ Some e = is in cc)
  entries_late low high (x ∷ es) rises zero e is =
      let same : x ≡ e = (let f : Some x ≡ Some e = is in cc) in
      subst (λ (y : Entry I). low ≤ y.turn) same rises.0
  entries_late low high (x ∷ es) rises (suc place) e is =
      let h : x.turn + 1 ≤ e.turn = entries_late (x.turn + 1) high es rises.2 place e is in let a = rises.0 in omega (arith, a, h)

  pub entries_early : (low high : ℕ) (es : List (Entry I)) → RisesWithin low high es → (place : ℕ) (e : Entry I) → slice_get es place ≡ Some e → e.turn < high
  entries_early low high [] rises place e is = absurd (let f : None ≡ Some e = is in cc)
  entries_early low high (x ∷ es) rises zero e is =
      let same : x ≡ e = (let f : Some x ≡ Some e = is in cc) in
      subst (λ (y : Entry I). y.turn < high) same rises.1
  entries_early low high (x ∷ es) rises (suc place) e is = entries_early (x.turn + 1) high es rises.2 place e is

  -- an entry was seen, or it has a later turn
  pub seen_or_late : (seen rest : List (Entry I)) (low high : ℕ) → RisesWithin low high rest → (place : ℕ) (e : Entry I)
      → slice_get (seen ++ rest) place ≡ Some e → (slice_get seen place ≡ Some e) ⊎ (low ≤ e.turn)
  seen_or_late [] rest low high rises place e is = inr (entries_late low high rest rises place e is)
  seen_or_late (x ∷ seen) rest low high rises zero e is = inl is
  seen_or_late (x ∷ seen) rest low high rises (suc place) e is = seen_or_late seen rest low high rises place e is

  pub early_was_seen : (low high : ℕ) (all seen : List (Entry I)) → Extends low high all seen → (place : ℕ) (e : Entry I)
      → slice_get all place ≡ Some e → e.turn < low → slice_get seen place ≡ Some e
  early_was_seen low high all seen more place e is early =
      ⊎_elim (λ w. w) (λ late. absurd (let f : ⊥ = omega (arith, late, early) in f))
      (seen_or_late seen more.0 low high more.2 place e (ap (λ (l : List (Entry I)). slice_get l place) (sym more.1) ∙ is))
