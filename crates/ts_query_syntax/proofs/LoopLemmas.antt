-- Lists whose checks are gone through one after another.
use Rattle.std.proofs.Common.{◌≡◌, ◌∙◌, sym, ap, subst, refl, ℕ, zero, suc, ◌+◌, ◌<◌, ◌≤◌, List, [], ◌∷◌, map, ◌++◌, length, get_or, take, drop, Some}
use Rattle.std.specs.Prelude.{Option, None}
use Rattle.std.specs.List.{flat_map}
use Rattle.std.proofs.lemmas.List.{take_more, take_all, append-nil}
use Rattle.std.proofs.lemmas.List.Concat.{flat_map-append}
use Rattle.ts_query_names.specs.Checks.{Check}
use Rattle.ts_query_syntax.specs.declared.fault.QueryFault.{QueryFault}
use Rattle.ts_query_syntax.specs.declared.fault.QueryFault.TheVariants as fault
use Rattle.ts_query_syntax.specs.Judging.{Kept, Runs}
use Rattle.ts_query_syntax.proofs.JudgingLemmas.{runs_then, runs_stop, runs_starved}

take_drop : {X : Type 0} (xs : List X) (n : ℕ) → take n xs ++ drop n xs ≡ xs
take_drop [] zero = refl
take_drop [] (suc n) = refl
take_drop (y ∷ xs) zero = refl
take_drop {X = X} (y ∷ xs) (suc n) = ap (λ (zs : List X). y ∷ zs) (take_drop xs n)

module _ {X : Type 0} (f : X → List Check) (all : List X) (i : ℕ) where
  pub runs_more : (x : X) (s m t : Kept) (a : Option QueryFault) → i < length all → x ≡ get_or all i x
      → Runs (flat_map f (take i all)) s m None → Runs (f x) m t a → Runs (flat_map f (take (i + 1) all)) s t a
  runs_more x s m t a lt is before next =
      subst (λ (cs : List Check). Runs cs s t a) step (runs_then (flat_map f (take i all)) (f x) s m t a None before refl next)
    where
      step : flat_map f (take i all) ++ f x ≡ flat_map f (take (i + 1) all)
      step =
          ap (λ (xs : List Check). flat_map f (take i all) ++ xs) (sym (append-nil (f x)))
          ∙ sym (flat_map-append f (take i all) (x ∷ []))
          ∙ ap (flat_map f) (ap (λ (y : X). take i all ++ y ∷ []) is ∙ sym (take_more all i x lt))

  pub runs_end : (s t : Kept) → length all ≤ i → Runs (flat_map f (take i all)) s t None → Runs (flat_map f all) s t None
  runs_end s t le run = subst (λ (xs : List X). Runs (flat_map f xs) s t None) (take_all i all le) run

  -- it stops at one of the list
  pub runs_halt : (x : X) (s m t : Kept) (e : QueryFault) → i < length all → x ≡ get_or all i x
      → Runs (flat_map f (take i all)) s m None → Runs (f x) m t (Some e) → Runs (flat_map f all) s t (Some e)
  runs_halt x s m t e lt is before next =
      subst (λ (xs : List X). Runs (flat_map f xs) s t (Some e)) (take_drop all (i + 1))
      (subst (λ (cs : List Check). Runs cs s t (Some e)) (sym (flat_map-append f (take (i + 1) all) (drop (i + 1) all)))
      (runs_stop (flat_map f (take (i + 1) all)) (flat_map f (drop (i + 1) all)) s t e (Some e) (runs_more x s m t (Some e) lt is before next) refl))

  -- memory runs out behind one of the list
  pub runs_out : (x : X) (s m t : Kept) → i < length all → x ≡ get_or all i x
      → Runs (flat_map f (take i all)) s m None → Runs (f x) m t None → Runs (flat_map f all) s t (Some fault.Memory)
  runs_out x s m t lt is before next = runs_halt x s m t fault.Memory lt is before (runs_starved (f x) m t None next refl)

-- a list whose values are told
pub flat_told : {X Y Z : Type 0} (f : Y → List Z) (told : X → Y) (xs : List X) → flat_map (λ (x : X). f (told x)) xs ≡ flat_map f (map told xs)
flat_told f told [] = refl
flat_told {Z = Z} f told (x ∷ xs) = ap (λ (zs : List Z). f (told x) ++ zs) (flat_told f told xs)
