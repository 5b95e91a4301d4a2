-- Results of queries that were asked at once, each at the place of its query.
use Rattle.std.proofs.Common.{◌≡◌, ◌∙◌, sym, ap, subst, ℕ, List, Option, Some, None, Result, Ok, Err, length, map, slice_get, get_or, option_map}
use Rattle.std.specs.Option.{IfSome}
use Rattle.std.specs.Result.{IfOk}
use Rattle.std.proofs.lemmas.List.{length-map}
use Rattle.std.proofs.lemmas.Option.{slice_get-map, get_or_from_slice_get}

module _ {X : Type 0} (P : ℕ → X → Type 0) (numbers : List ℕ) where
  -- what stands at the place of a number belongs to it, if anything does
  abbrev pub Belong : List (Option X) → Type 0
  Belong places = (index number : ℕ) → slice_get numbers index ≡ Some number → IfSome (get_or places index None) (P number)

  each_belongs : (results : List X) → Belong (map Some results)
      → (place number : ℕ) (result : X) → slice_get numbers place ≡ Some number → slice_get results place ≡ Some result → P number result
  each_belongs results belong place number result number_is result_is =
      subst (λ (o : Option X). IfSome o (P number))
      (get_or_from_slice_get (map Some results) place (Some result) None (slice_get-map Some results place ∙ ap (option_map Some) result_is))
      (belong place number number_is)

  -- where something stands at all places, what follows from each of them holds
  pub all_belong : {E : Type 0} (places : List (Option X)) → length places ≡ length numbers → Belong places
      → (Q : List X → Type 0)
      → ((results : List X) → length results ≡ length numbers
      → ((place number : ℕ) (result : X) → slice_get numbers place ≡ Some number → slice_get results place ≡ Some result → P number result) → Q results)
      → (r : Result (List X) E) → IfOk r (λ results. places ≡ map Some results) → IfOk r Q
  all_belong places count belong Q law (Ok results) there =
      law results (sym (length-map results Some) ∙ sym (ap length there) ∙ count) (each_belongs results (subst Belong there belong))
  all_belong places count belong Q law (Err e) there = tt
