-- The loop that goes along a list, and adds what each element asks for, makes the least set.
use Rattle.std.proofs.Common.{◌≡◌, ◌∙◌, sym, ap, subst, ℕ, ◌+◌, ◌<◌, ◌≤◌, ⊎_elim, List, [], length, slice_get, Some, arith, ◌↔◌}
use Rattle.std.specs.List.{Contains}
use Rattle.std.proofs.lemmas.List.Elements.{Contains-append_left, Contains-append_cases}
use Rattle.ts_automata.specs.Sets.{Adds, Least, given, asked}
use Rattle.ts_automata.proofs.ListLemmas.{cases_lt_or_eq, there, at_of}
use Rattle.ts_base.proofs.PlaceLemmas.{in_prefix}

-- what the loop keeps
pub record Closing {X : Type 0} (Asks : X → X → Type 0) (kernel found : List X) (next : ℕ) : Type 0 where
  pub sound : (i : X) → Contains found i → Least Asks kernel i
  pub base : (i : X) → Contains kernel i → Contains found i
  pub done : (k : ℕ) (i j : X) → k < next → slice_get found k ≡ Some i → Asks i j → Contains found j

module _ {X : Type 0} (Asks : X → X → Type 0) where
  pub closing_begins : (kernel found : List X) → Adds (Contains kernel) [] found → Closing Asks kernel found 0
  closing_begins kernel found adds = record {
    sound = λ i h. given i (adds.only i (subst (λ (l : List X). Contains l i) adds.is h));
    base = λ i h. adds.added i h;
    done = λ k i j below at e. absurd (omega arith);
  }

  pub closing_more : (kernel found new : List X) (next : ℕ) (from : X) → next < length found → slice_get found next ≡ Some from → Closing Asks kernel found next → Adds (Asks from) found new
      → Closing Asks kernel new (next + 1)
  closing_more kernel found new next from below at before adds = record {
    sound = λ i h. ⊎_elim (λ w. before.sound i w) (λ w. asked from i (before.sound from (there found next from at)) (adds.only i w))
        (Contains-append_cases found adds.more i (subst (λ (l : List X). Contains l i) adds.is h));
    base = λ i h. kept i (before.base i h);
    done = λ k i j lt is e. ⊎_elim
        (λ w. kept j (before.done k i j w (old k i (omega arith) is) e))
        (λ w. adds.added j (subst (λ (x : X). Asks x j) (same i (subst (λ (m : ℕ). slice_get new m ≡ Some i) w is)) e))
        (cases_lt_or_eq k next lt);
  }
    where
      kept : (i : X) → Contains found i → Contains new i
      kept i h = subst (λ (l : List X). Contains l i) (sym adds.is) (Contains-append_left found adds.more i h)

      old : (k : ℕ) (i : X) → k < length found → slice_get new k ≡ Some i → slice_get found k ≡ Some i
      old k i lt is = sym (in_prefix found adds.more k lt) ∙ ap (λ (l : List X). slice_get l k) (sym adds.is) ∙ is

      same : (i : X) → slice_get new next ≡ Some i → i ≡ from
      same i is = let e : Some i ≡ Some from = sym (old next i below is) ∙ at in cc

  pub closed : (kernel found : List X) (next : ℕ) → length found ≤ next → Closing Asks kernel found next → (i : X) → Contains found i ↔ Least Asks kernel i
  closed kernel found next past c i = ((λ h. c.sound i h), (λ h. all i h))
    where
      all : (i : X) → Least Asks kernel i → Contains found i
      all i (given _ h) = c.base i h
      all j (asked i _ h e) = let w = all i h in c.done w.0 i j (let lt = w.1 in omega arith) (at_of found i w) e
