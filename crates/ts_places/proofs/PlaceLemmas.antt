-- The heads at a place, of those from a number on.
use Rattle.std.proofs.Common.{◌≡◌, ◌∙◌, sym, ap, subst, ℕ, ◌+◌, ◌<◌, ◌≤◌, ◌⊎◌, inl, inr, List, [], ◌∷◌, ◌++◌, length, slice_get, Some, arith}
use Rattle.std.specs.List.{Contains}
use Rattle.std.proofs.lemmas.Bool.{cases_order}
use Rattle.std.proofs.lemmas.List.Elements.{Contains-append_left, Contains-push, Contains-push_cases}
use Rattle.std.proofs.lemmas.Option.{slice_get_within}
use Rattle.spec_graph.specs.declared.graph.Head.{Head}
use Rattle.ts_graph.specs.declared.view.GraphView.{GraphView}
use Rattle.ts_places.specs.Looking.{IsHeadAt, AreHeadsAt, AreHeadsUpTo}
use Rattle.ts_places.proofs.SmallLemmas.{none_contained}

module _ (g : GraphView) (from look : ℕ) where
  pub none_yet : (heads : List ℕ) → heads ≡ [] → AreHeadsUpTo g from from look heads
  none_yet heads e = record {
    past = omega arith;
    are = λ h. ((λ w. absurd (none_contained h (subst (λ (l : List ℕ). Contains l h) e w))), (λ v. absurd (let a = v.0 in let b = v.1 in omega (arith, a, b))));
  }

  module _ (k : ℕ) (heads : List ℕ) (a : AreHeadsUpTo g from k look heads) (head : Head) (is : slice_get g.heads k ≡ Some head) where
    pub one_past : (head.place ≡ look → ⊥) → AreHeadsUpTo g from (k + 1) look heads
    one_past other = record {
      past = let p = a.past in omega (arith, p);
      are = λ h. ((λ w. let v = (a.are h).0 w in (v.0, (let b = v.1 in omega (arith, b)), v.2)), (λ v. by h v.0 v.1 v.2 (cases_order h k)));
    }
      where
        by : (h : ℕ) → from ≤ h → h < k + 1 → IsHeadAt g look h → (h ≡ k) ⊎ ((h < k) ⊎ (k < h)) → Contains heads h
        by h low high st (inl e) =
            let f : Some st.0 ≡ Some head = sym st.1 ∙ ap (λ (n : ℕ). slice_get g.heads n) e ∙ is in
            let one : st.0 ≡ head = cc in
            absurd (other (sym (ap (λ (x : Head). x.place) one) ∙ st.2))
        by h low high st (inr (inl lt)) = (a.are h).1 (low, lt, st)
        by h low high st (inr (inr lt)) = absurd (omega (arith, high, lt))

    pub one_there : (more : List ℕ) → more ≡ heads ++ k ∷ [] → head.place ≡ look → AreHeadsUpTo g from (k + 1) look more
    one_there more more_is place_is = record {
      past = let p = a.past in omega (arith, p);
      are = λ h. ((λ w. forth h (Contains-push_cases heads k h (subst (λ (l : List ℕ). Contains l h) more_is w))), (λ v. subst (λ (l : List ℕ). Contains l h) (sym more_is) (back h v.0 v.1 v.2 (cases_order h k))));
    }
      where
        forth : (h : ℕ) → Contains heads h ⊎ (k ≡ h) → (from ≤ h) × (h < k + 1) × IsHeadAt g look h
        forth h (inl w) = let v = (a.are h).0 w in (v.0, (let b = v.1 in omega (arith, b)), v.2)
        forth h (inr e) = ((let p = a.past in omega (arith, p, e)), (omega (arith, e)), subst (λ (n : ℕ). IsHeadAt g look n) e (head, is, place_is))

        back : (h : ℕ) → from ≤ h → h < k + 1 → IsHeadAt g look h → (h ≡ k) ⊎ ((h < k) ⊎ (k < h)) → Contains (heads ++ k ∷ []) h
        back h low high st (inl e) = subst (λ (n : ℕ). Contains (heads ++ k ∷ []) n) (sym e) (Contains-push heads k)
        back h low high st (inr (inl lt)) = Contains-append_left heads (k ∷ []) h ((a.are h).1 (low, lt, st))
        back h low high st (inr (inr lt)) = absurd (omega (arith, high, lt))

  pub all_there : (k : ℕ) (heads : List ℕ) → AreHeadsUpTo g from k look heads → length g.heads ≤ k → AreHeadsAt g from look heads
  all_there k heads a many h = (
    (λ w. let v = (a.are h).0 w in (v.0, v.2)),
    (λ v. (a.are h).1 (v.0, (let low = slice_get_within g.heads h v.1.0 v.1.1 in omega (arith, low, many)), v.1)),
  )
