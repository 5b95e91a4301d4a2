-- Sums over all views, and what holds of all views once one has changed.
use Rattle.std.proofs.Common.{◌≡◌, ◌≢◌, ◌∙◌, sym, ap, refl, subst, ℕ, zero, suc, ◌+◌, ◌<◌, ◌≤◌, ⊎_elim, true, false, List, [], ◌∷◌, ◌++◌, length, set, arith}
use Rattle.std.proofs.lemmas.Bool.{false≢true}
use mathlib.Core.Option.{some, some-injective, some-ne-none}
use lib.ListN.{get_elem?}
use Rattle.atomic_table.proofs.Lists.{at_set}
use Rattle.ts_shelf.specs.declared.view.View.{View}
use Rattle.ts_shelf.specs.Views.{sum_over}

pub within : {A : Type 0} (l : List A) (i : ℕ) (a : A) → get_elem? l i ≡ some a → i < length l
within [] i a e = absurd (some-ne-none a (sym e))
within (x ∷ xs) zero a e = omega arith
within (x ∷ xs) (suc i) a e = let h = within xs i a e in omega arith

module _ {S I : Type 0} where
  -- of each view after the change of one, where it held of the others before
  pub views_else : (views : List (View S I)) (id : ℕ) (w : View S I) (P : ℕ → View S I → Type 0)
      → ((k : ℕ) (u : View S I) → get_elem? views k ≡ some u → k ≢ id → P k u) → P id w
      → (k : ℕ) (u : View S I) → get_elem? (set views id w) k ≡ some u → P k u
  views_else views id w P others own k u at =
      ⊎_elim (λ t. subst (λ (m : ℕ). P m u) (sym t.0) (subst (λ (x : View S I). P id x) t.1 own))
      (λ t. others k u t.1 t.0) (at_set views id k w u at)

  -- the same, where it held of all before
  pub views_at : (views : List (View S I)) (id : ℕ) (w : View S I) (P : ℕ → View S I → Type 0)
      → ((k : ℕ) (u : View S I) → get_elem? views k ≡ some u → P k u) → P id w
      → (k : ℕ) (u : View S I) → get_elem? (set views id w) k ≡ some u → P k u
  views_at views id w P others own = views_else views id w P (λ k u e ne. others k u e) own

  -- one view holds a turn, another does not: they are two
  pub not_holding : (views : List (View S I)) (id k : ℕ) (v u : View S I)
      → get_elem? views id ≡ some v
      → v.notes.holds ≡ false → get_elem? views k ≡ some u → u.notes.holds ≡ true → k ≢ id
  not_holding views id k v u at free e holds same =
      let both : some u ≡ some v = sym e ∙ ap (get_elem? views) same ∙ at in
      false≢true
      (sym free ∙ ap (λ (x : View S I). x.notes.holds) (sym (some-injective u v both)) ∙ holds)

  pub total_append : (f : View S I → ℕ) (views : List (View S I)) (v : View S I)
      → sum_over f (views ++ v ∷ []) ≡ sum_over f views + f v
  total_append f [] v = omega arith
  total_append f (x ∷ xs) v = let h = total_append f xs v in omega arith

  pub member_total : (f : View S I → ℕ) (views : List (View S I)) (k : ℕ) (u : View S I)
      → get_elem? views k ≡ some u → f u ≤ sum_over f views
  member_total f [] k u e = absurd (some-ne-none u (sym e))
  member_total f (x ∷ xs) zero u e = let same : f x ≡ f u =
      ap f (some-injective x u e) in omega arith
  member_total f (x ∷ xs) (suc k) u e = let r = member_total f xs k u e in omega arith

  none_first : (f : View S I → ℕ) (views : List (View S I)) → sum_over (λ v. v.knows.first) views ≡ 0
      → ((k : ℕ) (u : View S I) → get_elem? views k ≡ some u → u.knows.first ≡ 0 → f u ≡ 0)
      → sum_over f views ≡ 0
  none_first f [] z each = refl
  none_first f (x ∷ xs) z each =
      let a = each 0 x refl (omega arith) in
      let b = none_first f xs (omega arith) (λ k u e. each (suc k) u e) in
      omega arith

  -- a sum to which only the first pass contributes
  pub sole : (f : View S I → ℕ) (views : List (View S I)) (k : ℕ) (v : View S I)
      → get_elem? views k ≡ some v
      → sum_over (λ v. v.knows.first) views ≡ 1 → v.knows.first ≡ 1
      → ((j : ℕ) (u : View S I) → get_elem? views j ≡ some u → u.knows.first ≡ 0 → f u ≡ 0)
      → sum_over f views ≡ f v
  sole f [] k v e one is each = absurd (some-ne-none v (sym e))
  sole f (x ∷ xs) zero v e one is each =
      let same : x ≡ v = some-injective x v e in
      let a = ap f same in
      let b = ap (λ (u : View S I). u.knows.first) same in
      let r = none_first f xs (omega arith) (λ k u e. each (suc k) u e) in
      omega arith
  sole f (x ∷ xs) (suc k) v e one is each =
      let m = member_total (λ (u : View S I). u.knows.first) xs k v e in
      let a = each 0 x refl (omega arith) in
      let r = sole f xs k v e (omega arith) is (λ j u e. each (suc j) u e) in
      omega arith

  -- the sum after a change of one view
  pub total_set : (f : View S I → ℕ) (views : List (View S I)) (k : ℕ) (v w : View S I)
      → get_elem? views k ≡ some v
      → sum_over f (set views k w) + f v ≡ sum_over f views + f w
  total_set f [] k v w at = absurd (some-ne-none v (sym at))
  total_set f (x ∷ xs) zero v w at = let e : f x ≡ f v = ap f (some-injective x v at) in omega arith
  total_set f (x ∷ xs) (suc k) v w at = let h = total_set f xs k v w at in omega arith

  pub same_total : (f : View S I → ℕ) (views : List (View S I)) (k : ℕ) (v w : View S I)
      → get_elem? views k ≡ some v → f w ≡ f v → sum_over f (set views k w) ≡ sum_over f views
  same_total f views k v w at e = let h = total_set f views k v w at in omega arith
