-- Lists that a relation holds between, place by place.
use Rattle.std.proofs.Common.{◌≡◌, ◌∙◌, sym, ap, subst, refl, ℕ, zero, suc, ◌+◌, ◌<◌, List, [], ◌∷◌, ◌++◌, length, slice_get, Some, arith}
use Rattle.ts_rules.specs.FirstSights.{Each, end, both}

module _ {X Y : Type 0} (R : X → Y → Type 0) where
  pub each_push : (xs : List X) (ys : List Y) (x : X) (y : Y) → Each R xs ys → R x y → Each R (xs ++ x ∷ []) (ys ++ y ∷ [])
  each_push _ _ x y end r = both x y [] [] r end
  each_push _ _ x y (both a b us vs s rest) r = both a b (us ++ x ∷ []) (vs ++ y ∷ []) s (each_push us vs x y rest r)

  pub each_at : (xs : List X) (ys : List Y) (k : ℕ) (x : X) (y : Y) → Each R xs ys → slice_get xs k ≡ Some x → slice_get ys k ≡ Some y → R x y
  each_at _ _ k x y end e f = let w : ⊥ = (let z : slice_get {X = X} [] k ≡ Some x = e in cc) in elim w [ ]
  each_at _ _ zero x y (both a b us vs s rest) e f =
      let g : Some a ≡ Some x = e in
      let h : Some b ≡ Some y = f in
      let p : a ≡ x = cc in
      let q : b ≡ y = cc in
      subst (λ (u : X). R u y) p (subst (λ (v : Y). R a v) q s)
  each_at _ _ (suc k) x y (both a b us vs s rest) e f = each_at us vs k x y rest e f

  pub each_from : (xs : List X) (ys : List Y) → length ys ≡ length xs → ((k : ℕ) (x : X) (y : Y) → slice_get xs k ≡ Some x → slice_get ys k ≡ Some y → R x y) → Each R xs ys
  each_from [] [] same r = end
  each_from [] (y ∷ ys) same r = absurd (omega arith)
  each_from (x ∷ xs) [] same r = absurd (omega arith)
  each_from (x ∷ xs) (y ∷ ys) same r = both x y xs ys (r 0 x y refl refl) (each_from xs ys (omega arith) (λ k u v e f. r (suc k) u v e f))
