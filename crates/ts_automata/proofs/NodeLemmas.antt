-- What one node asks for and takes, by its kind.
use Rattle.std.proofs.Common.{◌≡◌, ◌∙◌, sym, ap, subst, ℕ, ◌≤◌, ◌⊎◌, inl, inr, List, length, slice_get, Some, None}
use Rattle.std.proofs.lemmas.Option.{slice_get_past}
use Rattle.ts_automata.specs.declared.node.Node.{Node}
use Rattle.ts_automata.specs.declared.node.Node.TheVariants.{Take, Split, End}
use Rattle.spec_lexing.specs.Words.{IsInRanges}
use Rattle.ts_automata.specs.Reads.{Takes, Splits}
use Rattle.ts_automata.specs.Sets.{Adds}
use Rattle.ts_automata.proofs.AddsLemmas.{adds_none, adds_same}

module _ (T : List Node) (s : ℕ) where
  pub past_splits : (xs : List ℕ) → length T ≤ s → Adds (Splits T s) xs xs
  past_splits xs past = adds_none (Splits T s) xs (λ i h. let e = slice_get_past T s past in let at = h.at in let f : None ≡ Some (Split h.left h.right) = sym e ∙ at in cc)

  pub take_splits : (xs : List ℕ) (ranges : List (ℕ × ℕ)) (a : ℕ) → slice_get T s ≡ Some (Take ranges a) → Adds (Splits T s) xs xs
  take_splits xs ranges a is = adds_none (Splits T s) xs (λ i h. let at = h.at in let f : Some (Take ranges a) ≡ Some (Split h.left h.right) = sym is ∙ at in cc)

  pub end_splits : (xs : List ℕ) → slice_get T s ≡ Some End → Adds (Splits T s) xs xs
  end_splits xs is = adds_none (Splits T s) xs (λ i h. let at = h.at in let f : Some End ≡ Some (Split h.left h.right) = sym is ∙ at in cc)

  way_of : (i l r x y : ℕ) → (i ≡ x) ⊎ (i ≡ y) → x ≡ l → y ≡ r → (i ≡ l) ⊎ (i ≡ r)
  way_of i l r x y (inl e) left right = inl (e ∙ left)
  way_of i l r x y (inr e) left right = inr (e ∙ right)

  pub split_splits : (xs ys : List ℕ) (l r : ℕ) → slice_get T s ≡ Some (Split l r) → Adds (λ i. (i ≡ l) ⊎ (i ≡ r)) xs ys → Adds (Splits T s) xs ys
  split_splits xs ys l r is a = adds_same (λ i. (i ≡ l) ⊎ (i ≡ r)) (Splits T s) xs ys a
      (λ i h. record { left = l; right = r; at = is; way = h })
      (λ i h.
      let at = h.at in
      let f : Some (Split h.left h.right) ≡ Some (Split l r) = sym at ∙ is in
      let left : h.left ≡ l = cc in
      let right : h.right ≡ r = cc in
      way_of i l r h.left h.right h.way left right)

  pub past_takes : (c : ℕ) (xs : List ℕ) → length T ≤ s → Adds (Takes T s c) xs xs
  past_takes c xs past = adds_none (Takes T s c) xs (λ i h. let e = slice_get_past T s past in let at = h.at in let f : None ≡ Some (Take h.ranges i) = sym e ∙ at in cc)

  pub split_takes : (c : ℕ) (xs : List ℕ) (l r : ℕ) → slice_get T s ≡ Some (Split l r) → Adds (Takes T s c) xs xs
  split_takes c xs l r is = adds_none (Takes T s c) xs (λ i h. let at = h.at in let f : Some (Split l r) ≡ Some (Take h.ranges i) = sym is ∙ at in cc)

  pub end_takes : (c : ℕ) (xs : List ℕ) → slice_get T s ≡ Some End → Adds (Takes T s c) xs xs
  end_takes c xs is = adds_none (Takes T s c) xs (λ i h. let at = h.at in let f : Some End ≡ Some (Take h.ranges i) = sym is ∙ at in cc)

  pub other_takes : (c : ℕ) (xs : List ℕ) (ranges : List (ℕ × ℕ)) (a : ℕ) → slice_get T s ≡ Some (Take ranges a) → (IsInRanges ranges c → ⊥) → Adds (Takes T s c) xs xs
  other_takes c xs ranges a is out = adds_none (Takes T s c) xs (λ i h.
      let at = h.at in
      let f : Some (Take h.ranges i) ≡ Some (Take ranges a) = sym at ∙ is in
      let same : h.ranges ≡ ranges = cc in
      out (subst (λ (l : List (ℕ × ℕ)). IsInRanges l c) same h.member))

  pub one_takes : (c : ℕ) (xs ys : List ℕ) (ranges : List (ℕ × ℕ)) (a : ℕ) → slice_get T s ≡ Some (Take ranges a) → IsInRanges ranges c → Adds (λ i. i ≡ a) xs ys → Adds (Takes T s c) xs ys
  one_takes c xs ys ranges a is member adds = adds_same (λ i. i ≡ a) (Takes T s c) xs ys adds
      (λ i h. record { ranges = ranges; at = is ∙ ap (λ (m : ℕ). Some (Take ranges m)) (sym h); member = member })
      (λ i h.
      let at = h.at in
      let f : Some (Take h.ranges i) ≡ Some (Take ranges a) = sym at ∙ is in
      let same : i ≡ a = cc in
      same)
