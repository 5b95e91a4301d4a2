-- One stack alone, with all that lie below it by their numbers: what stays so.
use Rattle.std.proofs.Common.{◌≡◌, ◌∙◌, sym, ap, refl, subst, ℕ, zero, suc, ◌+◌, ◌<◌, ◌≤◌, ◌⊎◌, inl, inr, ⊎_elim, List, [], ◌∷◌, ◌++◌, length, length-append, take, Option, unwrap_or, arith}
use Rattle.std.proofs.lemmas.List.{length-take-le}
use Rattle.ts_base.proofs.PlaceLemmas.{in_prefix, at_end}
use Rattle.ts_gss.specs.declared.layer.Layer.{Layer}
use Rattle.ts_gss.specs.Stacks.{stack_at, LieInOne, IsOneStack}
use Rattle.ts_gss.proofs.CellLemmas.{stack_within}

-- the empty stack
pub one_first : IsOneStack ([] ∷ []) 0
one_first = record { count = refl; lie = record { lowest = refl; each = λ k low. absurd (omega (arith, low)) } }

at_or_below : (k n : ℕ) → k < suc n → (k ≡ n) ⊎ (k < n)
at_or_below zero zero lt = inl refl
at_or_below zero (suc n) lt = inr (omega arith)
at_or_below (suc k) zero lt = absurd (omega (arith, lt))
at_or_below (suc k) (suc n) lt = ⊎_elim (λ is. inl (ap suc is)) (λ less. inr (omega (arith, less))) (at_or_below k n (omega (arith, lt)))

-- others that have the same stacks up to this one
pub lie_same : (old new : List (List Layer)) (top below : ℕ) → LieInOne old top → below ≤ top → ((k : ℕ) → k ≤ below → stack_at new k ≡ stack_at old k) → LieInOne new below
lie_same old new top below lie low same = record {
  lowest = same 0 (omega arith) ∙ lie.lowest;
  each = λ k lt.
      let w = lie.each k (omega (arith, lt, low)) in
      (w.0, same (suc k) (omega (arith, lt)) ∙ w.1 ∙ ap (λ (ls : List Layer). w.0 ∷ ls) (sym (same k (omega (arith, lt)))));
}

-- others came behind them
pub lie_more : (old more new : List (List Layer)) (top : ℕ) → top < length old → new ≡ old ++ more → LieInOne old top → LieInOne new top
lie_more old more new top there is lie =
    lie_same old new top top lie (omega arith)
    (λ k low.
    ap (λ (ss : List (List Layer)). stack_at ss k) is
    ∙ ap (λ (o : Option (List Layer)). unwrap_or o []) (in_prefix old more k (omega (arith, there, low))))

-- one more layer
module _ (old : List (List Layer)) (below : ℕ) (l : Layer) (one : IsOneStack old below) where
  abbrev new : List (List Layer)
  new = old ++ (l ∷ stack_at old below) ∷ []

  stays : (k : ℕ) → k < length old → stack_at new k ≡ stack_at old k
  stays k low = ap (λ (o : Option (List Layer)). unwrap_or o []) (in_prefix old ((l ∷ stack_at old below) ∷ []) k low)

  last : stack_at new (length old) ≡ l ∷ stack_at old below
  last = ap (λ (o : Option (List Layer)). unwrap_or o []) (at_end old (l ∷ stack_at old below))

  on_top : (x : Layer) × (stack_at new (suc below) ≡ x ∷ stack_at new below)
  on_top =
      let n = one.count in
      (l, ap (λ (j : ℕ). stack_at new j) (sym n) ∙ last ∙ ap (λ (ls : List Layer). l ∷ ls) (sym (stays below (omega (arith, n)))))

  lower : (k : ℕ) → k < below → (x : Layer) × (stack_at new (suc k) ≡ x ∷ stack_at new k)
  lower k lt =
      let n = one.count in
      let w = one.lie.each k lt in
      (w.0, stays (suc k) (omega (arith, lt, n)) ∙ w.1 ∙ ap (λ (ls : List Layer). w.0 ∷ ls) (sym (stays k (omega (arith, lt, n)))))

  one_here : IsOneStack new (suc below)
  one_here =
      let n = one.count in
      let more = length-append old ((l ∷ stack_at old below) ∷ []) in
      record {
        count = omega (arith, n, more);
        lie = record {
          lowest = stays 0 (omega (arith, n)) ∙ one.lie.lowest;
          each = λ k low. ⊎_elim (λ is. subst (λ (j : ℕ). (x : Layer) × (stack_at new (suc j) ≡ x ∷ stack_at new j)) (sym is) on_top) (λ lt. lower k lt) (at_or_below k below low);
        };
      }

pub one_more : (old now : List (List Layer)) (below head : ℕ) (l : Layer) → IsOneStack old below → head ≡ length old → now ≡ old ++ (l ∷ stack_at old below) ∷ [] → IsOneStack now head
one_more old now below head l one head_is now_is =
    subst (λ (ss : List (List Layer)). IsOneStack ss head) (sym now_is) (subst (λ (n : ℕ). IsOneStack (old ++ (l ∷ stack_at old below) ∷ []) n) (sym (head_is ∙ one.count)) (one_here old below l one))

-- all above it are taken out, whatever became of them before
pub one_cut : (old mid now : List (List Layer)) (top below : ℕ) → LieInOne old top → below ≤ top → below < length mid → ((k : ℕ) → k ≤ below → stack_at mid k ≡ stack_at old k) → now ≡ take (below + 1) mid → IsOneStack now below
one_cut old mid now top below lie low there same is =
    let size : length now ≡ below + 1 = ap (λ (ss : List (List Layer)). length ss) is ∙ length-take-le (below + 1) mid (omega (arith, there)) in
    record {
      count = omega (arith, size);
      lie = lie_same old now top below lie low
          (λ k le. ap (λ (ss : List (List Layer)). stack_at ss k) is ∙ stack_within mid (below + 1) k (omega (arith, le)) (omega (arith, there)) ∙ same k le);
    }
