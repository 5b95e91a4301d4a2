-- The stacks of cells: one more cell is one more stack, and each cell's stack lies on an earlier one.
use Rattle.std.proofs.Common.{◌≡◌, ◌∙◌, sym, ap, refl, subst, ℕ, zero, suc, ◌+◌, ◌-◌, ◌<◌, ◌≤◌, List, [], ◌∷◌, ◌++◌, length, length-append, take, drop, slice_get, Some, None, Option, unwrap_or, ◌⊎◌, inl, inr, ⊎_elim, arith}
use Rattle.std.proofs.lemmas.List.{take-append-drop, take-append-le, take_all, length-take-le}
use Rattle.std.proofs.lemmas.Option.{slice_get_within}
use Rattle.ts_base.proofs.PlaceLemmas.{in_prefix, at_end, push_cases}
use Rattle.spec_trees.specs.Trees.{maximum, tree_depth}
use Rattle.ts_gss.specs.declared.layer.Layer.{Layer}
use Rattle.ts_gss.specs.declared.graph.Cell.{Cell}
use Rattle.ts_gss.specs.Stacks.{layer_of, stack_at, AreExact, depths_on}
use Rattle.ts_gss.specs.Cells.{with_cell, with_cells, stacks_of, LieAbove, NoneIsDeeper, AreExactTo}

many_with : (ss : List (List Layer)) (cs : List Cell) → length (with_cells ss cs) ≡ length ss + length cs
many_with ss [] = omega arith
many_with ss (c ∷ cs) = omega (arith, many_with (with_cell ss c) cs, length-append ss ((layer_of c ∷ stack_at ss c.below) ∷ []))

pub many_stacks : (cs : List Cell) → length (stacks_of cs) ≡ suc (length cs)
many_stacks cs = omega (arith, many_with ([] ∷ []) cs)

with_more : (ss : List (List Layer)) (cs : List Cell) (c : Cell) → with_cells ss (cs ++ c ∷ []) ≡ with_cell (with_cells ss cs) c
with_more ss [] c = refl
with_more ss (d ∷ cs) c = with_more (with_cell ss d) cs c

pub one_more : (cs : List Cell) (c : Cell) → stacks_of (cs ++ c ∷ []) ≡ stacks_of cs ++ (layer_of c ∷ stack_at (stacks_of cs) c.below) ∷ []
one_more cs c = with_more ([] ∷ []) cs c

earlier : (ss : List (List Layer)) (cs : List Cell) (j : ℕ) → j < length ss → slice_get (with_cells ss cs) j ≡ slice_get ss j
earlier ss [] j h = refl
earlier ss (c ∷ cs) j h =
    earlier (with_cell ss c) cs j (omega (arith, h, length-append ss ((layer_of c ∷ stack_at ss c.below) ∷ [])))
    ∙ in_prefix ss ((layer_of c ∷ stack_at ss c.below) ∷ []) j h

stack_earlier : (ss : List (List Layer)) (cs : List Cell) (j : ℕ) → j < length ss → stack_at (with_cells ss cs) j ≡ stack_at ss j
stack_earlier ss cs j h = ap (λ (o : Option (List Layer)). unwrap_or o []) (earlier ss cs j h)

stack_with : (ss : List (List Layer)) (cs : List Cell) (k : ℕ) (c : Cell) → slice_get cs k ≡ Some c → c.below < length ss + k → stack_at (with_cells ss cs) (length ss + k) ≡ layer_of c ∷ stack_at (with_cells ss cs) c.below
stack_with ss [] k c at low = absurd (let w = slice_get_within [] k c at in omega (arith, w))
stack_with ss (d ∷ cs) zero c at low =
    let h : Some d ≡ Some c = at in
    let e : d ≡ c = cc in
    let new : List Layer = layer_of d ∷ stack_at ss d.below in
    let there : length ss + 0 ≡ length ss = omega arith in
    let many = length-append ss (new ∷ []) in
    ap (λ (n : ℕ). stack_at (with_cells (with_cell ss d) cs) n) there
    ∙ stack_earlier (with_cell ss d) cs (length ss) (omega arith)
    ∙ ap (λ (o : Option (List Layer)). unwrap_or o []) (at_end ss new)
    ∙ ap (λ (x : Cell). layer_of x ∷ stack_at ss x.below) e
    ∙ ap (λ (l : List Layer). layer_of c ∷ l) (sym (stack_earlier (with_cell ss d) cs c.below (omega arith) ∙ ap (λ (o : Option (List Layer)). unwrap_or o []) (in_prefix ss (new ∷ []) c.below (omega arith))))
stack_with ss (d ∷ cs) (suc k) c at low =
    let new : List Layer = layer_of d ∷ stack_at ss d.below in
    let many = length-append ss (new ∷ []) in
    let there : length ss + suc k ≡ length (with_cell ss d) + k = omega arith in
    ap (λ (n : ℕ). stack_at (with_cells (with_cell ss d) cs) n) there
    ∙ stack_with (with_cell ss d) cs k c at (omega arith)

-- the stack of a cell
pub stack_of_cell : (cs : List Cell) (head : ℕ) (c : Cell) → LieAbove cs → 0 < head → slice_get cs (head - 1) ≡ Some c → stack_at (stacks_of cs) head ≡ layer_of c ∷ stack_at (stacks_of cs) c.below
stack_of_cell cs head c lie some at =
    let low = lie (head - 1) c at in
    let one : List (List Layer) = [] ∷ [] in
    let there : length one + (head - 1) ≡ head = omega arith in
    subst (λ (n : ℕ). stack_at (stacks_of cs) n ≡ layer_of c ∷ stack_at (stacks_of cs) c.below) there
    (stack_with one cs (head - 1) c at (omega arith))

-- head 0 is the empty stack
pub stack_of_none : (cs : List Cell) → stack_at (stacks_of cs) 0 ≡ []
stack_of_none cs = stack_earlier ([] ∷ []) cs 0 (omega arith)

pub some_cell : (cs : List Cell) (head : ℕ) → 0 < length (stack_at (stacks_of cs) head) → 0 < head
some_cell cs zero h = absurd (let e : length (stack_at (stacks_of cs) 0) ≡ 0 = ap (λ (l : List Layer). length l) (stack_of_none cs) in omega arith)
some_cell cs (suc k) h = omega arith

pub lie_more : (cs : List Cell) (c : Cell) → LieAbove cs → c.below ≤ length cs → LieAbove (cs ++ c ∷ [])
lie_more cs c lie low k d at = ⊎_elim (λ w. lie k d w.1) (λ w. let e : c ≡ d = w.1 in subst (λ (x : Cell). x.below ≤ k) e (omega (arith, w.0))) (push_cases cs c k d at)

-- ---- the first cells alone

with_both : (ss : List (List Layer)) (cs ds : List Cell) → with_cells ss (cs ++ ds) ≡ with_cells (with_cells ss cs) ds
with_both ss [] ds = refl
with_both ss (c ∷ cs) ds = with_both (with_cell ss c) cs ds

first_with : (n : ℕ) (ss : List (List Layer)) (cs : List Cell) → n ≤ length ss → take n (with_cells ss cs) ≡ take n ss
first_with n ss [] low = refl
first_with n ss (c ∷ cs) low =
    first_with n (with_cell ss c) cs (omega (arith, low, length-append ss ((layer_of c ∷ stack_at ss c.below) ∷ [])))
    ∙ take-append-le n ss ((layer_of c ∷ stack_at ss c.below) ∷ []) low

-- the stacks of the first cells are the first stacks
first_stacks : (cs : List Cell) (head : ℕ) → head ≤ length cs → stacks_of (take head cs) ≡ take (head + 1) (stacks_of cs)
first_stacks cs head low =
    let count : length (stacks_of (take head cs)) ≡ head + 1 = omega (arith, many_stacks (take head cs), length-take-le head cs low) in
    sym (take_all (head + 1) (stacks_of (take head cs)) (omega (arith, count)))
    ∙ sym (first_with (head + 1) (stacks_of (take head cs)) (drop head cs) (omega (arith, count)))
    ∙ ap (λ (xs : List (List Layer)). take (head + 1) xs) (sym (with_both ([] ∷ []) (take head cs) (drop head cs)))
    ∙ ap (λ (xs : List Cell). take (head + 1) (stacks_of xs)) (take-append-drop head cs)

-- a cell of the first part
first_part : (cs : List Cell) (head k : ℕ) (c : Cell) → slice_get (take head cs) k ≡ Some c → slice_get cs k ≡ Some c
first_part cs head k c at =
    ap (λ (xs : List Cell). slice_get xs k) (sym (take-append-drop head cs))
    ∙ in_prefix (take head cs) (drop head cs) k (slice_get_within (take head cs) k c at)
    ∙ at

-- ---- how deep the layers are

pub shallow_more : (cs : List Cell) (c : Cell) (deepest deeper : ℕ) → NoneIsDeeper deepest cs → deepest ≤ deeper → c.depth ≤ deeper → NoneIsDeeper deeper (cs ++ c ∷ [])
shallow_more cs c deepest deeper low more one k d at =
    ⊎_elim (λ w. omega (arith, low k d w.1, more)) (λ w. subst (λ (x : Cell). x.depth ≤ deeper) w.1 one) (push_cases cs c k d at)

pub shallow_first : (cs new : List Cell) (head deepest : ℕ) → new ≡ take head cs → NoneIsDeeper deepest cs → NoneIsDeeper deepest new
shallow_first cs new head deepest is low k c at = low k c (first_part cs head k c (subst (λ (xs : List Cell). slice_get xs k ≡ Some c) is at))

-- ---- layers that are as deep as their trees

less_or : (a b : ℕ) → (a < b) ⊎ (b ≤ a)
less_or a zero = inr (omega arith)
less_or zero (suc b) = inl (omega arith)
less_or (suc a) (suc b) = ⊎_elim (λ (lt : a < b). inl (omega (arith, lt))) (λ (le : b ≤ a). inr (omega (arith, le))) (less_or a b)

pub exact_more : (cs new : List Cell) (c : Cell) (exact before now : ℕ) → new ≡ cs ++ c ∷ [] → AreExactTo exact cs → before ≡ length cs → (now ≤ before → now ≤ exact) → (before < now → before ≤ exact) → (before < now → c.depth ≡ tree_depth c.node) → AreExactTo now new
exact_more cs new c exact before now is all count kept old one k d low at =
    ⊎_elim (λ w. all k d (within w.0) w.1) (λ w. subst (λ (x : Cell). x.depth ≡ tree_depth x.node) w.1 (one (omega (arith, w.0, count, low))))
    (push_cases cs c k d (subst (λ (xs : List Cell). slice_get xs k ≡ Some d) is at))
  where
    within : k < length cs → k < exact
    within there = ⊎_elim (λ (more : before < now). let le = old more in omega (arith, there, count, le)) (λ (le : now ≤ before). let far = kept le in omega (arith, low, far)) (less_or before now)

pub exact_first : (cs new : List Cell) (head exact : ℕ) → new ≡ take head cs → AreExactTo exact cs → AreExactTo exact new
exact_first cs new head exact is all k c low at = all k c low (first_part cs head k c (subst (λ (xs : List Cell). slice_get xs k ≡ Some c) is at))

pub count_more : (cs new : List Cell) (c : Cell) (before count : ℕ) → new ≡ cs ++ c ∷ [] → before ≡ length cs → count ≡ length new → count ≡ before + 1
count_more cs new c before count is a b = let e : length new ≡ length (cs ++ c ∷ []) = ap (λ (xs : List Cell). length xs) is in omega (arith, e, a, b, length-append cs (c ∷ []))

is_there : (cs : List Cell) (k : ℕ) → slice_get cs k ≡ None → k < length cs → ⊥
is_there [] k e low = omega (arith, low)
is_there (c ∷ cs) zero e low = let f : Some c ≡ None = e in cc
is_there (c ∷ cs) (suc k) e low = is_there cs k e (omega (arith, low))

-- no layer of a stack is deeper than the deepest cell
stack_shallow : (cs : List Cell) (deepest : ℕ) → LieAbove cs → NoneIsDeeper deepest cs → (n head : ℕ) → head < n → head ≤ length cs → maximum (depths_on (stack_at (stacks_of cs) head)) ≤ deepest
stack_shallow cs deepest lie low zero head less there = absurd (omega (arith, less))
stack_shallow cs deepest lie low (suc n) zero less there = rw (stack_of_none cs) (omega arith)
stack_shallow cs deepest lie low (suc n) (suc k) less there = by (slice_get cs (suc k - 1)) refl (stack_shallow cs deepest lie low n)
  where
    by : (o : Option Cell) → slice_get cs (suc k - 1) ≡ o → ((head : ℕ) → head < n → head ≤ length cs → maximum (depths_on (stack_at (stacks_of cs) head)) ≤ deepest) → maximum (depths_on (stack_at (stacks_of cs) (suc k))) ≤ deepest
    by (Some c) e rest =
        let below = lie (suc k - 1) c e in
        let s : stack_at (stacks_of cs) (suc k) ≡ layer_of c ∷ stack_at (stacks_of cs) c.below = stack_of_cell cs (suc k) c lie (omega arith) e in
        let r = rest c.below (omega (arith, below, less)) (omega (arith, below, there)) in
        let one = low (suc k - 1) c e in
        rw s (omega (arith, r, one))
    by None e rest = absurd (is_there cs (suc k - 1) e (omega (arith, there)))

-- the layers of the stacks of cells that are so
stack_exact : (cs : List Cell) (exact : ℕ) → LieAbove cs → AreExactTo exact cs → (n head : ℕ) → head < n → head ≤ length cs → head ≤ exact → AreExact (stack_at (stacks_of cs) head)
stack_exact cs exact lie all zero head less there low = absurd (omega (arith, less))
stack_exact cs exact lie all (suc n) zero less there low = subst AreExact (sym (stack_of_none cs)) tt
stack_exact cs exact lie all (suc n) (suc k) less there low = by (slice_get cs (suc k - 1)) refl (stack_exact cs exact lie all n)
  where
    by : (o : Option Cell) → slice_get cs (suc k - 1) ≡ o → ((head : ℕ) → head < n → head ≤ length cs → head ≤ exact → AreExact (stack_at (stacks_of cs) head)) → AreExact (stack_at (stacks_of cs) (suc k))
    by (Some c) e rest =
        let below = lie (suc k - 1) c e in
        let s : stack_at (stacks_of cs) (suc k) ≡ layer_of c ∷ stack_at (stacks_of cs) c.below = stack_of_cell cs (suc k) c lie (omega arith) e in
        subst AreExact (sym s) (all (suc k - 1) c (omega (arith, low)) e, rest c.below (omega (arith, below, less)) (omega (arith, below, there)) (omega (arith, below, low)))
    by None e rest = absurd (is_there cs (suc k - 1) e (omega (arith, there)))

-- ---- the top cell

-- the last of the first cells, and those before it
top_cell : (cs mid new : List Cell) (head : ℕ) (c : Cell) → mid ≡ take head cs → mid ≡ new ++ c ∷ [] → head ≤ length cs → (length new + 1 ≡ head) × (slice_get cs (head - 1) ≡ Some c) × (new ≡ take (head - 1) cs)
top_cell cs mid new head c first last low =
    let n : length mid ≡ head = ap (λ (xs : List Cell). length xs) first ∙ length-take-le head cs low in
    let m : length mid ≡ length new + 1 = ap (λ (xs : List Cell). length xs) last ∙ length-append new (c ∷ []) in
    let at : head - 1 ≡ length new = omega (arith, n, m) in (
      omega (arith, n, m),
      ap (λ (xs : List Cell). slice_get xs (head - 1)) (sym (take-append-drop head cs))
          ∙ in_prefix (take head cs) (drop head cs) (head - 1) (omega (arith, n, m, length-take-le head cs low))
          ∙ ap (λ (xs : List Cell). slice_get xs (head - 1)) (sym first ∙ last)
          ∙ ap (λ (k : ℕ). slice_get (new ++ c ∷ []) k) at
          ∙ at_end new c,
      sym (ap (λ (xs : List Cell). take (head - 1) xs) (sym (take-append-drop head cs))
          ∙ take-append-le (head - 1) (take head cs) (drop head cs) (omega (arith, n, m, length-take-le head cs low))
          ∙ ap (λ (xs : List Cell). take (head - 1) xs) (sym first ∙ last)
          ∙ take-append-le (head - 1) new (c ∷ []) (omega (arith, at))
          ∙ take_all (head - 1) new (omega (arith, at))),
    )

-- ---- the same of the list of stacks

module _ (cs : List Cell) (ss : List (List Layer)) (view : stacks_of cs ≡ ss) where
  pub head_some : (head : ℕ) → 0 < length (stack_at ss head) → 0 < head
  head_some head h = some_cell cs head (subst (λ (xs : List (List Layer)). 0 < length (stack_at xs head)) (sym view) h)

  many : length ss ≡ suc (length cs)
  many = ap (λ (xs : List (List Layer)). length xs) (sym view) ∙ many_stacks cs

  pub head_within : (head : ℕ) → head < length ss → 0 < head → head - 1 < length cs
  head_within head h some = omega (arith, h, some, many)

  pub cell_stack : (head : ℕ) (c : Cell) → LieAbove cs → 0 < head → slice_get cs (head - 1) ≡ Some c → stack_at ss head ≡ layer_of c ∷ stack_at ss c.below
  cell_stack head c lie some at = subst (λ (xs : List (List Layer)). stack_at xs head ≡ layer_of c ∷ stack_at xs c.below) view (stack_of_cell cs head c lie some at)

  pub cell_lower : (head : ℕ) (c : Cell) → LieAbove cs → 0 < head → slice_get cs (head - 1) ≡ Some c → c.below < head
  cell_lower head c lie some at = omega (arith, lie (head - 1) c at, some)

  pub empty_there : (head : ℕ) → head ≡ 0 → stack_at ss head ≡ []
  empty_there head e = ap (λ (n : ℕ). stack_at ss n) e ∙ subst (λ (xs : List (List Layer)). stack_at xs 0 ≡ []) view (stack_of_none cs)

  pub some_there : (head : ℕ) → (head ≡ 0 → ⊥) → head < length ss → LieAbove cs → 0 < length (stack_at ss head)
  some_there head not_zero within lie =
      let some : 0 < head = positive head not_zero in
      by (slice_get cs (head - 1)) refl some
    where
      positive : (n : ℕ) → (n ≡ 0 → ⊥) → 0 < n
      positive zero h = absurd (h refl)
      positive (suc n) h = omega arith

      by : (o : Option Cell) → slice_get cs (head - 1) ≡ o → 0 < head → 0 < length (stack_at ss head)
      by (Some c) e some = rw (cell_stack head c lie some e) (omega arith)
      by None e some = absurd (past cs (head - 1) e (head_within head within some))
        where
          past : (xs : List Cell) (k : ℕ) → slice_get xs k ≡ None → k < length xs → ⊥
          past [] k e low = omega (arith, low)
          past (x ∷ xs) zero e low = let f : Some x ≡ None = e in cc
          past (x ∷ xs) (suc k) e low = past xs k e (omega (arith, low))

  pub lie_pushed : (new : List Cell) (c : Cell) → new ≡ cs ++ c ∷ [] → LieAbove cs → c.below < length ss → LieAbove new
  lie_pushed new c is lie low = subst LieAbove (sym is) (lie_more cs c lie (omega (arith, low, many)))

  pub head_pushed : (new : List Cell) (c : Cell) (n : ℕ) → new ≡ cs ++ c ∷ [] → n ≡ length new → n ≡ length ss
  head_pushed new c n is n_is =
      let e : length new ≡ length (cs ++ c ∷ []) = ap (λ (xs : List Cell). length xs) is in
      omega (arith, e, n_is, many, length-append cs (c ∷ []))

  pub stack_pushed : (new : List Cell) (c : Cell) → new ≡ cs ++ c ∷ [] → stacks_of new ≡ ss ++ (layer_of c ∷ stack_at ss c.below) ∷ []
  stack_pushed new c is = ap stacks_of is ∙ one_more cs c ∙ ap (λ (xs : List (List Layer)). xs ++ (layer_of c ∷ stack_at xs c.below) ∷ []) view

  -- ---- the first cells alone

  pub lie_cut : (new : List Cell) (head : ℕ) → new ≡ take head cs → LieAbove cs → LieAbove new
  lie_cut new head is lie k c at = lie k c (first_part cs head k c (subst (λ (xs : List Cell). slice_get xs k ≡ Some c) is at))

  pub stacks_cut : (new : List Cell) (head : ℕ) → new ≡ take head cs → head < length ss → stacks_of new ≡ take (head + 1) ss
  stacks_cut new head is low =
      ap stacks_of is
      ∙ first_stacks cs head (omega (arith, low, many))
      ∙ ap (λ (xs : List (List Layer)). take (head + 1) xs) view

  pub there_cut : (new : List (List Layer)) (head : ℕ) → new ≡ take (head + 1) ss → head < length ss → head < length new
  there_cut new head is low =
      let e : length new ≡ length (take (head + 1) ss) = ap (λ (xs : List (List Layer)). length xs) is in
      omega (arith, low, e, length-take-le (head + 1) ss (omega (arith, low)))

  pub no_deeper : (deepest head : ℕ) → LieAbove cs → NoneIsDeeper deepest cs → head < length ss → maximum (depths_on (stack_at ss head)) ≤ deepest
  no_deeper deepest head lie low there =
      subst (λ (xs : List (List Layer)). maximum (depths_on (stack_at xs head)) ≤ deepest) view
      (stack_shallow cs deepest lie low (suc head) head (omega arith) (omega (arith, there, many)))

  pub all_exact : (exact head : ℕ) → LieAbove cs → AreExactTo exact cs → head < length ss → head ≤ exact → AreExact (stack_at ss head)
  all_exact exact head lie all there low = subst (λ (xs : List (List Layer)). AreExact (stack_at xs head)) view (stack_exact cs exact lie all (suc head) head (omega arith) (omega (arith, there, many)) low)

  -- ---- the top cell

  pub some_first : (mid : List Cell) (head : ℕ) → mid ≡ take head cs → head < length ss → 0 < length (stack_at ss head) → 0 < length mid
  some_first mid head first there some =
      let n : length mid ≡ head = ap (λ (xs : List Cell). length xs) first ∙ length-take-le head cs (omega (arith, there, many)) in
      omega (arith, n, head_some head some)

  module _ (mid new : List Cell) (head : ℕ) (c : Cell) (first : mid ≡ take head cs) (last : mid ≡ new ++ c ∷ []) (lie : LieAbove cs) (there : head < length ss) (some : 0 < length (stack_at ss head)) where
    parts : (length new + 1 ≡ head) × (slice_get cs (head - 1) ≡ Some c) × (new ≡ take (head - 1) cs)
    parts = top_cell cs mid new head c first last (omega (arith, there, many))

    pub top_stack : stack_at ss head ≡ layer_of c ∷ stack_at ss c.below
    top_stack = cell_stack head c lie (head_some head some) parts.1

    pub top_lower : c.below < head
    top_lower = cell_lower head c lie (head_some head some) parts.1

    pub top_left : stacks_of new ≡ take head ss
    top_left =
        let n : head - 1 + 1 ≡ head = omega (arith, parts.0) in
        stacks_cut new (head - 1) parts.2 (omega (arith, there)) ∙ ap (λ (k : ℕ). take k ss) n

    pub top_lie : LieAbove new
    top_lie = lie_cut new (head - 1) parts.2 lie

    pub top_shallow : (deepest : ℕ) → NoneIsDeeper deepest cs → NoneIsDeeper deepest new
    top_shallow deepest low = shallow_first cs new (head - 1) deepest parts.2 low

    pub top_exact : (exact : ℕ) → AreExactTo exact cs → AreExactTo exact new
    top_exact exact all = exact_first cs new (head - 1) exact parts.2 all

-- a stack among the first ones
pub stack_within : (old : List (List Layer)) (n k : ℕ) → k < n → n ≤ length old → stack_at (take n old) k ≡ stack_at old k
stack_within old n k low there =
    ap (λ (o : Option (List Layer)). unwrap_or o []) (sym (in_prefix (take n old) (drop n old) k (omega (arith, low, length-take-le n old there))))
    ∙ ap (λ (xs : List (List Layer)). stack_at xs k) (take-append-drop n old)

-- the stack on which all others were put stays
pub stack_cut : (old new : List (List Layer)) (head : ℕ) → new ≡ take (head + 1) old → head < length old → stack_at new head ≡ stack_at old head
stack_cut old new head is low =
    let n : head < length (take (head + 1) old) = omega (arith, length-take-le (head + 1) old (omega (arith, low))) in
    ap (λ (xs : List (List Layer)). stack_at xs head) is
    ∙ ap (λ (o : Option (List Layer)). unwrap_or o []) (sym (in_prefix (take (head + 1) old) (drop (head + 1) old) head n))
    ∙ ap (λ (xs : List (List Layer)). stack_at xs head) (take-append-drop (head + 1) old)
