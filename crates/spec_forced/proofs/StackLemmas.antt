-- Lists of trees: their symbols, their bytes, and the extras among them.
use Rattle.std.proofs.Common.{◌≡◌, ◌∙◌, sym, ap, refl, ℕ, ◌+◌, Bool, true, false, true≢false, List, [], ◌∷◌, ◌++◌, append-nil, length, reverse, arith}
use Rattle.std.proofs.lemmas.List.{reverse-append}
use Rattle.spec_trees.specs.declared.tree.Tree.{Tree}
use Rattle.spec_trees.specs.Trees.{symbol_of, is_extra_node, all_spans}
use Rattle.spec_trees.specs.Made.{filling}
use Rattle.spec_runs.specs.Configurations.{AreExtras}

-- ---- symbols

pub filling_append : (xs ys : List Tree) → filling (xs ++ ys) ≡ filling xs ++ filling ys
filling_append [] ys = refl
filling_append (x ∷ xs) ys = by (is_extra_node x) refl (filling_append xs ys)
  where
    by : (b : Bool) → is_extra_node x ≡ b → filling (xs ++ ys) ≡ filling xs ++ filling ys → filling (x ∷ xs ++ ys) ≡ filling (x ∷ xs) ++ filling ys
    by true e h = rw e h
    by false e h = rw e (ap (λ (l : List ℕ). symbol_of x ∷ l) h)

pub filling_turned : (xs : List Tree) → filling (reverse xs) ≡ reverse (filling xs)
filling_turned [] = refl
filling_turned (x ∷ xs) = by (is_extra_node x) refl (filling_turned xs)
  where
    by : (b : Bool) → is_extra_node x ≡ b → filling (reverse xs) ≡ reverse (filling xs) → filling (reverse (x ∷ xs)) ≡ reverse (filling (x ∷ xs))
    by true e h = ap filling (reverse-append (x ∷ []) xs) ∙ filling_append (reverse xs) (x ∷ []) ∙ ap (λ (l : List ℕ). l ++ filling (x ∷ [])) h ∙ rw e (append-nil (reverse (filling xs)))
    by false e h = ap filling (reverse-append (x ∷ []) xs) ∙ filling_append (reverse xs) (x ∷ []) ∙ ap (λ (l : List ℕ). l ++ filling (x ∷ [])) h ∙ rw e (sym (reverse-append (symbol_of x ∷ []) (filling xs)))

pub filling_extras : (xs ts : List Tree) → AreExtras xs → filling (xs ++ ts) ≡ filling ts
filling_extras [] ts a = refl
filling_extras (x ∷ xs) ts a = rw a.0 (filling_extras xs ts a.1)

pub filling_filled : (x : Tree) (ts : List Tree) → is_extra_node x ≡ false → filling (x ∷ ts) ≡ symbol_of x ∷ filling ts
filling_filled x ts e = rw e refl

-- ---- bytes

pub spans_append : (xs ys : List Tree) → all_spans (xs ++ ys) ≡ all_spans xs + all_spans ys
spans_append [] ys = omega arith
spans_append (x ∷ xs) ys = omega (arith, spans_append xs ys)

pub spans_turned : (xs : List Tree) → all_spans (reverse xs) ≡ all_spans xs
spans_turned [] = refl
spans_turned (x ∷ xs) =
    ap all_spans (reverse-append (x ∷ []) xs) ∙ spans_append (reverse xs) (x ∷ [])
    ∙ (let h = spans_turned xs in omega (arith, h))

-- ---- extras

pub extras_left : (xs ys : List Tree) → AreExtras (xs ++ ys) → AreExtras xs
extras_left [] ys a = tt
extras_left (x ∷ xs) ys a = (a.0, extras_left xs ys a.1)

-- extras on top of a list, seen as the first of those that stand above a node
pub record Beside (lifted under : List Tree) (node : Tree) (below xs : List Tree) : Type 0 where
  pub others : List Tree
  pub lifted_is : lifted ≡ xs ++ others
  pub under_is : under ≡ others ++ node ∷ below

pub beside : (lifted under : List Tree) (node : Tree) (below xs : List Tree) → is_extra_node node ≡ false → AreExtras xs → lifted ++ node ∷ below ≡ xs ++ under → Beside lifted under node below xs
beside lifted under node below [] filled a e = record { others = lifted; lifted_is = refl; under_is = sym e }
beside [] under node below (x ∷ xs) filled a e =
    let same : node ≡ x = cc in
    absurd (true≢false (sym a.0 ∙ ap is_extra_node (sym same) ∙ filled))
beside (y ∷ lifted) under node below (x ∷ xs) filled a e =
    let same : y ≡ x = cc in
    let rest : lifted ++ node ∷ below ≡ xs ++ under = cc in
    let h = beside lifted under node below xs filled a.1 rest in
    record { others = h.others; lifted_is = (let p = h.lifted_is in cc); under_is = h.under_is }

-- ---- equal lists

pub same_beginning : (xs ys a b : List ℕ) → length xs ≡ length ys → xs ++ a ≡ ys ++ b → (xs ≡ ys) × (a ≡ b)
same_beginning [] [] a b e h = (refl, h)
same_beginning [] (y ∷ ys) a b e h = absurd (omega (arith, e))
same_beginning (x ∷ xs) [] a b e h = absurd (omega (arith, e))
same_beginning (x ∷ xs) (y ∷ ys) a b e h =
    let t : xs ++ a ≡ ys ++ b = cc in
    let first : x ≡ y = cc in
    let rest = same_beginning xs ys a b (omega (arith, e)) t in
    let more : xs ≡ ys = rest.0 in
    (cc, rest.1)

pub filling_none : (xs : List Tree) → AreExtras xs → filling xs ≡ []
filling_none [] a = refl
filling_none (x ∷ xs) a = rw a.0 (filling_none xs a.1)
