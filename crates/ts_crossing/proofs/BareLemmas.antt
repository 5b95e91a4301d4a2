-- Lists of bare trees.
use Rattle.std.proofs.Common.{◌≡◌, ◌∙◌, ap, refl, ℕ, ◌+◌, Bool, true, false, List, [], ◌∷◌, ◌++◌, map, arith}
use Rattle.spec_trees.specs.declared.tree.Tree.{Tree}
use Rattle.spec_trees.specs.Trees.{symbol_of, is_extra_node, span_of, all_spans, bare}
use Rattle.spec_trees.specs.Made.{filling, BeginsFilled}
use Rattle.spec_runs.specs.BareTrees.{KeepsAll}
use Rattle.spec_runs.specs.Configurations.{AreExtras}

pub filling_append : (xs ys : List Tree) → filling (xs ++ ys) ≡ filling xs ++ filling ys
filling_append [] ys = refl
filling_append (x ∷ xs) ys = by (is_extra_node x) refl (filling_append xs ys)
  where
    by : (b : Bool) → is_extra_node x ≡ b → filling (xs ++ ys) ≡ filling xs ++ filling ys → filling (x ∷ xs ++ ys) ≡ filling (x ∷ xs) ++ filling ys
    by true e h = rw e h
    by false e h = rw e (ap (λ (l : List ℕ). symbol_of x ∷ l) h)

pub filling_tree : (t : Tree) (ts : List Tree) → is_extra_node t ≡ false → filling (t ∷ ts) ≡ symbol_of t ∷ filling ts
filling_tree t ts e = rw e refl

pub spans_append : (xs ys : List Tree) → all_spans (xs ++ ys) ≡ all_spans xs + all_spans ys
spans_append [] ys = omega arith
spans_append (x ∷ xs) ys = omega (arith, spans_append xs ys)

module _ (keeps : (t : Tree) → KeepsAll t) where
  pub filling_bare : (ts : List Tree) → filling (map bare ts) ≡ filling ts
  filling_bare [] = refl
  filling_bare (t ∷ ts) = by (is_extra_node t) refl (filling_bare ts)
    where
      by : (b : Bool) → is_extra_node t ≡ b → filling (map bare ts) ≡ filling ts → filling (map bare (t ∷ ts)) ≡ filling (t ∷ ts)
      by true e h = let f : is_extra_node (bare t) ≡ true = (keeps t).extra ∙ e in rw (e, f) h
      by false e h = let f : is_extra_node (bare t) ≡ false = (keeps t).extra ∙ e in rw (e, f, (keeps t).symbol, h) refl

  pub extras_bare : (ts : List Tree) → AreExtras ts → AreExtras (map bare ts)
  extras_bare [] a = tt
  extras_bare (t ∷ ts) a = ((keeps t).extra ∙ a.0, extras_bare ts a.1)

  pub begins_bare : (ts : List Tree) → BeginsFilled ts → BeginsFilled (map bare ts)
  begins_bare [] a = tt
  begins_bare (t ∷ ts) a = (keeps t).extra ∙ a

  pub span_bare : (t : Tree) → span_of (bare t) ≡ span_of t
  span_bare t = omega (arith, (keeps t).pad, (keeps t).size)

  pub spans_bare : (ts : List Tree) → all_spans (map bare ts) ≡ all_spans ts
  spans_bare [] = refl
  spans_bare (t ∷ ts) = omega (arith, span_bare t, spans_bare ts)
