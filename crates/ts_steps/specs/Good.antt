-- What is known of each tree on a stack. It serves private clauses and proofs alone.
use Rattle.std.specs.Prelude.{◌≡◌, ℕ, ◌+◌, ◌*◌, ◌<◌, ◌≤◌, ◌⊎◌, true, IsTrue, List, [], ◌∷◌, length, reverse, Some}
use Rattle.std.proofs.Common.{is_some}
use Rattle.ts_core.specs.declared.flat.FlatGrammar.{FlatGrammar}
use Rattle.ts_core.specs.declared.flat.Production.{Production}
use Rattle.spec_grammar.specs.Symbols.{start_symbol, production_at}
use Rattle.spec_tables.specs.Fit.{Fit}
use Rattle.spec_trees.specs.declared.tree.Tree.{Tree}
use Rattle.spec_trees.specs.Trees.{symbol_of, production_of, elements_of, children_of, span_of, all_spans, all_nodes, tree_depth, is_settled, is_extra_node}
use Rattle.spec_trees.specs.Made.{IsNode, EndBy, filling, step_symbols, BeginsFilled, most_span}
use Rattle.spec_trees.specs.Choice.{IsInForm}
use Rattle.spec_runs.specs.Moves.{IsUnused}
use Rattle.spec_trees.specs.Reducible.{HasSmallValue}

-- each tree of a list is of this kind
abbrev pub EachTree : (Tree → Type 0) → List Tree → Type 0
EachTree P [] = Unit {0}
EachTree P (t ∷ ts) = P t × EachTree P ts

-- It has few elements and nodes for its bytes and its depth.
pub record IsLight (t : Tree) : Type 0 where
  pub parts : length (elements_of t) ≤ span_of t
  pub nodes : all_nodes (children_of t) + 2 * span_of t ≤ 2 * (tree_depth t * span_of t)

-- a tree on a stack: a settled node in its rule's form, light, and empty only as the start rule
pub record IsGoodTree (g : FlatGrammar) (t : Tree) : Type 0 where
  pub node : IsNode t
  pub settled : is_settled t ≡ true
  pub form : IsInForm g t
  pub light : IsLight t
  -- it has bytes, or is the empty start rule, which no step names
  pub some : (0 < span_of t) ⊎ IsUnused g (symbol_of t)
  pub some_extra : is_extra_node t ≡ true → 0 < span_of t
  pub flat_extra : is_extra_node t ≡ true → tree_depth t ≡ 1
  pub whole : 0 < length (elements_of t) → all_spans (children_of t) ≡ span_of t
  pub rule : symbol_of t ≡ start_symbol g → IsTrue (is_some (production_of t))

-- each tree of the list is good
abbrev pub AreGoodTrees : FlatGrammar → List Tree → Type 0
AreGoodTrees g ts = EachTree (IsGoodTree g) ts

-- The children can be reduced by the production: they are its steps, good trees, few, and so many
-- bytes were examined that they are past all of them and past what each of them examined.
pub record CanReduce (g : FlatGrammar) (number left : ℕ) (p : Production) (extent : ℕ)
    (children : List Tree) : Type 0 where
  pub fit : Fit g
  pub at : production_at g number ≡ Some (left, p)
  pub value : HasSmallValue g number
  pub good : AreGoodTrees g children
  pub filled : filling children ≡ step_symbols p
  pub begins : BeginsFilled children
  pub ends : BeginsFilled (reverse children)
  pub short : all_spans children ≤ most_span
  pub past : all_spans children < extent
  pub covers : EndBy extent 0 children
