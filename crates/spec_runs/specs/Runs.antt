-- Runs of a parser over plain stacks: steps from one configuration to the next, and how a run ends.
use Rattle.std.specs.Prelude.{◌≡◌, ℕ, ◌+◌, ◌<◌, ◌≤◌, true, false, List, ◌∷◌, ◌++◌, reverse}
use Rattle.ts_base.specs.Bytes.{Bytes}
use Rattle.ts_core.specs.declared.flat.FlatGrammar.{FlatGrammar}
use Rattle.ts_core.specs.declared.symbol.Symbol.{Symbol}
use Rattle.spec_grammar.specs.Symbols.{is_extra}
use Rattle.spec_lexing.specs.Lexing.{token, absent}
use Rattle.spec_tables.specs.Actions.{Move, shift, reduce, accept, Act}
use Rattle.spec_trees.specs.declared.tree.Tree.{Tree}
use Rattle.spec_trees.specs.Trees.{is_extra_node, tree_depth, bare}
use Rattle.spec_trees.specs.Made.{as_extra, accepted, most_depth}
use Rattle.spec_runs.specs.Configurations.{Configuration, starting, stack_symbols, token_tree, pushed, HasMove, NextIs, AreExtras, IsReduction}

-- ---- steps

-- a token is found, and the move is one of those that stay on it
pub record CanMove (g : FlatGrammar) (text : Bytes) (c : Configuration) (move : Move)
    : Type 0 where
  pub symbol : Symbol
  pub pad : ℕ
  pub size : ℕ
  pub next : NextIs g text c (token symbol pad size)
  pub stays : Act g (stack_symbols c.stack) symbol.0 move

-- One step: the token that is found is shifted; or a reduction is done on it, which makes no node
-- that is too deep; or it is an extra on which no move stays, and is pushed as one.
pub data StepsOn (g : FlatGrammar) (text : Bytes) (c : Configuration) : Configuration → Type 0 where
  shift_token : (symbol : Symbol) (pad size : ℕ) → NextIs g text c (token symbol pad size)
      → Act g (stack_symbols c.stack) symbol.0 shift
      → StepsOn g text c (pushed c (token_tree symbol pad size))
  pass_extra : (symbol : Symbol) (pad size : ℕ) → NextIs g text c (token symbol pad size)
      → is_extra g symbol.0 ≡ true → (HasMove g (stack_symbols c.stack) symbol.0 → ⊥)
      → StepsOn g text c (pushed c (as_extra (token_tree symbol pad size)))
  reduce_trees : (number : ℕ) (node : Tree) (after : List Tree) → CanMove g text c (reduce number)
      → IsReduction g number c.stack node after → tree_depth node ≤ most_depth
      → StepsOn g text c (record { stack = after; place = c.place })

-- a run from one configuration to another: no step, or one and then a run
pub data Run (g : FlatGrammar) (text : Bytes) : Configuration → Configuration → Type 0 where
  run_here : (c : Configuration) → Run g text c c
  run_on : (c d e : Configuration) → StepsOn g text c d → Run g text d e → Run g text c e

-- some run of the text comes to the configuration
abbrev pub IsReached : FlatGrammar → Bytes → Configuration → Type 0
IsReached g text c = Run g text starting c

-- ---- how a run ends

-- a reduction would make a node that is too deep
pub record ComesTooDeep (g : FlatGrammar) (text : Bytes) (c : Configuration) : Type 0 where
  pub number : ℕ
  pub move : CanMove g text c (reduce number)
  pub node : Tree
  pub after : List Tree
  pub reduction : IsReduction g number c.stack node after
  pub deep : most_depth < tree_depth node

-- the tree is accepted: the root of the stack with all extras that stand before and after it
pub record AcceptsTree (g : FlatGrammar) (text : Bytes) (c : Configuration) (t : Tree)
    : Type 0 where
  pub move : CanMove g text c accept
  pub before : List Tree
  pub root : Tree
  pub after : List Tree
  pub stack_is : c.stack ≡ reverse after ++ root ∷ reverse before
  pub before_extras : AreExtras before
  pub root_fills : is_extra_node root ≡ false
  pub after_extras : AreExtras after
  pub tree_is : t ≡ bare (accepted root before after 0)

-- no token is found, and this is the place after the separators
abbrev pub StopsAt : FlatGrammar → Bytes → Configuration → ℕ → Type 0
StopsAt g text c place = (n : ℕ) × NextIs g text c (absent n) × (place ≡ c.place + n)
