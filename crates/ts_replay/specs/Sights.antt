-- The visible tree that is kept from one step to the next.
use Rattle.std.specs.Prelude.{◌≡◌, List, Option, IfSome}
use Rattle.ts_base.specs.Bytes.{Bytes}
use Rattle.ts_core.specs.declared.flat.FlatGrammar.{FlatGrammar}
use Rattle.spec_trees.specs.declared.tree.Tree.{Tree}
use Rattle.spec_trees.specs.declared.visible.VisibleNode.{VisibleNode}
use Rattle.spec_trees.specs.VisibleNodes.{visible_nodes}
use Rattle.spec_runs.specs.Outcomes.{tree_outcome, Fresh}
use Rattle.ts_replay.specs.declared.sighted.Sighted.{Sighted}

-- the nodes are those of the visible tree that the text comes to
pub record IsSightOf (g : FlatGrammar) (text : Bytes) (nodes : List VisibleNode) : Type 0 where
  pub tree : Tree
  pub fresh : Fresh g text (tree_outcome tree)
  pub nodes_are : nodes ≡ visible_nodes g tree

-- where a visible tree is kept, it is that of its version's text
abbrev pub StandsFor : FlatGrammar → Option Sighted → Type 0
StandsFor g kept = IfSome kept (λ s. IsSightOf g s.version.text s.tree)
