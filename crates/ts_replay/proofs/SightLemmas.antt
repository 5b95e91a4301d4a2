-- The visible tree that is kept from one step to the next.
use Rattle.std.proofs.Common.{◌≡◌, sym, subst, List, Option, Some}
use Rattle.ts_core.specs.declared.flat.FlatGrammar.{FlatGrammar}
use Rattle.spec_trees.specs.declared.tree.Tree.{Tree}
use Rattle.spec_trees.specs.declared.visible.VisibleNode.{VisibleNode}
use Rattle.spec_trees.specs.VisibleNodes.{visible_nodes}
use Rattle.spec_runs.specs.Outcomes.{tree_outcome, Fresh}
use Rattle.ts_docs.specs.declared.parsed.ParsedText.{ParsedText}
use Rattle.ts_replay.specs.declared.sighted.Sighted.{Sighted}
use Rattle.ts_replay.specs.Sights.{IsSightOf, StandsFor}

-- what was kept
pub seen_before : (g : FlatGrammar) (kept : Option Sighted) (s : Sighted) → kept ≡ Some s → StandsFor g kept → IsSightOf g s.version.text s.tree
seen_before g kept s is stands = let here : StandsFor g (Some s) = subst (StandsFor g) is stands in here

-- what was made
pub seen_anew : (g : FlatGrammar) (version held : ParsedText) (nodes : List VisibleNode) (root : Tree) → version ≡ held → nodes ≡ visible_nodes g root
    → Fresh g held.text (tree_outcome root) → IsSightOf g version.text nodes
seen_anew g version held nodes root is nodes_are fresh = record {
  tree = root;
  fresh = subst (λ (v : ParsedText). Fresh g v.text (tree_outcome root)) (sym is) fresh;
  nodes_are = nodes_are;
}
