-- When one reading of a text may stand for another: what its trees and its runs have to be.
use Rattle.std.specs.Prelude.{◌≡◌, ◌≤◌, ◌⊎◌, List, [], ◌∷◌}
use Rattle.ts_base.specs.Bytes.{Bytes}
use Rattle.ts_core.specs.declared.flat.FlatGrammar.{FlatGrammar}
use Rattle.spec_trees.specs.declared.tree.Tree.{Tree}
use Rattle.spec_trees.specs.Trees.{symbol_of, pad_of, size_of, is_extra_node, tree_depth}
use Rattle.spec_trees.specs.Choice.{Better}
use Rattle.spec_runs.specs.Configurations.{Configuration}
use Rattle.spec_runs.specs.Runs.{Run, ComesTooDeep}

-- The first tree may stand for the second: both have one symbol and the same bytes, the second is
-- no deeper, and it is not better.
pub record ServesFor (t u : Tree) : Type 0 where
  pub symbol : symbol_of t ≡ symbol_of u
  pub extra : is_extra_node t ≡ is_extra_node u
  pub pad : pad_of t ≡ pad_of u
  pub size : size_of t ≡ size_of u
  pub depth : tree_depth u ≤ tree_depth t
  pub no_better : Better u t → ⊥

-- as many trees, and each of the first may stand for the one in its place
abbrev pub AllServe : List Tree → List Tree → Type 0
AllServe [] [] = Unit {0}
AllServe [] (u ∷ us) = ⊥
AllServe (t ∷ ts) [] = ⊥
AllServe (t ∷ ts) (u ∷ us) = ServesFor t u × AllServe ts us

-- The first configuration may stand for the second: it is at the same place, and its trees may
-- stand for those of the second.
pub record ServesConfiguration (d c : Configuration) : Type 0 where
  pub place : d.place ≡ c.place
  pub stack : AllServe d.stack c.stack

-- A run from the first configuration comes to one that may stand for the second, or to one whose
-- reduction would make a node that is too deep.
pub record ComesToServe (g : FlatGrammar) (text : Bytes) (d e : Configuration) : Type 0 where
  pub at : Configuration
  pub run : Run g text d at
  pub serves : ComesTooDeep g text at ⊎ ServesConfiguration at e
