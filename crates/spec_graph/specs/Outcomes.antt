-- What a graph of stacks says of the outcome of a text.
use Rattle.std.specs.Prelude.{◌≡◌, ℕ, ◌+◌, ◌<◌, ◌≤◌, false, List, ◌∷◌, ◌++◌, reverse}
use Rattle.ts_core.specs.declared.flat.Production.{Production}
use Rattle.ts_core.specs.declared.symbol.Symbol.{Symbol}
use Rattle.spec_lexing.specs.Lexing.{token, absent}
use Rattle.spec_tables.specs.Actions.{Act, accept}
use Rattle.spec_trees.specs.declared.tree.Tree.{Tree}
use Rattle.spec_trees.specs.Trees.{is_extra_node, bare}
use Rattle.spec_trees.specs.Made.{accepted, most_depth}
use Rattle.spec_trees.specs.Choice.{Better}
use Rattle.spec_runs.specs.Configurations.{AreExtras}
use Rattle.spec_graph.specs.declared.graph.Head.{Head}
use Rattle.spec_graph.specs.declared.graph.Link.{Link}
use Rattle.spec_graph.specs.Laying.{Parsing, SeesAt}
use Rattle.spec_graph.specs.Keys.{Key}
use Rattle.spec_graph.specs.Links.{IsAt, IsWay, way_trees, IsDue, way_depth}

-- A head accepts the tree: a token is seen there on which acceptance stays, and on a way down to
-- the empty stack lies the root with the extras before and after it.
pub record GraphAccepts (P : Parsing) (heads : List Head) (links : List Link) (t : Tree)
    : Type 0 where
  pub head : ℕ
  pub read : List ℕ
  pub place : ℕ
  pub at : IsAt P heads head read place
  pub symbol : Symbol
  pub pad : ℕ
  pub size : ℕ
  pub sees : SeesAt P read place (token symbol pad size)
  pub stays : Act P.grammar read symbol.0 accept
  pub way : List Link
  pub is : IsWay links head way 0
  pub before : List Tree
  pub root : Tree
  pub after : List Tree
  pub trees_are : way_trees way ≡ reverse after ++ root ∷ reverse before
  pub before_extras : AreExtras before
  pub root_fills : is_extra_node root ≡ false
  pub after_extras : AreExtras after
  pub tree_is : t ≡ bare (accepted root before after 0)

-- a head sees no token, and this is the place after the separators
pub record GraphStopsAt (P : Parsing) (heads : List Head) (stop : ℕ) : Type 0 where
  pub head : ℕ
  pub read : List ℕ
  pub place : ℕ
  pub at : IsAt P heads head read place
  pub far : ℕ
  pub sees : SeesAt P read place (absent far)
  pub stop_is : stop ≡ place + far

-- some reduction in the graph would make a node that is too deep
pub record GraphIsDeep (P : Parsing) (rank : ℕ → ℕ) (heads : List Head) (links : List Link)
    : Type 0 where
  pub key : Key
  pub number : ℕ
  pub left : ℕ
  pub production : Production
  pub top : ℕ
  pub middle : ℕ
  pub bottom : ℕ
  pub outer : List Link
  pub inner : List Link
  pub over : List ℕ
  pub now : List ℕ
  pub end : ℕ
  pub due : IsDue P rank heads links key number left production top middle bottom outer inner over
      now end
  pub deep : most_depth < way_depth P number left inner

-- the graph accepts the tree, and none that is better
pub record IsBestOfGraph (P : Parsing) (heads : List Head) (links : List Link) (t : Tree)
    : Type 0 where
  pub accepts : GraphAccepts P heads links t
  pub best : (u : Tree) → GraphAccepts P heads links u → Better u t → ⊥

-- the graph accepts no tree, some head stops at the place, and none at a greater one
pub record IsLastOfGraph (P : Parsing) (heads : List Head) (links : List Link) (stop : ℕ)
    : Type 0 where
  pub none : (t : Tree) → GraphAccepts P heads links t → ⊥
  pub stops : GraphStopsAt P heads stop
  pub greatest : (other : ℕ) → GraphStopsAt P heads other → other ≤ stop
