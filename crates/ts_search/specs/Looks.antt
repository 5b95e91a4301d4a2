-- What a test asks of a node whatever is inside it.
use Rattle.std.specs.Prelude.{◌≡◌, List, [], true, false}
use Rattle.spec_trees.specs.declared.visible.VisibleNode.{VisibleNode}
use Rattle.ts_query_syntax.specs.declared.read_query.QueryKind.{QueryKind}
use Rattle.ts_query_syntax.specs.declared.read_query.Test.{Test}
use Rattle.ts_query_syntax.specs.declared.read_query.Test.TheVariants.{Any, Named, Kind, Choice, Round}
use Rattle.ts_query_syntax.specs.declared.read_query.Item.{Item}
use Rattle.ts_query_syntax.specs.declared.read_query.Item.TheViews.{out-Item}
use Rattle.spec_matches.specs.Taking.{IsOfKind}

-- a node looks as a test asks
abbrev pub Looks : List QueryKind → Test → VisibleNode → Type 0
Looks kinds Any node = Unit {0}
Looks kinds Named node = node.named ≡ true
Looks kinds (Kind kind) node = IsOfKind kinds kind node
Looks kinds Choice node = Unit {0}
Looks kinds Round node = Unit {0}

-- the test asks no more than that, where its item has no parts
abbrev pub AsksLook : Test → Type 0
AsksLook Any = Unit {0}
AsksLook Named = Unit {0}
AsksLook (Kind kind) = Unit {0}
AsksLook Choice = ⊥
AsksLook Round = ⊥

-- an item asks nothing of what is inside a node
pub record IsShallow (i : Item) : Type 0 where
  pub test : AsksLook (out-Item i).test
  pub unclosed : (out-Item i).closed ≡ false
  pub parts : (out-Item i).parts ≡ []
  pub without : (out-Item i).without ≡ []
