-- Patterns by their roots.
use Rattle.std.specs.Prelude.{◌≡◌, ◌↔◌, ◌⊎◌, ℕ, ◌<◌, List, length, Some, slice_get}
use Rattle.std.specs.List.{Contains}
use Rattle.spec_trees.specs.declared.visible.VisibleNode.{VisibleNode}
use Rattle.ts_query_syntax.specs.declared.read_query.Item.{Item}
use Rattle.ts_query_syntax.specs.declared.read_query.Item.TheViews.{out-Item}
use Rattle.ts_query_syntax.specs.declared.read_query.Pattern.{Pattern}
use Rattle.ts_query_syntax.specs.declared.read_query.QueryKind.{QueryKind}
use Rattle.ts_query_syntax.specs.declared.read_query.Test.TheVariants as tests
use Rattle.spec_matches.specs.Taking.{IsOfKind}
use Rattle.ts_search.specs.declared.group.Group.{Group}
use Rattle.ts_search.specs.declared.group.Root.{Root}
use Rattle.ts_search.specs.declared.group.Root.TheVariants.{Kind, Node, Siblings}
use Rattle.ts_search.specs.declared.group.Rooted.{Rooted}
use Rattle.ts_search.specs.Single.{IsAlone}

-- this is known of a pattern's root
abbrev pub IsRoot : Root → Pattern → Type 0
IsRoot (Kind kind) pattern =
    (i : Item) × IsAlone i pattern × ((out-Item i).test ≡ tests.Kind kind)
IsRoot Node pattern = (i : Item) × IsAlone i pattern
IsRoot Siblings pattern = Unit {0}

-- .. of the pattern of a number
abbrev pub HasRoot : List Pattern → Root → ℕ → Type 0
HasRoot patterns root k =
    (pattern : Pattern) × (slice_get patterns k ≡ Some pattern) × IsRoot root pattern

-- a node may be such a root
abbrev pub MayBe : List QueryKind → Root → VisibleNode → Type 0
MayBe kinds (Kind kind) node = IsOfKind kinds kind node
MayBe kinds Node node = Unit {0}
MayBe kinds Siblings node = Unit {0}

-- what is known of the roots of patterns, of all below a number at least
pub record AreRooted (patterns : List Pattern) (n : ℕ) (all : List Rooted) : Type 0 where
  pub each : (one : Rooted) → Contains all one → HasRoot patterns one.root one.number
  pub whole : (k : ℕ) → k < n → (one : Rooted) × Contains all one × (one.number ≡ k)

-- a pattern is in one of some groups
abbrev pub IsIn : List Group → Rooted → Type 0
IsIn groups one =
    (g : Group) × Contains groups g × (g.root ≡ one.root) × Contains g.numbers.items one.number

-- groups that have one more pattern
abbrev pub Puts : Rooted → List Group → List Group → Type 0
Puts one old new = (any : Rooted) → IsIn new any ↔ (IsIn old any ⊎ (any ≡ one))

-- this is known of the roots of a group's patterns
abbrev pub HaveRoot : List Pattern → Group → Type 0
HaveRoot patterns g = (k : ℕ) → Contains g.numbers.items k → HasRoot patterns g.root k

-- each pattern is in one of the groups, and what these know of roots is so
pub record IsIndex (patterns : List Pattern) (groups : List Group) : Type 0 where
  pub each : (g : Group) → Contains groups g → HaveRoot patterns g
  pub whole : (k : ℕ) → k < length patterns
      → (g : Group) × Contains groups g × Contains g.numbers.items k
