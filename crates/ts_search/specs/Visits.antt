-- The matches that are added when a search visits a node.
use Rattle.std.specs.Prelude.{◌≡◌, ℕ, ◌<◌, List, [], ◌∷◌, Some, slice_get}
use Rattle.ts_query_syntax.specs.declared.read_query.Pattern.{Pattern}
use Rattle.spec_matches.specs.declared.found.Match.{Match}
use Rattle.spec_matches.specs.declared.scene.Scene.{Scene}
use Rattle.ts_search.specs.declared.group.Group.{Group}
use Rattle.ts_search.specs.declared.group.Root.{Root}
use Rattle.ts_search.specs.declared.group.Root.TheVariants.{Kind, Node, Siblings}
use Rattle.ts_search.specs.Adding.{OfSome}
use Rattle.ts_search.specs.Gathering.{HitsBeside, HitsIn}

-- of a pattern by what is known of its root
abbrev pub HitsBy : Scene → (Match → Type 0) → Root → ℕ → Pattern → ℕ → Match → Type 0
HitsBy scene kept (Kind kind) k pattern n m = HitsIn scene kept k pattern (n ∷ []) m
HitsBy scene kept Node k pattern n m = HitsIn scene kept k pattern (n ∷ []) m
HitsBy scene kept Siblings k pattern n m = HitsBeside scene kept k pattern n m

-- .. of the pattern of a number
abbrev pub HitsOfNumber : Scene → (Match → Type 0) → List Pattern → Root → ℕ → ℕ → Match → Type 0
HitsOfNumber scene kept patterns root n k m =
    (pattern : Pattern) × (slice_get patterns k ≡ Some pattern)
    × HitsBy scene kept root k pattern n m

-- .. of the patterns of a group
abbrev pub HitsOfGroup : Scene → (Match → Type 0) → List Pattern → ℕ → Group → Match → Type 0
HitsOfGroup scene kept patterns n g =
    OfSome (HitsOfNumber scene kept patterns g.root n) g.numbers.items

-- .. of those of some groups
abbrev pub HitsAtNode : Scene → (Match → Type 0) → List Pattern → List Group → ℕ → Match → Type 0
HitsAtNode scene kept patterns groups n = OfSome (HitsOfGroup scene kept patterns n) groups

-- .. at one of the first nodes
abbrev pub HitsAtFirst : Scene → (Match → Type 0) → List Pattern → List Group → ℕ → Match → Type 0
HitsAtFirst scene kept patterns groups n m =
    (j : ℕ) × (j < n) × HitsAtNode scene kept patterns groups j m
