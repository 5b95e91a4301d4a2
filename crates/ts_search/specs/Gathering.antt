-- Matches that are gathered, up to one more than there may be.
use Rattle.std.specs.Prelude.{◌≡◌, ℕ, ◌<◌, ◌⊎◌, Bool, false, List, [], ◌∷◌, Some, slice_get}
use Rattle.std.specs.Bool.{IsTrue}
use Rattle.std.specs.BTreeSet.{BTreeSet, contains, btree_set_len}
use Rattle.ts_query_syntax.specs.declared.read_query.Pattern.{Pattern}
use Rattle.spec_matches.specs.declared.found.Match.{Match}
use Rattle.spec_matches.specs.declared.placing.Placing.{Placing}
use Rattle.spec_matches.specs.declared.scene.Scene.{Scene}
use Rattle.spec_matches.specs.Siblings.{AreChildren, AreSiblings}
use Rattle.spec_matches.specs.Taking.{Embedded}
use Rattle.spec_matches.specs.Matches.{Comes, OfPatterns, most_matches, match_cmp}

-- a match is among those gathered
abbrev pub Has : BTreeSet Match → Match → Type 0
Has s m = IsTrue (contains match_cmp s m)

-- there are more than there may be
abbrev pub IsFull : BTreeSet Match → Type 0
IsFull s = most_matches < btree_set_len s

-- such matches are added, and all of them unless there are too many
pub record Gathers (P : Match → Type 0) (old new : BTreeSet Match) : Type 0 where
  pub only : (m : Match) → Has new m → Has old m ⊎ P m
  pub stays : (m : Match) → Has old m → Has new m
  pub full : IsFull old → IsFull new
  pub all : (IsFull new → ⊥) → (m : Match) → P m → Has new m

-- .. but for what was left out: two signs say whether anything was left out before, and by now
pub record GathersSome (P : Match → Type 0) (was now : Bool) (old new : BTreeSet Match)
    : Type 0 where
  pub only : (m : Match) → Has new m → Has old m ⊎ P m
  pub stays : (m : Match) → Has old m → Has new m
  pub full : IsFull old → IsFull new
  pub earlier : now ≡ false → was ≡ false
  pub all : now ≡ false → (IsFull new → ⊥) → (m : Match) → P m → Has new m

-- the match of a pattern that an embedding gives, where it is kept
pub record Hits (kept : Match → Type 0) (k : ℕ) (siblings : List ℕ) (f : Placing) (m : Match)
    : Type 0 where
  pub pattern : m.pattern ≡ k
  pub comes : Comes siblings f m
  pub keeps : kept m

-- .. one of some embeddings, in some siblings
abbrev pub HitsIn : Scene → (Match → Type 0) → ℕ → Pattern → List ℕ → Match → Type 0
HitsIn scene kept k pattern siblings m =
    (f : Placing) × Embedded scene pattern.items pattern.closed siblings f
    × Hits kept k siblings f m

-- .. in the children of a node
abbrev pub HitsUnder : Scene → (Match → Type 0) → ℕ → Pattern → ℕ → Match → Type 0
HitsUnder scene kept k pattern n m =
    (siblings : List ℕ) × AreChildren scene.nodes n siblings
    × HitsIn scene kept k pattern siblings m

-- .. in the children of a node, or, of the first node, in the root alone
abbrev pub HitsBeside : Scene → (Match → Type 0) → ℕ → Pattern → ℕ → Match → Type 0
HitsBeside scene kept k pattern n m =
    ((n ≡ 0) × HitsIn scene kept k pattern (0 ∷ []) m) ⊎ HitsUnder scene kept k pattern n m

-- .. in any siblings
abbrev pub HitsOf : Scene → (Match → Type 0) → ℕ → Pattern → Match → Type 0
HitsOf scene kept k pattern m =
    (siblings : List ℕ) × AreSiblings scene.nodes siblings × HitsIn scene kept k pattern siblings m

-- .. of one of some patterns
abbrev pub HitsOfAny : Scene → (Match → Type 0) → List Pattern → Match → Type 0
HitsOfAny scene kept patterns m =
    (k : ℕ) × (pattern : Pattern) × (slice_get patterns k ≡ Some pattern)
    × HitsOf scene kept k pattern m

-- all matches of patterns that are kept, unless there are too many
pub record IsGathered (scene : Scene) (kept : Match → Type 0) (patterns : List Pattern)
    (out : BTreeSet Match) : Type 0 where
  pub only : (m : Match) → Has out m → OfPatterns scene patterns m × kept m
  pub all : (IsFull out → ⊥) → (m : Match) → OfPatterns scene patterns m → kept m → Has out m
