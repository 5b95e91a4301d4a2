-- The matches of a query in a visible tree.
use Rattle.std.specs.Prelude.{◌≡◌, ◌↔◌, ℕ, ◌<◌, Bool, List, length, Some, slice_get}
use Rattle.std.specs.List.{Contains}
use Rattle.std.specs.List.Sorted.{IsStrictlySortedBy}
use Rattle.std.specs.declared.cmp.Ordering.{Ordering}
use Rattle.spec_trees.specs.declared.visible.VisibleNode.{VisibleNode}
use Rattle.ts_query_syntax.specs.declared.read_query.Pattern.{Pattern}
use Rattle.ts_query_syntax.specs.declared.read_query.ReadQuery.{ReadQuery}
use Rattle.spec_matches.specs.declared.found.Capture.{Capture}
use Rattle.spec_matches.specs.declared.found.Match.{Match}
use Rattle.spec_matches.specs.declared.placing.Placing.{Placing}
use Rattle.spec_matches.specs.declared.scene.Scene.{Scene}
use Rattle.spec_matches.specs.contracts.found.CapturePartialEq.TheImpl as equal_captures
use Rattle.spec_matches.specs.contracts.found.CaptureOrd.TheImpl as of_captures
use Rattle.spec_matches.specs.contracts.found.MatchPartialEq.TheImpl as equal_matches
use Rattle.spec_matches.specs.contracts.found.MatchOrd.TheImpl as of_matches
use Rattle.spec_matches.specs.Siblings.{AreSiblings}
use Rattle.spec_matches.specs.Taking.{Embedded}

-- captures by node, then by the capture's number
abbrev pub capture_cmp : Capture → Capture → Ordering
capture_cmp = (of_captures.cmp-value).it

-- matches by root, then pattern, then captures
abbrev pub match_cmp : Match → Match → Ordering
match_cmp = (of_matches.cmp-value).it

-- whether two captures are equal
abbrev pub capture_eq : Capture → Capture → Bool
capture_eq = (equal_captures.eq-value).it

-- whether two matches are equal
abbrev pub match_eq : Match → Match → Bool
match_eq = (equal_matches.eq-value).it

-- the match that an embedding of a pattern gives: its root is the first sibling taken, and its
-- captures are those of the embedding, in order and each once
pub record Comes (siblings : List ℕ) (f : Placing) (m : Match) : Type 0 where
  pub place : ℕ
  pub first : f.first ≡ Some place
  pub root : slice_get siblings place ≡ Some m.root
  pub members : (c : Capture) → Contains m.captures c ↔ Contains f.captures c
  pub order : IsStrictlySortedBy capture_cmp m.captures

-- a match of a pattern in some siblings
abbrev pub InSiblings : Scene → Pattern → List ℕ → Match → Type 0
InSiblings scene pattern siblings m =
    (f : Placing) × Embedded scene pattern.items pattern.closed siblings f × Comes siblings f m

-- a match of one of some patterns
pub record OfPatterns (scene : Scene) (patterns : List Pattern) (m : Match) : Type 0 where
  pub pattern : Pattern
  pub is_pattern : slice_get patterns m.pattern ≡ Some pattern
  pub siblings : List ℕ
  pub are_siblings : AreSiblings scene.nodes siblings
  pub matches : InSiblings scene pattern siblings m

-- a match of a query in a visible tree
abbrev pub IsMatch : ReadQuery → List VisibleNode → Match → Type 0
IsMatch query nodes = OfPatterns (record { kinds = query.kinds; nodes = nodes }) query.patterns

-- how many matches there may be
abbrev pub most_matches : ℕ
most_matches = 100000

-- all such matches, in order, each once
pub record AreAll (P : Match → Type 0) (ms : List Match) : Type 0 where
  pub all : (m : Match) → Contains ms m ↔ P m
  pub order : IsStrictlySortedBy match_cmp ms

-- there are more such matches than this number
pub record AreMoreThan (count : ℕ) (P : Match → Type 0) : Type 0 where
  pub some : List Match
  pub each : (m : Match) → Contains some m → P m
  pub order : IsStrictlySortedBy match_cmp some
  pub more : count < length some

-- a match that is kept
abbrev pub IsKept : ReadQuery → List VisibleNode → (Match → Type 0) → Match → Type 0
IsKept query nodes kept m = IsMatch query nodes m × kept m

-- the matches of a query in a visible tree that are kept
abbrev pub AreMatches : ReadQuery → List VisibleNode → (Match → Type 0) → List Match → Type 0
AreMatches query nodes kept = AreAll (IsKept query nodes kept)

-- there are too many of them
abbrev pub AreTooMany : ReadQuery → List VisibleNode → (Match → Type 0) → Type 0
AreTooMany query nodes kept = AreMoreThan most_matches (IsKept query nodes kept)
