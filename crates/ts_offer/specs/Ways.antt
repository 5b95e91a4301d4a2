-- Where the search through a tree stands, and what it finds. For private clauses and proofs alone.
use Rattle.std.specs.Prelude.{◌≡◌, ℕ, suc, ◌+◌, ◌-◌, ◌*◌, ◌<◌, ◌≤◌, ◌⊎◌, ◌++◌, List, [], ◌∷◌, length, take, drop, slice_get, Option, Some, None, unwrap_or, vec_capacity}
use Rattle.spec_trees.specs.declared.tree.Tree.{Tree}
use Rattle.spec_trees.specs.Trees.{elements_of, children_of, span_of, all_spans, all_nodes, tree_depth}
use Rattle.spec_trees.specs.Made.{stretch_in, bytes_before, settled_first}
use Rattle.spec_reuse.specs.Places.{IsIn, IsWhole, lead_of}
use Rattle.spec_reuse.specs.Offered.{IsFit}
use Rattle.ts_offer.specs.declared.way.Turn.{Turn}
use Rattle.ts_offer.specs.declared.way.Ahead.{Ahead}
use Rattle.ts_offer.specs.declared.way.Step.{Step}
use Rattle.ts_offer.specs.declared.way.Step.TheVariants as step
use Rattle.ts_offer.specs.declared.way.Way.{Way}

-- the children of a turn's node that are still ahead
abbrev pub rest_of : Turn → List Tree
rest_of t = drop t.next (children_of t.node.now)

-- a node stands in the children left of some turn
abbrev pub IsAhead : List Turn → Tree → ℕ → Type 0
IsAhead [] u at = ⊥
IsAhead (t ∷ ts) u at = IsIn (rest_of t) t.place u at ⊎ IsAhead ts u at

-- where it is known where the node begins, the children before the next one stand between
abbrev pub IsBegun : Turn → Type 0
IsBegun t = (at : ℕ) → t.begins ≡ Some at
    → t.place ≡ at + all_spans (take t.next (children_of t.node.now))

-- a turn in a node that ends no later than a place and is less deep than a number
pub record IsTurn (end deep : ℕ) (t : Turn) : Type 0 where
  pub whole : IsWhole t.node.now
  pub next : t.next ≤ length (children_of t.node.now)
  pub within : t.place + all_spans (rest_of t) ≤ end
  pub falls : tree_depth t.node.now < deep

-- turns one in another, the outermost first
abbrev pub AreTurns : ℕ → ℕ → List Turn → Type 0
AreTurns end deep [] = Unit {0}
AreTurns end deep (t ∷ ts) = IsTurn end deep t × AreTurns t.place (tree_depth t.node.now) ts

-- where it is known where the node begins, it stands there, below the root
abbrev pub StandsIn : Tree → Turn → Type 0
StandsIn root t = (at : ℕ) → t.begins ≡ Some at
    → IsIn (children_of root) (lead_of root) t.node.now at

-- so does each of some turns
abbrev pub AllStandIn : Tree → List Turn → Type 0
AllStandIn root [] = Unit {0}
AllStandIn root (t ∷ ts) = StandsIn root t × AllStandIn root ts

-- where the children of a turn's node begin
abbrev pub start_of : Tree → Turn → ℕ
start_of root t = unwrap_or t.begins (lead_of root)

-- Its node begins before the place, unless it is the root, and the children up to the next one take
-- all bytes up to where that begins.
pub record HasBegun (root : Tree) (place : ℕ) (t : Turn) : Type 0 where
  pub before : (at : ℕ) → t.begins ≡ Some at → at < place
  pub whole : t.begins ≡ None → t.node.now ≡ root
  pub passed : t.place ≡ start_of root t + all_spans (take t.next (children_of t.node.now))

-- so does each of some turns
abbrev pub AllHaveBegun : Tree → ℕ → List Turn → Type 0
AllHaveBegun root place [] = Unit {0}
AllHaveBegun root place (t ∷ ts) = HasBegun root place t × AllHaveBegun root place ts

-- All nodes with bytes in the root that begin at a place or later are ahead, and no others.
pub record IsOn (root : Tree) (size : ℕ) (ts : List Turn) (place : ℕ) : Type 0 where
  pub whole : IsWhole root
  pub turns : AreTurns (span_of root) (1 + tree_depth root) ts
  pub stand : AllStandIn root ts
  pub begun : AllHaveBegun root place ts
  pub room : 1 + tree_depth root ≤ size
  pub all : (u : Tree) (at : ℕ) → IsIn (children_of root) (lead_of root) u at
      → place ≤ at → 0 < span_of u → IsAhead ts u at
  pub only : (u : Tree) (at : ℕ) → IsAhead ts u at
      → IsIn (children_of root) (lead_of root) u at

-- the same of a way
abbrev pub IsWay : Way → ℕ → Type 0
IsWay w place = IsOn w.root.now (vec_capacity w.turns) w.turns.items place

-- how much of the tree is left to go through
abbrev pub weight : List Turn → ℕ
weight [] = 0
weight (t ∷ ts) = 1 + (2 * all_nodes (rest_of t) + weight ts)

-- one turn more
pub record IsLeft (old : Way) (t : Turn) (new : Way) : Type 0 where
  pub root : new.root.now ≡ old.root.now
  pub turns : new.turns.items ≡ old.turns.items ++ t ∷ []
  pub room : vec_capacity old.turns ≤ vec_capacity new.turns

-- the turn after a child
pub record IsPast (t : Turn) (c : Tree) (s : Turn) : Type 0 where
  pub node : s.node.now ≡ t.node.now
  pub begins : s.begins ≡ t.begins
  pub next : s.next ≡ t.next + 1
  pub place : s.place ≡ t.place + span_of c

-- the turn at the first child of a child
pub record IsInto (t : Turn) (c : Tree) (i : Turn) : Type 0 where
  pub node : i.node.now ≡ c
  pub begins : i.begins ≡ Some t.place
  pub next : i.next ≡ 0
  pub place : i.place ≡ t.place

-- the next child ends behind the place, and does not begin before it
pub record IsReached (t : Turn) (place : ℕ) (a : Ahead) : Type 0 where
  pub child : slice_get (children_of t.node.now) t.next ≡ Some a.node.now
  pub begins : a.place ≡ t.place
  pub from : place ≤ t.place
  pub past : place < t.place + span_of a.node.now

-- the node ahead is the next child of the last turn
pub record IsReachedLast (ts : List Turn) (place : ℕ) (a : Ahead) : Type 0 where
  pub turns : List Turn
  pub turn : Turn
  pub are : ts ≡ turns ++ turn ∷ []
  pub reached : IsReached turn place a

-- a turn in the same node, or a later one: the children between end at the place or before it
pub record IsLater (t : Turn) (place : ℕ) (s : Turn) : Type 0 where
  pub node : s.node.now ≡ t.node.now
  pub begins : s.begins ≡ t.begins
  pub next : t.next ≤ s.next
  pub within : s.next ≤ length (children_of t.node.now)
  pub bytes : s.place ≡ t.place + all_spans (take (s.next - t.next) (rest_of t))
  pub ends : s.place ≤ place

-- the next child ends at the place or before it, and so do others that are passed with it
pub record IsPassed (t : Turn) (place : ℕ) (s : Turn) : Type 0 where
  pub some : t.next < s.next
  pub later : IsLater t place s

-- the next child begins before the place
pub record IsEntered (t : Turn) (place : ℕ) (s i : Turn) : Type 0 where
  pub node : Tree
  pub child : slice_get (children_of t.node.now) t.next ≡ Some node
  pub after : IsPast t node s
  pub inner : IsInto t node i
  pub begins : t.place < place

-- what the next child of a turn is, seen from a place
abbrev pub TurnsTo : Turn → ℕ → Step → Type 0
TurnsTo t place step.Over = t.next < length (children_of t.node.now) → ⊥
TurnsTo t place (step.Next a) = IsReached t place a
TurnsTo t place (step.Past s) = IsPassed t place s
TurnsTo t place (step.Into s i) = IsEntered t place s i

-- A node ahead holds all nodes with bytes in the root that begin at the place, and begins no
-- sooner.
pub record IsNext (root : Tree) (place : ℕ) (a : Ahead) : Type 0 where
  pub whole : IsWhole a.node.now
  pub from : place ≤ a.place
  pub there : (u : Tree) (at : ℕ) → IsIn (a.node.now ∷ []) a.place u at
      → IsIn (children_of root) (lead_of root) u at
  pub holds : (u : Tree) → IsIn (children_of root) (lead_of root) u place → 0 < span_of u
      → IsIn (a.node.now ∷ []) a.place u place

-- the next node ahead, or none where no node with bytes in the root begins at the place
abbrev pub LeadsTo : Tree → ℕ → Option Ahead → Type 0
LeadsTo root place None = (u : Tree) → IsIn (children_of root) (lead_of root) u place
    → 0 < span_of u → ⊥
LeadsTo root place (Some a) = IsNext root place a

-- a child in which all nodes with bytes stand that begin where their parent begins
pub record IsFirst (t c : Tree) : Type 0 where
  pub falls : tree_depth c < tree_depth t
  pub there : (u : Tree) (place : ℕ) → IsIn (c ∷ []) place u place → IsIn (t ∷ []) place u place
  pub holds : (u : Tree) (place : ℕ) → IsIn (children_of t) place u place
      → 0 < span_of u → IsIn (c ∷ []) place u place

-- that child, or none where there are no such nodes
abbrev pub IsFirstAt : Tree → Option Tree → Type 0
IsFirstAt t None = (u : Tree) (place : ℕ) → IsIn (children_of t) place u place
    → 0 < span_of u → ⊥
IsFirstAt t (Some c) = IsFirst t c

-- the topmost fit node in a node that begins where it begins
pub record IsTop (t : Tree) (state : ℕ) (found : Tree) : Type 0 where
  pub there : (place : ℕ) → IsIn (t ∷ []) place found place
  pub fit : IsFit state found
  pub top : (u : Tree) (place : ℕ) → IsIn (t ∷ []) place u place → IsFit state u
      → IsIn (found ∷ []) place u place

-- that node, or none where there is none
abbrev pub IsTopmostAt : Tree → ℕ → Option Tree → Type 0
IsTopmostAt t state None = (u : Tree) (place : ℕ) → IsIn (t ∷ []) place u place → IsFit state u → ⊥
IsTopmostAt t state (Some found) = IsTop t state found

-- A node, with the place where it begins, has a child with bytes that begins at a later place, and
-- no node in it reaches over that place.
pub record PartsAt (v : Tree) (at place : ℕ) : Type 0 where
  pub before : at < place
  pub child : Tree
  pub there : IsIn (children_of v) at child place
  pub some : 0 < span_of child
  pub inner : (u : Tree) (b : ℕ) → IsIn (children_of v) at u b → b < place
      → b + span_of u ≤ place

-- the last turn is in the node
pub record IsLastIn (ts : List Turn) (v : Tree) (at : ℕ) : Type 0 where
  pub turn : Turn
  pub last : slice_get ts (length ts - 1) ≡ Some turn
  pub node : turn.node.now ≡ v
  pub begins : turn.begins ≡ Some at

-- In a node that begins at a place, a settled element begins at another, and is not the first. That
-- element and the one before it have bytes.
pub record HasRunAt (node : Tree) (at place from : ℕ) : Type 0 where
  pub begins : at + bytes_before from (stretch_in node) ≡ place
  pub later : 0 < from
  pub there : from < length (elements_of node)
  pub settled : 0 < settled_first (drop from (elements_of node))
  pub before : bytes_before (from - 1) (stretch_in node) < bytes_before from (stretch_in node)
  pub after : bytes_before from (stretch_in node) < bytes_before (suc from) (stretch_in node)
