-- Paths in a graph, which is a list with the list of the nodes to which each node goes, and the
-- search that ranks its nodes.
use Rattle.std.specs.Prelude.{◌≡◌, ℕ, ◌+◌, ◌<◌, ◌≤◌, Bool, true, false, List, length, map, count_by, slice_get, Some}
use Rattle.std.specs.Global.{Vec}
use Rattle.std.specs.List.{Contains}
use Rattle.ts_rules.specs.FirstSights.{Not}
use Rattle.ts_tokens.specs.declared.paths.Mark.{Mark}
use Rattle.ts_tokens.specs.declared.paths.Mark.TheVariants.{Unseen, Open, Done}

-- as the code has it
abbrev pub graph_of : List (Vec ℕ) → List (List ℕ)
graph_of rows = map (λ row. row.items) rows

-- the one node goes to the other
pub record GoesTo (graph : List (List ℕ)) (from to : ℕ) : Type 0 where
  pub row : List ℕ
  pub at : slice_get graph from ≡ Some row
  pub member : Contains row to

-- one or more steps lead from the one node to the other
pub data Path (graph : List (List ℕ)) : ℕ → ℕ → Type 0 where
  one : (from to : ℕ) → GoesTo graph from to → Path graph from to
  more : (from through to : ℕ) → GoesTo graph from through → Path graph through to
      → Path graph from to

-- all nodes that others go to are there
abbrev pub StaysInside : List (List ℕ) → Type 0
StaysInside graph = (from to : ℕ) → GoesTo graph from to → to < length graph

-- no node comes back to itself
abbrev pub HasNoCircle : List (List ℕ) → Type 0
HasNoCircle graph = (k : ℕ) → Not (Path graph k k)

-- each node's rank is above those of the nodes to which it goes
pub record AreNodeRanks (graph : List (List ℕ)) (ranks : List ℕ) : Type 0 where
  pub one_each : length ranks ≡ length graph
  pub falls : (from to high low : ℕ) → GoesTo graph from to → slice_get ranks from ≡ Some high
      → slice_get ranks to ≡ Some low → low < high

-- ---- the search; all below serves private clauses and proofs alone

-- whether the search has not come to a node
abbrev pub is_unseen : Mark → Bool
is_unseen Unseen = true
is_unseen Open = false
is_unseen (Done rank) = false

-- how many nodes are unseen
abbrev pub unseen_count : List Mark → ℕ
unseen_count marks = count_by is_unseen marks

-- the rank of a node that is done
abbrev pub rank_of : Mark → ℕ
rank_of Unseen = 0
rank_of Open = 0
rank_of (Done rank) = rank

-- the node is done, and has a rank
pub record IsRanked (marks : List Mark) (node : ℕ) : Type 0 where
  pub rank : ℕ
  pub is : slice_get marks node ≡ Some (Done rank)

-- each open node leads to this one
pub record OpenLead (graph : List (List ℕ)) (marks : List Mark) (node : ℕ) : Type 0 where
  pub lead : (k : ℕ) → slice_get marks k ≡ Some Open → Path graph k node

-- each node that is done has a rank below `next`, and above the ranks of all nodes to which it
-- goes, which are done too
pub record RanksFall (graph : List (List ℕ)) (marks : List Mark) (next : ℕ) : Type 0 where
  pub one_each : length marks ≡ length graph
  pub below : (k rank : ℕ) → slice_get marks k ≡ Some (Done rank) → rank < next
  pub falls : (k rank to : ℕ) → slice_get marks k ≡ Some (Done rank) → GoesTo graph k to
      → (r : ℕ) × (slice_get marks to ≡ Some (Done r)) × (r < rank)

-- The search goes on: what is seen stays as it is, no more nodes are open, and ranks are given to
-- no more than the nodes seen anew.
pub record Continues (old new : List Mark) (next after : ℕ) : Type 0 where
  pub size : length new ≡ length old
  pub kept : (k : ℕ) (mark : Mark) → is_unseen mark ≡ false → slice_get old k ≡ Some mark
      → slice_get new k ≡ Some mark
  pub opened : (k : ℕ) → slice_get new k ≡ Some Open → slice_get old k ≡ Some Open
  pub rises : next ≤ after
  pub room : after + unseen_count new ≤ next + unseen_count old

-- the search has not begun
pub record NoneSeen (graph : List (List ℕ)) (marks : List Mark) : Type 0 where
  pub one_each : length marks ≡ length graph
  pub unseen : (k : ℕ) (mark : Mark) → slice_get marks k ≡ Some mark → mark ≡ Unseen

-- all nodes are done
pub record AllRanked (graph : List (List ℕ)) (marks : List Mark) : Type 0 where
  pub next : ℕ
  pub falls : RanksFall graph marks next
  pub done : (k : ℕ) → k < length marks → IsRanked marks k
