-- Where the descendants of visible nodes end, and in which nodes a node stands, by their numbers.
use Rattle.std.specs.Prelude.{◌≡◌, ℕ, suc, ◌<◌, ◌≤◌, ◌^◌, List, length, slice_index_or}
use Rattle.spec_trees.specs.declared.visible.VisibleNode.{VisibleNode}
use Rattle.spec_trees.specs.Family.{depth_at}

-- p comes right after the descendants of k: all between them are deeper, and a node p is not
pub record IsPast (nodes : List VisibleNode) (k p : ℕ) : Type 0 where
  pub later : k < p
  pub within : p ≤ length nodes
  pub between : (i : ℕ) → k < i → i < p → depth_at nodes k < depth_at nodes i
  pub ends : p < length nodes → depth_at nodes p ≤ depth_at nodes k

-- so it is for each node from a number on
pub record ArePastsFrom (nodes : List VisibleNode) (from : ℕ) (pasts : List ℕ) : Type 0 where
  pub many : length pasts ≡ length nodes
  pub each : (k : ℕ) → from ≤ k → k < length nodes → IsPast nodes k (slice_index_or pasts k 0)

-- so it is for each node
abbrev pub ArePasts : List VisibleNode → List ℕ → Type 0
ArePasts nodes pasts = ArePastsFrom nodes 0 pasts

-- p is the last node before k at a depth, and all between them are deeper
pub record IsOver (nodes : List VisibleNode) (k depth p : ℕ) : Type 0 where
  pub earlier : p < k
  pub level : depth_at nodes p ≡ depth
  pub between : (i : ℕ) → p < i → i < k → depth < depth_at nodes i

-- for each depth above that of k the node at that depth in which k stands
abbrev pub IsPath : List VisibleNode → ℕ → List ℕ → Type 0
IsPath nodes k path = (d : ℕ) → d < depth_at nodes k → IsOver nodes k d (slice_index_or path d 0)

-- no node is more than one deeper than the one before it
abbrev pub DepthsRise : List VisibleNode → Type 0
DepthsRise nodes =
    (k : ℕ) → suc k < length nodes → depth_at nodes (suc k) ≤ suc (depth_at nodes k)

-- all nodes are less deep than this
abbrev pub AreShallow : ℕ → List VisibleNode → Type 0
AreShallow room nodes = (k : ℕ) → k < length nodes → depth_at nodes k < room

-- there is no such number
abbrev pub HasNone : (ℕ → Type 0) → Type 0
HasNone P = (m : ℕ) → P m → ⊥

-- what a cursor keeps beside the nodes
pub record IsLinked (nodes : List VisibleNode) (pasts path : List ℕ) (number : ℕ) : Type 0 where
  pub few : length nodes < 2 ^ 32
  pub within : number < length nodes
  pub rise : DepthsRise nodes
  pub shallow : AreShallow (length path) nodes
  pub pasts_are : ArePasts nodes pasts
  pub path_is : IsPath nodes number path
