-- What a graph of stacks stands for, and how much of it is there.
use Rattle.std.specs.Prelude.{◌≡◌, ℕ, ◌+◌, ◌≤◌, true, List, [], ◌∷◌, ◌++◌, length, map, reverse, slice_get, Some, ◌⊎◌}
use Rattle.std.specs.List.{Contains}
use Rattle.ts_core.specs.declared.flat.Production.{Production}
use Rattle.ts_core.specs.declared.symbol.Symbol.{Symbol}
use Rattle.spec_lexing.specs.Lexing.{token}
use Rattle.spec_tables.specs.Actions.{Act, shift}
use Rattle.spec_trees.specs.declared.tree.Tree.{Tree}
use Rattle.spec_trees.specs.Trees.{is_extra_node, span_of, all_spans, tree_depth}
use Rattle.spec_trees.specs.Made.{form_of, filling, most_depth}
use Rattle.spec_runs.specs.Configurations.{token_tree, AreExtras}
use Rattle.spec_packing.specs.Packing.{PackedTree, packed_trees}
use Rattle.spec_graph.specs.declared.graph.Head.{Head}
use Rattle.spec_graph.specs.declared.graph.Link.{Link}
use Rattle.spec_graph.specs.States.{Goto, LeadsTo, ShareState}
use Rattle.spec_graph.specs.Replacing.{Replaces, depth_over}
use Rattle.spec_graph.specs.Laying.{Parsing, from_start, IsMet, SeesAt, PassesAt, ReducesAt, extra_tree, node_made, Taken, Lays, CanMakeNode}
use Rattle.spec_graph.specs.Keys.{Key, Earlier, LaysBefore}

-- ---- heads and ways

-- the head of this number stands at the place, in the state to which these symbols lead
pub record StandsAt (goto : Goto) (heads : List Head) (h : ℕ) (read : List ℕ) (place : ℕ)
    : Type 0 where
  pub head : Head
  pub is : slice_get heads h ≡ Some head
  pub state : LeadsTo goto read head.state
  pub place_is : head.place ≡ place

-- so it is for what is parsed, whatever stack runs go on from
abbrev pub IsAt : Parsing → List Head → ℕ → List ℕ → ℕ → Type 0
IsAt P heads h read place = StandsAt P.goto heads h read place

-- the links of a way from one head down to another, the topmost first
abbrev pub IsWay : List Link → ℕ → List Link → ℕ → Type 0
IsWay links h [] b = h ≡ b
IsWay links h (l ∷ way) b = Contains links l × (l.above ≡ h) × IsWay links l.below way b

-- the trees of a way
abbrev pub way_trees : List Link → List Tree
way_trees way = map (λ l. l.tree) way

-- the depths of a way
abbrev pub depths_of : List Link → List ℕ
depths_of way = map (λ l. l.depth) way

-- ---- what a link stands for

-- The link may stand for the tree: its own tree may take its place, and its depth is no less.
pub record StandsForTree (l : Link) (t : Tree) : Type 0 where
  pub tree : Replaces l.tree t
  pub depth : tree_depth t ≤ l.depth

-- link by link, for as many trees
abbrev pub AllStandFor : List Link → List Tree → Type 0
AllStandFor [] [] = Unit {0}
AllStandFor [] (t ∷ ts) = ⊥
AllStandFor (l ∷ way) [] = ⊥
AllStandFor (l ∷ way) (t ∷ ts) = StandsForTree l t × AllStandFor way ts

-- a head and a way down from it that stands for these trees and extras
pub record HasWay (P : Parsing) (heads : List Head) (links : List Link) (b : ℕ) (w : List Tree)
    (place : ℕ) (now : List ℕ) : Type 0 where
  pub head : ℕ
  pub at : IsAt P heads head now place
  pub way : List Link
  pub is : IsWay links head way b
  pub stands : AllStandFor way w

-- a link from the head b to the head of these symbols that stands for the tree
pub record HasLink (P : Parsing) (heads : List Head) (links : List Link) (b : ℕ) (t : Tree)
    (place : ℕ) (now : List ℕ) : Type 0 where
  pub link : Link
  pub there : Contains links link
  pub below : link.below ≡ b
  pub above : IsAt P heads link.above now place
  pub stands : StandsForTree link t

-- a link from the head b to the head of these symbols that stands for all that the layer stands for
pub record HasLayer (P : Parsing) (heads : List Head) (links : List Link) (b : ℕ) (l : PackedTree)
    (place : ℕ) (now : List ℕ) : Type 0 where
  pub link : Link
  pub there : Contains links link
  pub below : link.below ≡ b
  pub above : IsAt P heads link.above now place
  pub tree : Replaces link.tree l.tree
  pub depth : l.depth ≤ link.depth

-- Sound: the link's tree can be laid between its heads, and is no deeper than the link says; that
-- of an extra says one. Where the stack from which runs go on was met, some tree of the link's
-- depth can be laid there from the start of the text.
pub record IsLinked (P : Parsing) (heads : List Head) (l : Link) : Type 0 where
  pub under : List ℕ
  pub over : List ℕ
  pub from : ℕ
  pub to : ℕ
  pub below : IsAt P heads l.below under from
  pub above : IsAt P heads l.above over to
  pub lays : Lays P under from (l.tree ∷ []) to over
  pub shallow : tree_depth l.tree ≤ l.depth
  pub flat : is_extra_node l.tree ≡ true → l.depth ≡ 1
  pub deepest : IsMet P → (t : Tree) × Lays (from_start P) under from (t ∷ []) to over
      × (tree_depth t ≡ l.depth)

-- Head 0 is that of the empty stack, each link is sound, and a way leads down from each head.
pub record IsGraph (P : Parsing) (heads : List Head) (links : List Link) : Type 0 where
  pub start : IsAt P heads 0 [] 0
  pub linked : (l : Link) → Contains links l → IsLinked P heads l
  pub down : (h : ℕ) (head : Head) → slice_get heads h ≡ Some head
      → (way : List Link) × IsWay links h way 0

-- Whole up to a key: all that is laid on a head and comes before the key has a link that stands for
-- it, and no node that would be made before the key is too deep.
pub record IsWholeTo (P : Parsing) (rank : ℕ → ℕ) (heads : List Head) (links : List Link)
    (k : Key) : Type 0 where
  pub start : IsAt P heads 0 [] 0
  pub linked : (b : ℕ) (read : List ℕ) (from : ℕ) (t : Tree) (place : ℕ) (now : List ℕ)
      → IsAt P heads b read from → LaysBefore P rank k read from (t ∷ []) place now
      → HasLink P heads links b t place now
  pub shallow : (b : ℕ) (now : List ℕ) (place : ℕ) (children : List Tree) (end : ℕ)
      (over : List ℕ) (extras : List Tree) (look number left : ℕ) (p : Production)
      → IsAt P heads b now place
      → CanMakeNode P now place children end over extras look number left p
      → Earlier (record { look = look; begins = place; rank = rank left }) k
      → tree_depth (node_made P number children) ≤ most_depth

-- ---- one key after another

-- A reduction in the graph: extras down from h to e, and then what it takes, down to b.
pub record IsDue (P : Parsing) (rank : ℕ → ℕ) (heads : List Head) (links : List Link) (k : Key)
    (number left : ℕ) (p : Production) (h e b : ℕ) (outer inner : List Link) (over now : List ℕ)
    (end : ℕ) : Type 0 where
  pub top : IsAt P heads h over k.look
  pub middle : IsAt P heads e over end
  pub bottom : IsAt P heads b now k.begins
  pub lifted : IsWay links h outer e
  pub taken_off : IsWay links e inner b
  pub all_extras : AreExtras (way_trees outer)
  pub taken : Taken (reverse (way_trees inner)) [] now k.begins
  pub reduces : ReducesAt P over k.look number left p now
  pub count : length (filling (way_trees inner)) ≡ length p.steps
  pub ranked : k.rank ≡ rank left

-- no reduction in the graph has this key
abbrev pub HasNoneDue : Parsing → (ℕ → ℕ) → List Head → List Link → Key → Type 0
HasNoneDue P rank heads links k =
    (number left : ℕ) (p : Production) (h e b : ℕ) (outer inner : List Link) (over now : List ℕ)
    (end : ℕ) → IsDue P rank heads links k number left p h e b outer inner over now end → ⊥

-- the depth of the node over what a way stands for
abbrev pub way_depth : Parsing → ℕ → ℕ → List Link → ℕ
way_depth P number left way = depth_over (form_of P.grammar left number) (reverse (depths_of way))

-- All reductions of this key that the graph had were done: none makes a node that is too deep, and
-- each has a link now, with a tree that may take the node's place, and a depth that is no less.
abbrev pub AreDone : (P : Parsing) → (ℕ → ℕ) → List Head → List Link → List Head → List Link
    → Key → Type 0
AreDone P rank heads links heads' links' k =
    (number left : ℕ) (p : Production) (h e b : ℕ) (outer inner : List Link) (over now : List ℕ)
    (end : ℕ) → IsDue P rank heads links k number left p h e b outer inner over now end
    → (way_depth P number left inner ≤ most_depth)
    × (l : Link) × Contains links' l × (l.below ≡ b) × IsAt P heads' l.above (left ∷ now) end
    × Replaces l.tree (node_made P number (reverse (way_trees inner)))
    × (way_depth P number left inner ≤ l.depth)

-- heads were added, and links were added or changed, and each stands for all that it stood for
pub record HasGrown (P : Parsing) (heads : List Head) (links : List Link) (heads' : List Head)
    (links' : List Link) : Type 0 where
  pub heads_stay : (h : ℕ) (read : List ℕ) (place : ℕ) → IsAt P heads h read place
      → IsAt P heads' h read place
  pub links_stay : (l : Link) → Contains links l
      → (n : Link) × Contains links' n × (n.above ≡ l.above) × (n.below ≡ l.below)
      × ((t : Tree) → StandsForTree l t → StandsForTree n t)

-- Each head was there, or has a link for all that is laid on it and comes before the key, and makes
-- no node before it.
pub record AreAdded (P : Parsing) (rank : ℕ → ℕ) (heads heads' : List Head) (links' : List Link)
    (k : Key) : Type 0 where
  pub each : (b : ℕ) (read : List ℕ) (from : ℕ) → IsAt P heads' b read from
      → IsAt P heads b read from
      ⊎ (((t : Tree) (place : ℕ) (now : List ℕ)
      → LaysBefore P rank k read from (t ∷ []) place now → HasLink P heads' links' b t place now)
      × ((children : List Tree) (end : ℕ) (over : List ℕ) (extras : List Tree)
      (look number left : ℕ) (p : Production)
      → CanMakeNode P read from children end over extras look number left p
      → Earlier (record { look = look; begins = from; rank = rank left }) k → ⊥))

-- What is seen at the heads of a place was done: each token that is shifted there, and each extra
-- that is passed, has a link.
pub record IsOpened (P : Parsing) (heads : List Head) (links : List Link) (place : ℕ)
    : Type 0 where
  pub shifts : (b : ℕ) (read : List ℕ) (symbol : Symbol) (pad size : ℕ)
      → IsAt P heads b read place → SeesAt P read place (token symbol pad size)
      → Act P.grammar read symbol.0 shift
      → HasLink P heads links b (token_tree symbol pad size) (place + (pad + size))
      (symbol.0 ∷ read)
  pub passes : (b : ℕ) (read : List ℕ) (symbol : Symbol) (pad size : ℕ)
      → IsAt P heads b read place → PassesAt P read place symbol pad size
      → HasLink P heads links b (extra_tree symbol pad size) (place + (pad + size)) read

-- each layer of the stack from which runs go on has a link at the heads where it stood
pub record HasStood (P : Parsing) (heads : List Head) (links : List Link) : Type 0 where
  pub each : (b : ℕ) (read : List ℕ) (place : ℕ) (l : PackedTree) (above below : List PackedTree)
      → IsAt P heads b read place → P.layers ≡ above ++ l ∷ below
      → place ≡ all_spans (packed_trees below)
      → ShareState P.goto (filling (packed_trees below)) read
      → HasLayer P heads links b l (place + span_of l.tree) (filling (l.tree ∷ []) ++ read)
