-- Trees whose settled nodes are what a parser would make again, and honest offers.
use Rattle.std.specs.Prelude.{◌≡◌, ℕ, ◌+◌, ◌≤◌, true, false, List, [], ◌∷◌, length, take, drop, slice_get, Some, All}
use Rattle.ts_base.specs.Bytes.{Bytes}
use Rattle.ts_core.specs.declared.flat.FlatGrammar.{FlatGrammar}
use Rattle.spec_trees.specs.declared.tree.Tree.{Tree}
use Rattle.spec_trees.specs.declared.tree.Element.{Element}
use Rattle.spec_trees.specs.declared.tree.Stretch.{Stretch}
use Rattle.spec_trees.specs.Trees.{symbol_of, span_of, all_spans, node_extent, is_settled, is_extra_node, state_of, elements_of, children_of}
use Rattle.spec_trees.specs.Made.{form_of, of_next, value_of, children_count, AreCounted}
use Rattle.spec_runs.specs.Configurations.{stack_symbols}
use Rattle.spec_reuse.specs.Places.{IsIn, lead_of}
use Rattle.spec_forced.specs.Forced.{HaveSameItems, Stands}
use Rattle.spec_forced.specs.Behind.{StandsBehind, LaterElement}

-- ---- states

-- what the states of a parser are: for each number some symbols that lead to it
abbrev pub States : Type 0
States = List (List ℕ)

-- the state of this number has just the items that are valid after these symbols
pub record IsStateAfter (g : FlatGrammar) (states : States) (state : ℕ) (read : List ℕ)
    : Type 0 where
  pub way : List ℕ
  pub at : slice_get states state ≡ Some way
  pub same : HaveSameItems g way read

-- the node stands at a place of a text for this state, by the bytes that were examined for it
pub record StandsForState (g : FlatGrammar) (states : States) (text : Bytes) (place state : ℕ)
    (t : Tree) : Type 0 where
  pub way : List ℕ
  pub at : slice_get states state ≡ Some way
  pub stands : Stands g way (drop place text) t (node_extent t)

-- the element stands behind a repetition that ends at a place of a text, with this state below it
pub record StandsBehindForState (g : FlatGrammar) (states : States) (text : Bytes)
    (place state symbol number : ℕ) (children : List Tree) (extent : ℕ) : Type 0 where
  pub way : List ℕ
  pub at : slice_get states state ≡ Some way
  pub stands : StandsBehind g symbol way (drop place text) number children extent

-- elements one after another do, each at its own place
abbrev pub StandBehindForState : FlatGrammar → States → Bytes → ℕ → ℕ → ℕ → List LaterElement
    → Type 0
StandBehindForState g states text place state symbol [] = Unit {0}
StandBehindForState g states text place state symbol (e ∷ es) =
    StandsBehindForState g states text place state symbol e.number e.children e.extent
    × StandBehindForState g states text (place + all_spans e.children) state symbol es

-- ---- elements of a repetition's node

-- The element has the alternative and the value of a production that appends it, and with these
-- children it stands at its place behind the repetition so far, by the bytes that were examined for
-- it.
pub record ElementStands (g : FlatGrammar) (states : States) (text : Bytes)
    (place state symbol : ℕ) (e : Element) (children : List Tree) : Type 0 where
  pub number : ℕ
  pub form : form_of g symbol number ≡ of_next e.alternative
  pub value : e.dynamic ≡ value_of g number
  pub stands : StandsBehindForState g states text place state symbol number children e.extent

-- of elements that stand one after another from a place on, each settled one does
abbrev pub SettledStand : FlatGrammar → States → Bytes → ℕ → ℕ → ℕ → List Element → List Tree
    → Type 0
SettledStand g states text place state symbol [] ts = Unit {0}
SettledStand g states text place state symbol (e ∷ es) ts =
    (e.settled ≡ true
    → ElementStands g states text place state symbol e (take e.children ts))
    × SettledStand g states text (place + all_spans (take e.children ts)) state symbol es
    (drop e.children ts)

-- of a repetition's elements, each settled one but the first does
abbrev pub LaterStand : FlatGrammar → States → Bytes → ℕ → ℕ → ℕ → List Element → List Tree
    → Type 0
LaterStand g states text place state symbol [] ts = Unit {0}
LaterStand g states text place state symbol (e ∷ es) ts =
    SettledStand g states text (place + all_spans (take e.children ts)) state symbol es
    (drop e.children ts)

-- ---- sound trees

-- A node is sound at its place for the state below it: if it is settled, it stands there; and
-- whether it is or not, its settled elements but the first stand behind those before them.
pub record IsSoundNode (g : FlatGrammar) (states : States) (text : Bytes) (place state : ℕ)
    (t : Tree) : Type 0 where
  pub stands : is_settled t ≡ true → StandsForState g states text place state t
  pub elements : LaterStand g states text place state (symbol_of t) (elements_of t) (children_of t)

-- Each node in these trees, which stand one after another from a place on, is sound at its own
-- place for its own state, if it has one.
abbrev pub AllSound : FlatGrammar → States → Bytes → List Tree → ℕ → Type 0
AllSound g states text ts place =
    (u : Tree) (at state : ℕ) → IsIn ts place u at → state_of u ≡ Some state
    → IsSoundNode g states text at state u

-- The tree is sound for a text: it is no longer, and each node in it that has a state is sound at
-- its place for it. A root that no edit has reached begins with its first child, and is sound
-- itself.
pub record IsSound (g : FlatGrammar) (states : States) (text : Bytes) (tree : Tree)
    : Type 0 where
  pub short : span_of tree ≤ length text
  pub begins : is_settled tree ≡ true → lead_of tree ≡ 0
  pub own : is_settled tree ≡ true → (state : ℕ) → state_of tree ≡ Some state
      → IsSoundNode g states text 0 state tree
  pub inner : AllSound g states text (children_of tree) (lead_of tree)

-- ---- honest offers

-- The node is honestly offered at a place for a state: it has the state below it, and it stands
-- there; and each node in it is sound at its own place for its own state.
pub record IsHonest (g : FlatGrammar) (states : States) (text : Bytes) (place state : ℕ)
    (t : Tree) : Type 0 where
  pub below : state_of t ≡ Some state
  pub stands : StandsForState g states text place state t
  pub inner : AllSound g states text (t ∷ []) place

-- Elements of a sound tree that may be taken over at once: they are settled, and from this place on
-- they stand behind a repetition of the symbol with this state below it. The nodes in them are
-- sound.
pub record IsHonestStretch (g : FlatGrammar) (states : States) (text : Bytes)
    (place state symbol : ℕ) (s : Stretch) : Type 0 where
  pub counted : children_count s.elements ≡ length s.children
  pub settled : All (λ e. e.settled ≡ true) s.elements
  pub stand : SettledStand g states text place state symbol s.elements s.children
  pub inner : AllSound g states text s.children place

-- ---- what a parser keeps of its stacks

-- the node has a state: no choice of moves was made while it was made
abbrev pub HasState : Tree → Type 0
HasState t = (state : ℕ) × (state_of t ≡ Some state)

-- each of them has one
abbrev pub EachHasState : List Tree → Type 0
EachHasState [] = Unit {0}
EachHasState (t ∷ ts) = HasState t × EachHasState ts

-- where the production lengthens a repetition, the one so far takes just the bytes of its children,
-- and its elements have just these
abbrev pub IsWholeSoFar : FlatGrammar → ℕ → ℕ → List Tree → Type 0
IsWholeSoFar g left number children =
    (alternative : ℕ) (t : Tree) (others : List Tree) → form_of g left number ≡ of_next alternative
    → children ≡ t ∷ others
    → (span_of t ≡ all_spans (children_of t)) × AreCounted (elements_of t) (children_of t)

-- Each tree of a stack, the last one first, that has a state stands where it lies, after the
-- symbols below it; if it is no extra, they lead to this state. And the nodes in all of them are
-- sound at their own places.
abbrev pub StandOnStack : FlatGrammar → States → Bytes → List Tree → Type 0
StandOnStack g states text [] = Unit {0}
StandOnStack g states text (t ∷ ts) =
    (HasState t → Stands g (stack_symbols ts) (drop (all_spans ts) text) t (node_extent t))
    × (is_extra_node t ≡ false → (state : ℕ) → state_of t ≡ Some state
    → IsStateAfter g states state (stack_symbols ts))
    × AllSound g states text (t ∷ []) (all_spans ts) × StandOnStack g states text ts
