-- The ways of one item that takes one sibling.
use Rattle.std.specs.Prelude.{◌≡◌, ℕ, ◌+◌, ◌<◌, ◌≤◌, List, [], ◌∷◌, length, Bool, true, false}
use Rattle.spec_trees.specs.declared.visible.VisibleNode.{VisibleNode}
use Rattle.ts_query_syntax.specs.declared.read_query.Item.{Item}
use Rattle.spec_matches.specs.declared.found.Capture.{Capture}
use Rattle.spec_matches.specs.declared.scene.Scene.{Scene}
use Rattle.spec_matches.specs.Embedding.{Unnamed}
use Rattle.spec_matches.specs.Siblings.{nameds}
use Rattle.spec_matches.specs.Taking.{Fully, On, shapes_of, slots_of}
use Rattle.ts_search.specs.Ways.{TakenOf, slot_of}

-- an item takes one sibling
pub record IsOnce (i : Item) : Type 0 where
  pub one : (slot_of i).optional ≡ false
  pub few : (slot_of i).many ≡ false
  pub alone : (slot_of i).more ≡ 0

-- there is one item, which takes one sibling, behind an anchor or not
pub record IsLone (is : List Item) (tied : Bool) : Type 0 where
  pub item : Item
  pub is_it : is ≡ item ∷ []
  pub once : IsOnce item
  pub behind : (slot_of item).tied ≡ tied

-- an anchor before an item, if there is one, allows the siblings up to an end
pub record IsTiedEnd (nodes : List VisibleNode) (siblings : List ℕ) (tied : Bool) (end : ℕ)
    : Type 0 where
  pub inside : end ≤ length siblings
  pub only : (p : ℕ) → p < end → tied ≡ true → Unnamed (nameds nodes siblings) 0 p
  pub all : (p : ℕ) → p < length siblings
      → (tied ≡ true → Unnamed (nameds nodes siblings) 0 p) → p < end

-- an anchor after an item, if there is one, allows the siblings from a start on
pub record IsClosedStart (nodes : List VisibleNode) (siblings : List ℕ) (closed : Bool) (start : ℕ)
    : Type 0 where
  pub only : (p : ℕ) → start ≤ p → closed ≡ true
      → Unnamed (nameds nodes siblings) (p + 1) (length siblings)
  pub all : (p : ℕ) → p < length siblings
      → (closed ≡ true → Unnamed (nameds nodes siblings) (p + 1) (length siblings)) → start ≤ p

-- the first of some items takes a sibling from a place up to another
pub record FirstTakes (scene : Scene) (is : List Item) (siblings : List ℕ) (from to : ℕ)
    (c : List Capture) : Type 0 where
  pub place : ℕ
  pub low : from ≤ place
  pub high : place < to
  pub taken : On (TakenOf scene is) siblings 0 0 place c

-- items fully embed in siblings
abbrev pub WholeOf : Scene → List Item → Bool → List ℕ → List Capture → Type 0
WholeOf scene is closed siblings =
    Fully (TakenOf scene is) (slots_of (shapes_of is)) closed scene.nodes siblings
