-- How far the parts of an edit have been gone through. For private clauses and proofs alone.
use Rattle.std.specs.Prelude.{◌≡◌, ℕ, ◌+◌, ◌-◌, ◌<◌, ◌≤◌, ◌⊎◌, ◌++◌, List, [], ◌∷◌, length, take, drop, slice_get, Some, All}
use Rattle.ts_text.specs.declared.edit.Edit.{Edit}
use Rattle.ts_text.specs.declared.edit.Part.{Part}
use Rattle.spec_trees.specs.declared.tree.Tree.{Tree}
use Rattle.spec_trees.specs.declared.tree.Element.{Element}
use Rattle.spec_trees.specs.Trees.{children_of, elements_of, all_spans}
use Rattle.spec_trees.specs.Made.{bytes_before, children_count, loose_element, loosened, replaced, most_span, stretch_in}
use Rattle.spec_reuse.specs.Changes.{moved, moved_from}
use Rattle.spec_reuse.specs.Marked.{all_marked, marked_below, marked_element, marked_elements}
use Rattle.ts_marks.specs.declared.passed.Passed.{Passed}
use Rattle.ts_marks.specs.Parts.{AreOrdered}

-- the parts of an edit that are left
abbrev pub left_of : Passed → List Part
left_of p = drop p.next p.edit.now.parts

-- a part is left that begins at a place or before it
abbrev pub BeginsBy : List Part → ℕ → Type 0
BeginsBy [] place = ⊥
BeginsBy (p ∷ ps) place = p.start ≤ place

-- a part is left, and the first one ends at a place or before it
abbrev pub EndsBy : List Part → ℕ → Type 0
EndsBy [] place = ⊥
EndsBy (p ∷ ps) place = p.end ≤ place

-- a part is left, and what it puts in has room
pub record HasNext (p : Passed) : Type 0 where
  pub part : Part
  pub there : slice_get p.edit.now.parts p.next ≡ Some part
  pub after : p.from ≤ part.start
  pub short : p.to + ((part.start - p.from) + length part.new) ≤ most_span

-- where the first part begins, and the greatest number of 32 bits where there is none
abbrev pub next_start_of : List Part → ℕ
next_start_of [] = 4294967295
next_start_of (p ∷ ps) = p.start

-- one part more is passed
pub record IsNextOf (p q : Passed) : Type 0 where
  pub part : Part
  pub there : slice_get p.edit.now.parts p.next ≡ Some part
  pub edit : q.edit.now ≡ p.edit.now
  pub next : q.next ≡ p.next + 1
  pub from : q.from ≡ part.end
  pub to : q.to ≡ p.to + ((part.start - p.from) + length part.new)

-- How far a place has been followed: it is still to move as by the parts that are left.
pub record IsTowards (p : Passed) (place : ℕ) : Type 0 where
  pub left : AreOrdered p.from (left_of p)
  pub is : moved p.edit.now place ≡ p.to + moved_from p.from (left_of p) place

-- a child stays as it is, or is added to the changes as it becomes
abbrev pub Adds : Edit → Tree → ℕ → ℕ → List (ℕ × Tree) → List (ℕ × Tree) → Type 0
Adds edit child k place old new =
    ((marked_below edit child place ≡ child) × (new ≡ old))
    ⊎ (new ≡ old ++ (k, marked_below edit child place) ∷ [])

-- an element stays as it is, or its number is added to those that are no longer settled
abbrev pub Loosens : Edit → Element → ℕ → ℕ → List ℕ → List ℕ → Type 0
Loosens edit e k place old new =
    ((marked_element edit e place ≡ e) × (new ≡ old))
    ⊎ ((marked_element edit e place ≡ loose_element e) × (new ≡ old ++ k ∷ []))

-- The first k elements are done, and they have the first c children: with those of these numbers
-- not settled the elements are those done and the others as they were, and those done are as they
-- become.
pub record AreLoosened
    (edit : Edit) (es : List Element) (ts : List Tree) (base : ℕ) (loose : List ℕ) (k c place : ℕ)
    : Type 0 where
  pub done : List Element
  pub many : length done ≡ k
  pub changed : loosened loose es ≡ done ++ drop k es
  pub all : marked_elements edit es ts base
      ≡ done ++ marked_elements edit (drop k es) (drop c ts) place

-- The first k children are done: with the changes so far the children are those done and the others
-- as they were, and those done are as they become.
pub record AreDone
    (edit : Edit) (ts : List Tree) (base : ℕ) (changes : List (ℕ × Tree)) (k place : ℕ)
    : Type 0 where
  pub done : List Tree
  pub many : length done ≡ k
  pub changed : replaced changes ts ≡ done ++ drop k ts
  pub all : all_marked edit ts base ≡ done ++ all_marked edit (drop k ts) place

-- how many bytes the nodes from one number on take, up to another
abbrev pub spans_between : ℕ → ℕ → List Tree → ℕ
spans_between from to ts = all_spans (take (to - from) (drop from ts))

-- children from one number on are done, up to another, where those before them are done
pub record AddsChildren
    (edit : Edit) (ts : List Tree) (from to place : ℕ) (old new : List (ℕ × Tree)) : Type 0 where
  pub done : (base : ℕ) → AreDone edit ts base old from place
      → AreDone edit ts base new to (place + spans_between from to ts)
  pub within : All (λ change. change.0 < length ts) old → All (λ change. change.0 < length ts) new

-- the children of the first k elements of a node are done
abbrev pub AreDoneTo : Edit → Tree → ℕ → List (ℕ × Tree) → ℕ → Type 0
AreDoneTo edit t base changes k =
    AreDone edit (children_of t) base changes (children_count (take k (elements_of t)))
    (base + bytes_before k (stretch_in t))

-- the first k elements of a node are done
abbrev pub AreLoosenedTo : Edit → Tree → ℕ → List ℕ → ℕ → Type 0
AreLoosenedTo edit t base loose k =
    AreLoosened edit (elements_of t) (children_of t) base loose k
    (children_count (take k (elements_of t))) (base + bytes_before k (stretch_in t))

-- the elements of a node from one number on stay as they are, up to another, and so do their
-- children
pub record StayTo (edit : Edit) (t : Tree) (base from to : ℕ) : Type 0 where
  pub children : (changes : List (ℕ × Tree)) → AreDoneTo edit t base changes from
      → AreDoneTo edit t base changes to
  pub elements : (loose : List ℕ) → AreLoosenedTo edit t base loose from
      → AreLoosenedTo edit t base loose to
