-- A part of an automaton that reads the words of a regular expression, while the automaton is
-- built.
use Rattle.std.specs.Prelude.{◌≡◌, ℕ, ◌+◌, ◌≤◌, ◌<◌, List, [], ◌∷◌, ◌++◌, suc, length, slice_get}
use Rattle.std.specs.Prelude.{Option, None, Some}
use Rattle.ts_automata.specs.declared.node.Node.{Node}
use Rattle.spec_lexing.specs.Words.{Regular, repeat, Word, Front}
use Rattle.ts_automata.specs.Reads.{ReadsOver, LeadsOver, IsEnd}

-- the node is one of these, and no word ends at it
pub record IsInnerNode (T : List Node) (low high t : ℕ) : Type 0 where
  pub from : low ≤ t
  pub below : t < high
  pub goes_on : IsEnd T t → ⊥

-- what was read either goes past a word of the expression, or stops at a node inside
pub data Back (T : List Node) (I : ℕ → Type 0) (p : Regular) (next n : ℕ) (w : List ℕ)
    (t : ℕ) : Type 0 where
  leaves : (u v : List ℕ) → w ≡ u ++ v → Word p u → ReadsOver T n next v t → Back T I p next n w t
  inside : Front p w → I t → Back T I p next n w t

-- from the node a word of the expression is read and then what the next node reads, and nothing
-- else
pub record ReadsWords (T : List Node) (I : ℕ → Type 0) (p : Regular) (s next : ℕ) : Type 0 where
  pub word : (n : ℕ) (u v : List ℕ) (t : ℕ) → Word p u → ReadsOver T n next v t
      → LeadsOver T s (u ++ v) t
  pub front : (w : List ℕ) → Front p w → (t : ℕ) × LeadsOver T s w t
  pub back : (n : ℕ) (w : List ℕ) (t : ℕ) → ReadsOver T n s w t → Back T I p next n w t

-- the elements from a place on are those of the other list
abbrev pub Agrees : {X : Type 0} → ℕ → List X → List X → Type 0
Agrees from new T = (j : ℕ) → from ≤ j → j < length new → slice_get T j ≡ slice_get new j

-- nodes were added, by which the node `s` reads the expression and then goes on at `next`
pub record Grows (p : Regular) (next : ℕ) (old new : List Node) (s : ℕ) : Type 0 where
  pub longer : length old ≤ length new
  pub kept : (j : ℕ) → j < length old → slice_get new j ≡ slice_get old j
  pub stands : (T : List Node) → Agrees (length old) new T
      → ReadsWords T (IsInnerNode T (length old) (length new)) p s next

-- one node was put at the end, and this is its place
abbrev pub Put : List Node → List Node → Node → ℕ → Type 0
Put old new node place = (place ≡ length old) × (new ≡ old ++ node ∷ [])

-- so many more at most
abbrev pub plus : ℕ → Option ℕ → Option ℕ
plus k None = None
plus k (Some m) = Some (k + m)

-- one more at most
abbrev pub more : Option ℕ → Option ℕ
more None = None
more (Some m) = Some (suc m)

-- so many words were put before what stands at a node
abbrev pub Repeats : Regular → ℕ → List Node → ℕ → List Node → ℕ → Type 0
Repeats p count old to new s =
    (least : ℕ) (most : Option ℕ) (next : ℕ) (start : List Node)
    → Grows (repeat p least most) next start old to
    → Grows (repeat p (count + least) (plus count most)) next start new s
