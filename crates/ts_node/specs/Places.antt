-- Which element begins at a place, and how many are settled and were examined up to a place alone.
use Rattle.std.specs.Prelude.{◌≡◌, ◌-◌, ◌<◌, ◌≤◌, ℕ, suc, max, Bool, true, not, ◌&&◌, nat_lt, if◌then◌else◌, List, [], ◌∷◌, length, take, drop}
use Rattle.spec_trees.specs.declared.tree.Tree.{Tree}
use Rattle.spec_trees.specs.declared.tree.Element.{Element}
use Rattle.spec_trees.specs.declared.tree.Stretch.{Stretch}
use Rattle.spec_trees.specs.Trees.{all_spans}
use Rattle.spec_trees.specs.Made.{bytes_before, elements_from}

-- so many bytes stand before the element of this number
abbrev pub BeginsAt : ℕ → Stretch → ℕ → Type 0
BeginsAt offset s e = (e < length s.elements) × (bytes_before e s ≡ offset)

-- before no element do so many bytes stand
abbrev pub NoneBeginsAt : ℕ → Stretch → Type 0
NoneBeginsAt offset s = (e : ℕ) → BeginsAt offset s e → ⊥

-- the last element that begins by a place
pub record IsLastBy (offset : ℕ) (s : Stretch) (e : ℕ) : Type 0 where
  pub there : e < length s.elements
  pub begins : bytes_before e s ≤ offset
  pub last : (k : ℕ) → e < k → k < length s.elements → offset < bytes_before k s

-- ---- how far elements are settled and were examined up to a place alone

-- an element of so many bytes is settled, and ends within others with all that was examined for it
abbrev pub IsSettledBy : Element → ℕ → ℕ → Type 0
IsSettledBy e bytes room = (e.settled ≡ true) × (max e.extent bytes ≤ room)

-- the same as a test
abbrev pub is_settled_by : Element → ℕ → ℕ → Bool
is_settled_by e bytes room = e.settled && not (nat_lt room (max e.extent bytes))

-- how many elements are so, one after another, where so many bytes are left from the first on
abbrev pub settled_by : ℕ → List Element → List Tree → ℕ
settled_by room [] ts = 0
settled_by room (e ∷ es) ts =
    if is_settled_by e (all_spans (take e.children ts)) room
    then suc (settled_by (room - all_spans (take e.children ts)) es (drop e.children ts))
    else 0

-- the same from the element of this number on, of so many bytes from the first element on
abbrev pub settled_after : ℕ → ℕ → Stretch → ℕ
settled_after room k s =
    settled_by (room - bytes_before k s) (elements_from k s).elements (elements_from k s).children
