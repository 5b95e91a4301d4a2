-- Sets of nodes, and their numbers.
use Rattle.std.specs.Prelude.{◌≡◌, ℕ, List, ◌++◌, length, map, slice_get, Some, ◌↔◌}
use Rattle.std.specs.Global.{Vec}
use Rattle.std.specs.List.{Contains}
use Rattle.ts_automata.specs.declared.node.Node.{Node}
use Rattle.ts_automata.specs.Reads.{Takes, Splits}

-- the least set with these elements that has what its elements ask for
pub data Least {X : Type 0} (Asks : X → X → Type 0) (from : List X) : X → Type 0 where
  given : (i : X) → Contains from i → Least Asks from i
  asked : (i j : X) → Least Asks from i → Asks i j → Least Asks from j

-- the list goes on with elements of this kind, and has them all
pub record Adds {X : Type 0} (P : X → Type 0) (old new : List X) : Type 0 where
  pub more : List X
  pub is : new ≡ old ++ more
  pub only : (i : X) → Contains more i → P i
  pub added : (i : X) → P i → Contains new i

-- so it is with each element at its place
abbrev pub EachAt : {X : Type 0} → (ℕ → X → Type 0) → List X → Type 0
EachAt {X} P xs = (k : ℕ) (x : X) → slice_get xs k ≡ Some x → P k x

-- both hold of the same numbers
abbrev pub Same : (ℕ → Type 0) → (ℕ → Type 0) → Type 0
Same P Q = (i : ℕ) → P i ↔ Q i

-- vectors of numbers as lists
abbrev pub sets_of : List (Vec ℕ) → List (List ℕ)
sets_of vs = map (λ v. v.items) vs

-- from a node of the set the character leads to the node
pub record Moves (T : List Node) (set : List ℕ) (c a : ℕ) : Type 0 where
  pub from : ℕ
  pub there : Contains set from
  pub takes : Takes T from c a

-- the set is closed: of these nodes, and of those to which they go on
abbrev pub Closure : List Node → List ℕ → ℕ → Type 0
Closure T kernel = Least (Splits T) kernel

-- a set has this number, and was added at the end if it was new
pub record NumbersSet (old new : List (List ℕ)) (set : List ℕ) (n : ℕ) : Type 0 where
  pub more : List (List ℕ)
  pub is : new ≡ old ++ more
  pub at : slice_get new n ≡ Some set

-- the sets are those that were there, and then perhaps more
abbrev pub Grew : List (List ℕ) → List (List ℕ) → Type 0
Grew old new = (more : List (List ℕ)) × (new ≡ old ++ more)

-- the set of this number is what the set leads to over the character
pub record IsNextSet (T : List Node) (sets : List (List ℕ)) (s : List ℕ) (c m : ℕ) : Type 0 where
  pub kernel : List ℕ
  pub moves : Same (Contains kernel) (Moves T s c)
  pub set : List ℕ
  pub at : slice_get sets m ≡ Some set
  pub closed : Same (Contains set) (Closure T kernel)

-- the row has the number of the next set for each of the characters
pub record IsRow (T : List Node) (sets : List (List ℕ)) (s : List ℕ)
    (bounds row : List ℕ) : Type 0 where
  pub size : length row ≡ length bounds
  pub next : EachAt (λ k m. (c : ℕ) → slice_get bounds k ≡ Some c → IsNextSet T sets s c m) row

-- the set of this number is that of the nodes to which these go on
pub record IsFirst (T : List Node) (sets : List (List ℕ)) (kernel : List ℕ) (n : ℕ) : Type 0 where
  pub set : List ℕ
  pub at : slice_get sets n ≡ Some set
  pub closed : Same (Contains set) (Closure T kernel)

-- the rows of a table as lists
abbrev pub rows_of : List (Vec ℕ) → List (List ℕ)
rows_of = sets_of

-- The numbered sets: one for each list of first nodes, and a row for each set.
pub record IsSubset (T : List Node) (kernels : List (List ℕ)) (bounds : List ℕ) (begins : List ℕ)
    (sets table : List (List ℕ)) : Type 0 where
  pub first : EachAt
      (λ v n. (kernel : List ℕ) → slice_get kernels v ≡ Some kernel
      → IsFirst T sets kernel n) begins
  pub each : length begins ≡ length kernels
  pub rows : EachAt
      (λ n row. (s : List ℕ) → slice_get sets n ≡ Some s → IsRow T sets s bounds row) table
  pub all : length table ≡ length sets
