-- Lists by first sight, what stands in one list in the order of another, and the first with a
-- property.
use Rattle.std.specs.Prelude.{◌≡◌, ℕ, ◌<◌, ◌≤◌, List, [], ◌∷◌, ◌++◌, slice_get, Some, All}
use Rattle.std.specs.List.{Contains}

-- it does not hold
abbrev pub Not : Type 0 → Type 0
Not P = P → ⊥

-- the value stands first at this place
pub record FirstAt {X : Type 0} (seen : List X) (x : X) (k : ℕ) : Type 0 where
  pub at : slice_get seen k ≡ Some x
  pub least : (j : ℕ) → slice_get seen j ≡ Some x → k ≤ j

-- the list has what was seen, in the order of first sight, each value once
pub record AreFirstSights {X : Type 0} (seen found : List X) : Type 0 where
  pub every : (x : X) → Contains seen x → Contains found x
  pub only : (x : X) → Contains found x → Contains seen x
  pub rising : (m n j k : ℕ) (x y : X) → m < n → slice_get found m ≡ Some x
      → slice_get found n ≡ Some y → FirstAt seen x j → FirstAt seen y k → j < k

-- those of a list that have the property, in order
pub data Picks {X : Type 0} (P : X → Type 0) : List X → List X → Type 0 where
  end : Picks P [] []
  taken : (x : X) (xs ys : List X) → P x → Picks P xs ys → Picks P (x ∷ xs) (x ∷ ys)
  left : (x : X) (xs ys : List X) → Not (P x) → Picks P xs ys → Picks P (x ∷ xs) ys

-- the lists are as long as each other, and the relation holds at each place
pub data Each {X Y : Type 0} (R : X → Y → Type 0) : List X → List Y → Type 0 where
  end : Each R [] []
  both : (x : X) (y : Y) (xs : List X) (ys : List Y) → R x y → Each R xs ys
      → Each R (x ∷ xs) (y ∷ ys)

-- no value of the list has the property
abbrev pub Clear : {X : Type 0} → (X → Type 0) → List X → Type 0
Clear P all = All (λ x. Not (P x)) all

-- the value is the first of the list that has the property
pub record First {X : Type 0} (P : X → Type 0) (all : List X) (x : X) : Type 0 where
  pub before : List X
  pub after : List X
  pub is : all ≡ before ++ x ∷ after
  pub holds : P x
  pub clear : Clear P before

-- the value stands exactly once in the list
pub record Once {X : Type 0} (all : List X) (x : X) : Type 0 where
  pub before : List X
  pub after : List X
  pub is : all ≡ before ++ x ∷ after
  pub not_before : Not (Contains before x)
  pub not_after : Not (Contains after x)
