-- Lists of names that are lent, as the code has them.
use Rattle.std.specs.Prelude.{◌≡◌, List, [], ◌∷◌, map, Option, Some, None}
use Rattle.std.specs.Borrow.{Bor}
use Rattle.std.specs.List.{Contains}
use Rattle.ts_base.specs.Bytes.{Bytes}

-- the names themselves
abbrev pub told : List (Bor Bytes) → List Bytes
told = map (λ (name : Bor Bytes). name.now)

-- a name, where there is one
abbrev pub told_option : Option (Bor Bytes) → List Bytes
told_option None = []
told_option (Some name) = name.now ∷ []

-- the list begins with the value
abbrev pub BeginsWith : {X : Type 0} → X → List X → Type 0
BeginsWith {X = X} x xs = (rest : List X) × (xs ≡ x ∷ rest)

-- the name is none of the names
abbrev pub IsAbsent : List Bytes → Bytes → Type 0
IsAbsent names name = Contains names name → ⊥
