-- What holds of each element of a list, or of some one. It serves private clauses and proofs alone.
use Rattle.std.specs.Prelude.{List, [], ◌∷◌, ◌⊎◌}

-- it holds of each
abbrev pub OfEach : {X : Type 0} → (X → Type 0) → List X → Type 0
OfEach P [] = Unit {0}
OfEach P (x ∷ xs) = P x × OfEach P xs

-- it holds of one at least
abbrev pub Any : {X : Type 0} → (X → Type 0) → List X → Type 0
Any P [] = ⊥
Any P (x ∷ xs) = P x ⊎ Any P xs
