-- What stays of reductions and of a shift, by their candidates.
use Rattle.std.specs.Prelude.{◌≡◌, List, ◌⊎◌}
use Rattle.std.specs.List.{Contains}
use Rattle.ts_core.specs.declared.flat.FlatGrammar.{FlatGrammar}
use Rattle.ts_core.specs.declared.flat.Assoc.{Assoc}
use Rattle.ts_core.specs.declared.flat.Assoc.TheVariants.{Left, Right}
use Rattle.ts_table.specs.declared.candidates.Candidate.{Candidate}
use Rattle.ts_table.specs.Marks.{HigherBy}

-- none of the candidates is higher than this one
abbrev pub IsTopOf : FlatGrammar → List Candidate → Candidate → Type 0
IsTopOf g rs r = (q : Candidate) → Contains rs q → HigherBy g q.weight r.weight → ⊥

-- a reduction stays where no other is higher, or where all would go
pub record StaysOf (g : FlatGrammar) (rs : List Candidate) (r : Candidate) : Type 0 where
  pub there : Contains rs r
  pub top : IsTopOf g rs r ⊎ ((q : Candidate) → Contains rs q → IsTopOf g rs q → ⊥)

-- one of the first kind is higher than one of the second
abbrev pub OneHigher : FlatGrammar → (Candidate → Type 0) → (Candidate → Type 0) → Type 0
OneHigher g P Q = (a : Candidate) × (b : Candidate) × P a × Q b × HigherBy g a.weight b.weight

-- all have the associativity
abbrev pub AreAllOf : Assoc → (Candidate → Type 0) → Type 0
AreAllOf side P = (r : Candidate) → P r → r.weight.assoc ≡ side

-- all candidates of a list have the associativity
abbrev pub AreAll : Assoc → List Candidate → Type 0
AreAll side rs = AreAllOf side (Contains rs)

-- the shift alone stays, of shift items and reductions of these kinds
abbrev pub ShiftWins : FlatGrammar → (Candidate → Type 0) → (Candidate → Type 0) → Type 0
ShiftWins g S R = (OneHigher g R S → ⊥) × (OneHigher g S R ⊎ AreAllOf Right R)

-- the reductions alone stay
abbrev pub ReduceWins : FlatGrammar → (Candidate → Type 0) → (Candidate → Type 0) → Type 0
ReduceWins g S R = (OneHigher g S R → ⊥) × (OneHigher g R S ⊎ AreAllOf Left R)
