-- What stays on a token, by the candidates, and its actions.
use Rattle.std.specs.Prelude.{◌≡◌, ℕ, ◌-◌, ◌++◌, Bool, List, [], ◌∷◌, map, Option, Some, None, if◌then◌else◌, ◌↔◌}
use Rattle.std.specs.List.{Contains}
use Rattle.ts_core.specs.declared.action.Action.{Action}
use Rattle.ts_core.specs.declared.action.Action.TheVariants.{Shift, Reduce, Accept}
use Rattle.ts_core.specs.declared.flat.FlatGrammar.{FlatGrammar}
use Rattle.ts_table.specs.declared.candidates.Candidate.{Candidate}
use Rattle.ts_table.specs.declared.cells.Cell.{Cell}
use Rattle.ts_table.specs.Deciding.{ShiftWins, ReduceWins}

-- there are a shift and a reduction
abbrev pub AreRivals : Option ℕ → (Candidate → Type 0) → Type 0
AreRivals target R = ((m : ℕ) × (target ≡ Some m)) × ((c : Candidate) × R c)

-- of both kinds the shift alone stays
abbrev pub ShiftOnly : FlatGrammar → Option ℕ → (Candidate → Type 0) → (Candidate → Type 0)
    → Type 0
ShiftOnly g target S R = AreRivals target R × ShiftWins g S R

-- of both kinds the reductions alone stay
abbrev pub ReduceOnly : FlatGrammar → Option ℕ → (Candidate → Type 0) → (Candidate → Type 0)
    → Type 0
ReduceOnly g target S R = AreRivals target R × ReduceWins g S R

-- this is what stays of a shift, of shift items and of reductions
pub record IsCellOf (g : FlatGrammar) (target : Option ℕ) (S R : Candidate → Type 0)
    (cell : Cell) : Type 0 where
  pub shift : (m : ℕ) → (cell.shift ≡ Some m)
      ↔ ((target ≡ Some m) × (ReduceOnly g target S R → ⊥))
  pub reductions : (c : Candidate) → Contains cell.reductions.items c
      ↔ (R c × (ShiftOnly g target S R → ⊥))
  pub shifts : (c : Candidate) → Contains cell.shifts.items c
      ↔ (S c × ((m : ℕ) × (cell.shift ≡ Some m)))

-- the number of the production of a line
abbrev pub number_in : ℕ → ℕ
number_in line = line - 1

-- the actions of what stays
abbrev pub shift_in : Option ℕ → List Action
shift_in None = []
shift_in (Some next) = Shift next ∷ []

-- a reduction by the production of each candidate, in order
abbrev pub reductions_in : List Candidate → List Action
reductions_in cs = map (λ c. Reduce (number_in c.line)) cs

-- accepting, where it stands there
abbrev pub accept_in : Bool → List Action
accept_in accepts = if accepts then Accept ∷ [] else []

-- all actions: the shift, then the reductions, then accepting
abbrev pub actions_in : Cell → Bool → List Action
actions_in cell accepts =
    (shift_in cell.shift ++ reductions_in cell.reductions.items) ++ accept_in accepts
