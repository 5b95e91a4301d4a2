-- What a script asks for, and what its first fault is.
use Rattle.std.specs.Prelude.{ℕ, suc, ◌≡◌, ◌≤◌, ◌<◌, List, [], ◌∷◌, ◌++◌, length}
use Rattle.ts_base.specs.Bytes.{Bytes}
use Rattle.ts_script.specs.declared.fault.SFault.{SFault}
use Rattle.ts_script.specs.declared.fault.SFault.TheVariants as fault
use Rattle.ts_script.specs.declared.plan.Plan.{Plan}
use Rattle.ts_script.specs.declared.said.Said.{Said}
use Rattle.ts_script.specs.Lines.{AreLines, IsBlankLine}
use Rattle.ts_script.specs.Said.{Says}
use Rattle.ts_script.specs.Rules.{StandsRight, WithinLimits, Asks, most_script_bytes}

-- ---- one line, behind what the lines above it say

-- all that is said, with this line
pub data Follows (before : List Said) (line : Bytes) : List Said → Type 0 where
  blank : IsBlankLine line → Follows before line before
  says : {said : Said} → (IsBlankLine line → ⊥) → Says line said → StandsRight before said
      → WithinLimits before said → Follows before line (before ++ said ∷ [])

-- the fault of the line, which has this number
pub data FailsAt (before : List Said) (line : Bytes) (n : ℕ) : SFault → Type 0 where
  no_line : (IsBlankLine line → ⊥) → ((said : Said) → Says line said → ⊥)
      → FailsAt before line n (fault.Line n)
  no_order : {said : Said} → (IsBlankLine line → ⊥) → Says line said → (StandsRight before said → ⊥)
      → FailsAt before line n (fault.Order n)
  over : {said : Said} → (IsBlankLine line → ⊥) → Says line said → StandsRight before said
      → (WithinLimits before said → ⊥) → FailsAt before line n (fault.Limit n)

-- ---- all lines

-- the lines from one on, and all that is said with them
pub data Reads : List Said → List Bytes → List Said → Type 0 where
  at_end : {before : List Said} → Reads before [] before
  next : {before mid said : List Said} {line : Bytes} {lines : List Bytes}
      → Follows before line mid → Reads mid lines said → Reads before (line ∷ lines) said

-- the first fault of the lines from line n on
pub data FailsIn : List Said → ℕ → List Bytes → SFault → Type 0 where
  here : {before : List Said} {n : ℕ} {line : Bytes} {lines : List Bytes} {f : SFault}
      → FailsAt before line n f → FailsIn before n (line ∷ lines) f
  later : {before mid : List Said} {n : ℕ} {line : Bytes} {lines : List Bytes} {f : SFault}
      → Follows before line mid → FailsIn mid (suc n) lines f → FailsIn before n (line ∷ lines) f

-- ---- scripts

-- the bytes are a script, which asks for this
pub record IsScript (bytes : Bytes) (plan : Plan) : Type 0 where
  pub small : length bytes ≤ most_script_bytes
  pub lines : List Bytes
  pub cut : AreLines bytes lines
  pub said : List Said
  pub reads : Reads [] lines said
  pub asks : Asks said plan

-- the first fault of the bytes
pub data IsFault (bytes : Bytes) : SFault → Type 0 where
  too_large : most_script_bytes < length bytes → IsFault bytes (fault.Limit 0)
  in_line : {lines : List Bytes} {f : SFault} → length bytes ≤ most_script_bytes
      → AreLines bytes lines → FailsIn [] 1 lines f → IsFault bytes f
