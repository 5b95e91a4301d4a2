-- What a flat grammar alone tells of why it can't be used: its first empty token, its first rule
-- that is empty where it must not be, its first rule that derives itself alone. They serve proofs
-- alone.
use Rattle.std.specs.Prelude.{◌≡◌, ℕ, slice_get, Some}
use Rattle.ts_core.specs.declared.flat.FlatGrammar.{FlatGrammar}
use Rattle.ts_core.specs.declared.flat.FlatRule.{FlatRule}
use Rattle.ts_core.specs.declared.flat.TokenDef.{TokenDef}
use Rattle.spec_tables.specs.Fit as fit
use Rattle.ts_fit.specs.Misfits.{IsEmptyToken, IsFirstPlace}
use Rattle.ts_normalise.specs.declared.fault.NFault.TheVariants as fault
use Rattle.ts_normalise.specs.Refusals.{Cause, Before}

-- each rule has an owner among the rules
abbrev pub HasOwners : FlatGrammar → Type 0
HasOwners f = (place : ℕ) (rule : FlatRule) → slice_get f.rules place ≡ Some rule
    → (owner : FlatRule) × fit.HasRule f rule.owner owner

-- the fault tells the first token that matches the empty text
abbrev pub TellsEmptyToken : FlatGrammar → Cause
TellsEmptyToken f found =
    (place : ℕ) × (token : TokenDef) × IsFirstPlace (IsEmptyToken f) place
    × (slice_get f.tokens place ≡ Some token)
    × (found ≡ fault.EmptyToken token.name)

-- the fault tells the first rule that may be empty where it must not
abbrev pub TellsEmptyRule : FlatGrammar → Cause
TellsEmptyRule f found =
    (place : ℕ) × (rule : FlatRule) × IsFirstPlace (fit.IsEmptyRule f) place
    × (slice_get f.rules place ≡ Some rule)
    × (found ≡ fault.EmptyRule rule.name)

-- a repetition is told by its owner
abbrev pub TellsCycle : FlatGrammar → Cause
TellsCycle f found =
    (place : ℕ) × (rule : FlatRule) × (owner : FlatRule) × IsFirstPlace (fit.IsCyclic f) place
    × (slice_get f.rules place ≡ Some rule) × fit.HasRule f rule.owner owner
    × (found ≡ fault.Cyclic owner.name)

-- in this order
abbrev pub TellsInForm : FlatGrammar → Cause
TellsInForm f = Before (TellsEmptyToken f) (Before (TellsEmptyRule f) (TellsCycle f))
