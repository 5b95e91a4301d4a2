-- What a whole file says: its grammar, or its first fault. That the grammar is fit is asked behind
-- all of this.
use Rattle.std.specs.Prelude.{◌≡◌, ◌⊎◌, ℕ, zero, suc, ◌-◌, ◌||◌, nat_eq, List, [], ◌∷◌, length, drop, Result, Ok, Err, if◌then◌else◌}
use Rattle.std.specs.List.{starts_with}
use Rattle.ts_base.specs.Bytes.{Bytes}
use Rattle.ts_core.specs.declared.flat.FlatGrammar.{FlatGrammar}
use Rattle.ts_langfile.specs.declared.fault.LangFault.{LangFault}
use Rattle.ts_langfile.specs.declared.flaw.Flaw.{Flaw}
use Rattle.ts_langfile.specs.declared.flaw.Flaw.TheVariants as flaw
use Rattle.ts_langfile.specs.declared.flaw.Stop.{Stop}
use Rattle.ts_langfile.specs.declared.flaw.Stop.TheVariants as stop
use Rattle.ts_langfile.specs.Spelling.{magic, new_version, old_version}
use Rattle.ts_langfile.specs.Reader.{SeenBytes}
use Rattle.ts_langfile.specs.Parts.{number16_at}
use Rattle.ts_langfile.specs.Reading.{judged_at}

-- a flaw at its place, which is told by how many bytes there are from it on
abbrev pub fault_of : Bytes → Flaw → LangFault
fault_of w (flaw.Short left) = LangFault.Short (length w - left)
fault_of w (flaw.Field left) = LangFault.Field (length w - left)

-- no byte may stand behind the grammar
unfoldable pub ended : Bytes → SeenBytes FlatGrammar → Result FlatGrammar LangFault
ended w (Ok x) = if nat_eq (length x.1) 0 then Ok x.0
    else Err (LangFault.Long (length w - length x.1))
ended w (Err flaw) = Err (fault_of w flaw)

-- what the bytes behind the version say, where the version can be read
unfoldable pub of_version : Bytes → SeenBytes ℕ → Result FlatGrammar LangFault
of_version w (Ok x) = if nat_eq x.0 old_version || nat_eq x.0 new_version
    then ended w (judged_at x.0 x.1)
    else Err (LangFault.Version x.0)
of_version w (Err flaw) = Err (fault_of w flaw)

-- what a whole file says: its grammar, or its first fault
unfoldable pub verdict : Bytes → Result FlatGrammar LangFault
verdict w = if starts_with nat_eq w magic
    then of_version w (number16_at (drop 4 w))
    else Err LangFault.Magic

-- ---- what a function of the code answers

-- the fault that a stop becomes
abbrev pub FaultIs : LangFault → Bytes → Stop → Type 0
FaultIs fault w stop.Memory = fault ≡ LangFault.Memory
FaultIs fault w (stop.Flawed flaw) = fault ≡ fault_of w flaw

-- what is returned is what the file says, unless memory runs out
abbrev pub ReturnsVerdict : Result FlatGrammar LangFault → Result FlatGrammar LangFault → Type 0
ReturnsVerdict result says = (result ≡ says) ⊎ (result ≡ Err LangFault.Memory)
