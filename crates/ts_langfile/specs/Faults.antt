-- The cause of each refusal of a language file; running out of memory has none.
use Rattle.std.specs.Prelude.{◌≡◌, ℕ, ⊤, Ok, Err}
use Rattle.ts_base.specs.Bytes.{Bytes}
use Rattle.ts_core.specs.declared.flat.FlatGrammar.{FlatGrammar}
use Rattle.ts_fit.specs.Misfits.{Misfits}
use Rattle.ts_langfile.specs.declared.fault.LangFault.{LangFault}
use Rattle.ts_langfile.specs.Verdict.{verdict}

-- the file says this fault, or a grammar that has this misfit
abbrev pub IsFault : LangFault → Bytes → Type 0
IsFault LangFault.Magic w = verdict w ≡ Err LangFault.Magic
IsFault (LangFault.Version n) w = verdict w ≡ Err (LangFault.Version n)
IsFault (LangFault.Short p) w = verdict w ≡ Err (LangFault.Short p)
IsFault (LangFault.Long p) w = verdict w ≡ Err (LangFault.Long p)
IsFault (LangFault.Field p) w = verdict w ≡ Err (LangFault.Field p)
IsFault (LangFault.Misfit cause) w = (f : FlatGrammar) × (verdict w ≡ Ok f) × Misfits f cause
IsFault LangFault.Memory w = ⊤
