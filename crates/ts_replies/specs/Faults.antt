-- The lines of the faults of a script, and of a query in it.
use Rattle.std.specs.Prelude.{ℕ, Option, Some, None, codes}
use Rattle.ts_base.specs.Bytes.{Bytes}
use Rattle.serde_json.specs.Data.{no_members, member}
use Rattle.spec_output.specs.Faults.{with_at, with_fault, with_status, at_line}
use Rattle.spec_output.specs.Lines.{object_line, numeral}
use Rattle.spec_output.specs.declared.status.Status.TheVariants as status
use Rattle.ts_script.specs.declared.fault.SFault.{SFault}
use Rattle.ts_script.specs.declared.fault.SFault.TheVariants.{Line, Order, Limit, Memory}

-- a fault of a script, at its line
abbrev pub line_at : Bytes → ℕ → Bytes
line_at word n = at_line (numeral n) word status.Script

-- Running out of memory has no line.
abbrev pub script_fault_line : SFault → Option Bytes
script_fault_line (Line n) = Some (line_at (codes "line") n)
script_fault_line (Order n) = Some (line_at (codes "order") n)
script_fault_line (Limit n) = Some (line_at (codes "limit") n)
script_fault_line Memory = None

-- a fault of the query of this number, at a place of its text
abbrev pub query_fault_line : Bytes → ℕ → ℕ → Bytes
query_fault_line word place query =
    object_line (with_at (numeral place) (with_fault word
    (member (codes "query") (numeral query) (with_status status.Query no_members))))
