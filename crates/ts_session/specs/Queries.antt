-- The lines of the faults of a script's queries.
use Rattle.std.specs.Prelude.{ℕ, Option, Some, None, codes}
use Rattle.ts_base.specs.Bytes.{Bytes}
use Rattle.ts_query_syntax.specs.declared.fault.QueryFault.{QueryFault}
use Rattle.ts_query_syntax.specs.declared.fault.QueryFault.TheVariants as fault
use Rattle.ts_loading.specs.declared.fault.LoadFault.{LoadFault}
use Rattle.ts_loading.specs.declared.fault.LoadFault.TheVariants as load
use Rattle.ts_replies.specs.Faults.{query_fault_line}

-- the query of this number has an expression that was refused, in the string at the place
abbrev pub regex_line : ℕ → ℕ → Bytes
regex_line number at = query_fault_line (codes "regex") at number

-- The line of a fault of the query of this number. Running out of memory has no line.
abbrev pub query_line : ℕ → QueryFault → Option Bytes
query_line number (fault.Syntax at) = Some (query_fault_line (codes "syntax") at number)
query_line number (fault.Deep at) = Some (query_fault_line (codes "deep") at number)
query_line number (fault.UnknownNode at) =
    Some (query_fault_line (codes "unknown node") at number)
query_line number (fault.UnknownField at) =
    Some (query_fault_line (codes "unknown field") at number)
query_line number (fault.UnknownCapture at) =
    Some (query_fault_line (codes "unknown capture") at number)
query_line number (fault.UnknownPredicate at) =
    Some (query_fault_line (codes "unknown predicate") at number)
query_line number (fault.NestedQuantifier at) =
    Some (query_fault_line (codes "nested quantifier") at number)
query_line number (fault.Regex at) = Some (regex_line number at)
query_line number fault.Memory = None

-- the line that says why queries are not loaded
abbrev pub load_line : LoadFault → Option Bytes
load_line (load.Query number f) = query_line number f
load_line load.Memory = None
