-- The line of each fault of a grammar. Running out of memory has none.
use Rattle.std.specs.Prelude.{Option, Some, None, codes}
use Rattle.ts_base.specs.Bytes.{Bytes}
use Rattle.ts_core.specs.declared.limits.Limited.TheVariants.{File}
use Rattle.spec_output.specs.GrammarFaults.{limit_line, json_line, form_line, normal_line, language_line, misfit_line, place_line, conflict_line}
use Rattle.ts_front.specs.declared.fault.GrammarFault.{GrammarFault}
use Rattle.ts_front.specs.declared.fault.GrammarFault.TheVariants as file
use Rattle.ts_front.specs.declared.table_fault.NoTable.{NoTable}
use Rattle.ts_front.specs.declared.table_fault.NoTable.TheVariants as table

-- why a file stands for no grammar
abbrev pub grammar_fault_line : GrammarFault → Option Bytes
grammar_fault_line file.Large = Some (limit_line File)
grammar_fault_line (file.Json cause) = json_line cause
grammar_fault_line (file.Form cause) = form_line cause
grammar_fault_line (file.Normal cause) = normal_line cause
grammar_fault_line (file.Language cause) = language_line cause
grammar_fault_line (file.Misfit grammar cause) = Some (misfit_line grammar cause)
grammar_fault_line file.Memory = None

-- why a grammar has no parse table
abbrev pub no_table_line : NoTable → Option Bytes
no_table_line (table.TooManyStates states) = Some (place_line (codes "states") states)
no_table_line (table.Conflict grammar token rules) = Some (conflict_line grammar token rules)
no_table_line table.Memory = None
