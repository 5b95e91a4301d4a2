-- What a file comes to where it is compiled.
use Rattle.std.specs.Prelude.{◌≡◌, Option, Some, None, string_bytes}
use Rattle.ts_base.specs.Bytes.{Bytes}
use Rattle.ts_core.specs.declared.flat.FlatGrammar.{FlatGrammar}
use Rattle.ts_langfile.specs.Spelling.{spelling}
use Rattle.ts_front.specs.FaultLines.{grammar_fault_line, no_table_line}
use Rattle.ts_front.specs.Grammars.{IsFormOf, IsRefusedFile}
use Rattle.ts_front.specs.Tables.{HasTable, HasNoTable}
use Rattle.ts_front.specs.declared.compile.Uncompiled.{Uncompiled}
use Rattle.ts_front.specs.declared.compile.Uncompiled.TheVariants.{Refused, Memory}
use Rattle.ts_front.specs.declared.fault.GrammarFault.{GrammarFault}
use Rattle.ts_front.specs.declared.table_fault.NoTable.{NoTable}

-- the bytes are the language file of the grammar for which the file stands, and it has a table
pub record IsCompiled (w : Bytes) (bytes : Bytes) : Type 0 where
  pub form : FlatGrammar
  pub is_form : IsFormOf w form
  pub table : HasTable form
  pub bytes_are : bytes ≡ spelling form

-- The line says why the file is not compiled: it stands for no grammar, or its grammar has no
-- table.
pub data IsRefusalLine (w line : Bytes) : Type 0 where
  of_file : (e : GrammarFault) → IsRefusedFile w e → grammar_fault_line e ≡ Some line
      → IsRefusalLine w line
  of_table : (f : FlatGrammar) (e : NoTable) → IsFormOf w f → HasNoTable f e
      → no_table_line e ≡ Some line → IsRefusalLine w line

-- why a file is not compiled; running out of memory has no cause
abbrev pub IsUncompiled : Bytes → Uncompiled → Type 0
IsUncompiled w (Refused line) = IsRefusalLine w (string_bytes line)
IsUncompiled w Memory = Unit {0}

-- the line, where there is one, is a refusal's
abbrev pub LineOf : Bytes → Option Bytes → Type 0
LineOf w None = Unit {0}
LineOf w (Some line) = IsRefusalLine w line
