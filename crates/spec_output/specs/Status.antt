-- The statuses that the program ends with: the number of each.
use Rattle.std.specs.Prelude.{ℕ}
use Rattle.spec_output.specs.declared.status.Status.{Status}
use Rattle.spec_output.specs.declared.status.Status.TheVariants.{Done, Usage, ReadFault, WriteFault, OutOfMemory, Grammar, Query, Script, Absent, Text}

-- the number that the system is given
abbrev pub number_of : Status → ℕ
number_of Done = 0
number_of Usage = 1
number_of ReadFault = 2
number_of WriteFault = 3
number_of OutOfMemory = 4
number_of Grammar = 5
number_of Query = 6
number_of Script = 7
number_of Absent = 8
number_of Text = 9
