-- The lines of faults: their form, and those that are no fault of a grammar.
use Rattle.std.specs.Prelude.{ℕ, Option, Some, None, codes}
use Rattle.ts_base.specs.Bytes.{Bytes}
use Rattle.serde_json.specs.Data.{Data, string, Members, no_members, member}
use Rattle.ts_text.specs.declared.text.TextFault.{TextFault}
use Rattle.ts_text.specs.declared.text.TextFault.TheVariants.{Utf8, Size, Memory}
use Rattle.spec_output.specs.Lines.{object_line, numeral}
use Rattle.spec_output.specs.Status.{number_of}
use Rattle.spec_output.specs.declared.status.Status.{Status}
use Rattle.spec_output.specs.declared.status.Status.TheVariants as status

-- ---- members

-- where it is: a place, a line, a pointer, a name, a number or a path
abbrev pub with_at : Data → Members → Members
with_at at after = member (codes "at") at after

-- the word of the fault
abbrev pub with_fault : Bytes → Members → Members
with_fault word after = member (codes "fault") (string word) after

-- the status with which the program ends
abbrev pub with_status : Status → Members → Members
with_status ends after = member (codes "status") (numeral (number_of ends)) after

-- ---- lines

-- a fault that says no more than its word
abbrev pub fault_line : Bytes → Status → Bytes
fault_line word ends = object_line (with_fault word (with_status ends no_members))

-- a fault that says where it is
abbrev pub at_line : Data → Bytes → Status → Bytes
at_line at word ends =
    object_line (with_at at (with_fault word (with_status ends no_members)))

-- the words have none of the forms
abbrev pub usage_line : Bytes
usage_line = fault_line (codes "usage") status.Usage

-- there is no file at the path
abbrev pub absent_line : Bytes → Bytes
absent_line path = at_line (string path) (codes "absent") status.Absent

-- the text at the path is no UTF-8 from a place on
abbrev pub broken_line : Bytes → ℕ → Bytes
broken_line path place =
    object_line (with_at (string path) (with_fault (codes "text")
    (member (codes "place") (numeral place) (with_status status.Text no_members))))

-- The bytes at a path that are no text. Running out of memory has no line.
abbrev pub text_fault_line : Bytes → TextFault → Option Bytes
text_fault_line path (Utf8 place) = Some (broken_line path place)
text_fault_line path (Size size) =
    Some (at_line (string path) (codes "text size") status.Text)
text_fault_line path Memory = None
