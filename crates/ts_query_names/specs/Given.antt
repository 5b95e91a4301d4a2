-- What is found of one thing that is judged, and the names that the code keeps.
use Rattle.std.specs.Prelude.{◌≡◌, List, [], ◌∷◌, map, Some, Result, Ok, Err}
use Rattle.ts_base.specs.Bytes.{Bytes}
use Rattle.ts_query_tree.specs.declared.tree.Operand.{Operand}
use Rattle.ts_query_tree.specs.declared.tree.Written.{Written}
use Rattle.ts_query_names.specs.declared.flaw.Flaw.{Flaw}
use Rattle.ts_query_names.specs.declared.numbers.Numbers.{Numbers}
use Rattle.ts_query_names.specs.declared.wanted.Wanted.{Wanted}
use Rattle.ts_query_names.specs.Asking.{asking_of, form_of_operands, form_pattern, asked_form}
use Rattle.ts_query_names.specs.Checks.{Check, wrong, pattern, form_checks}
use Rattle.ts_query_names.specs.LentForms.{form_told}
use Rattle.ts_query_names.specs.LentNames.{told, kinds_told}
use Rattle.ts_query_names.specs.Numbers.{Names}

-- the checks begin with this fault
abbrev pub BeginWith : List Check → Flaw → Type 0
BeginWith cs flaw = (rest : List Check) × (cs ≡ wrong flaw ∷ rest)

-- nothing is wrong and nothing is built, or a fault comes first
abbrev pub Gives : {A : Type 0} → List Check → Result A Flaw → Type 0
Gives cs (Ok x) = cs ≡ []
Gives cs (Err flaw) = BeginWith cs flaw

-- how a predicate is meant, of which at most an expression is to be built
pub record IsWanted (hosts own : List Bytes) (name : Written) (operands : List Operand)
    (w : Wanted) : Type 0 where
  pub known : asking_of hosts name.text ≡ Some w.asking
  pub formed : form_of_operands w.asking.relation operands ≡ Some (form_told w.form)
  pub right : form_checks own name.at (asked_form (asking_of hosts name.text) operands)
      ≡ map pattern (form_pattern (form_told w.form))

-- the names that are numbered
abbrev pub names_told : Numbers → Names
names_told n = record {
  kinds = kinds_told n.kinds.keys;
  captures = told n.captures.keys;
  fields = n.fields.now;
}
