-- Why a grammar in normal form has no parse table, and that it has one.
use Rattle.std.specs.Prelude.{List}
use Rattle.ts_core.specs.declared.flat.FlatGrammar.{FlatGrammar}
use Rattle.ts_core.specs.declared.symbol.Symbol.{Symbol}
use Rattle.spec_tables.specs.Conflicts.{AreDeclared, IsFirstUndeclared}
use Rattle.ts_items.specs.Collection.{AreTooManyStates, too_many}
use Rattle.ts_front.specs.declared.table_fault.NoTable.{NoTable}
use Rattle.ts_front.specs.declared.table_fault.NoTable.TheVariants.{TooManyStates, Conflict}

-- there are not too many sets of items, and every conflict is declared
pub record HasTable (f : FlatGrammar) : Type 0 where
  pub few : AreTooManyStates f → ⊥
  pub declared : AreDeclared f

-- There are too many sets of items; or not, and this is the first conflict that is not declared.
pub data HasNoTable (f : FlatGrammar) : NoTable → Type 0 where
  too_many_states : AreTooManyStates f → HasNoTable f (TooManyStates too_many)
  undeclared : (token : Symbol) (rules : List Symbol) → (AreTooManyStates f → ⊥)
      → IsFirstUndeclared f token.0 rules → HasNoTable f (Conflict f token rules)
