-- What the fault of a part becomes where a table is made. Running out of memory stays what it is.
use Rattle.ts_items.specs.declared.numbering.ItemFault.{ItemFault}
use Rattle.ts_items.specs.declared.numbering.ItemFault.TheVariants as items
use Rattle.ts_table.specs.declared.resolving.TableFault.{TableFault}
use Rattle.ts_table.specs.declared.resolving.TableFault.TheVariants as table
use Rattle.ts_front.specs.declared.table_fault.NoTable.{NoTable}
use Rattle.ts_front.specs.declared.table_fault.NoTable.TheVariants.{TooManyStates, Conflict, Memory}

-- what the fault of the sets of items becomes
abbrev pub items_fault : ItemFault → NoTable
items_fault (items.TooManyStates states) = TooManyStates states
items_fault items.Memory = Memory

-- what the fault of the actions on tokens becomes
abbrev pub table_fault : TableFault → NoTable
table_fault (table.Conflict grammar token rules) = Conflict grammar token rules
table_fault table.Memory = Memory
