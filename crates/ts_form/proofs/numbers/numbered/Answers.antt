use Rattle.std.proofs.Common.{sym, subst}
use Rattle.ts_form.specs.Limits.{IsFormFault}
use Rattle.ts_form.specs.declared.fault.FormFault.{FormFault}
use Rattle.ts_form.proofs.FormLemmas.{number_refused}
use Rattle.ts_form.proofs.numbers.numbered.Goals as goal

pub returns-in-Err-clause-refused : goal.returns-in-Err-clause-refused
returns-in-Err-clause-refused c =
    subst (λ (e : FormFault). IsFormFault c.args.grammar.now e) (sym c.number_fault.ensures)
    (number_refused c.args.grammar.now c.numbering_of.result c.in-Err.fault c.in-Err.is c.numbering_of.ensures.symbols.0 c.numbering_of.ensures.names)
