use Rattle.std.proofs.Common.{sym, subst}
use Rattle.ts_numbering.specs.Numberings.{lists_of, numbers_of}
use Rattle.ts_form.specs.Limits.{IsFormFault}
use Rattle.ts_form.specs.declared.fault.FormFault.{FormFault}
use Rattle.ts_form.proofs.FormLemmas.{production_refused}
use Rattle.ts_form.proofs.rules.formed_rules.Goals as goal

pub returns-in-Err-clause-refused : goal.returns-in-Err-clause-refused
returns-in-Err-clause-refused c =
    let g = c.args.grammar.now in
    let n = numbers_of c.args.numbering.now in
    let x = lists_of c.args.numbering.now in
    let are = c.requires.numbering in
    subst (λ (e : FormFault). IsFormFault g e) (sym c.production_fault.ensures)
    (production_refused g n x are.lists are.numbers c.flat_rules.result c.in-Err.fault c.in-Err.is c.requires.fits (c.counts_agree.ensures.many g n x c.requires.names are.lists are.numbers)
    c.flat_rules.ensures.many c.flat_rules.ensures.long)
