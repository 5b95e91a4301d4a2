use Rattle.std.proofs.Common.{subst, arith}
use Rattle.ts_ojson.specs.Places.{Refused}
use Rattle.ts_ojson.proofs.FinalLemmas.{stuck_is, deep_is, taken_is}
use Rattle.ts_ojson.proofs.stop.fault_of.Goals as goal

pub overflow_cast-result-in-Duplicate : goal.overflow_cast-result-in-Duplicate
overflow_cast-result-in-Duplicate c =
    let w = c.args.text.now in
    let f = taken_is w c.in-Duplicate.at c.utf8.text (subst (λ s. Refused s w) c.in-Duplicate.is c.requires.refused) in
    let p = f.within in
    omega (arith, c.requires.short, p.0, p.1)

pub returns-in-Syntax : goal.returns-in-Syntax
returns-in-Syntax c = stuck_is c.args.text.now c.in-Syntax.at c.utf8.text (subst (λ s. Refused s c.args.text.now) c.in-Syntax.is c.requires.refused)

pub returns-in-Deep : goal.returns-in-Deep
returns-in-Deep c = deep_is c.args.text.now c.in-Deep.at c.utf8.text (subst (λ s. Refused s c.args.text.now) c.in-Deep.is c.requires.refused)

pub returns-in-Duplicate : goal.returns-in-Duplicate
returns-in-Duplicate c = taken_is c.args.text.now c.in-Duplicate.at c.utf8.text (subst (λ s. Refused s c.args.text.now) c.in-Duplicate.is c.requires.refused)
