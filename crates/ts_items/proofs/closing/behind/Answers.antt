use Rattle.std.proofs.Common.{length, ap, List, arith}
use Rattle.ts_bits.specs.declared.set.BitSet.{BitSet}
use Rattle.ts_items.proofs.TableLemmas.{follow_some, follow_wide, follow_none}
use Rattle.ts_items.proofs.closing.behind.Goals as goal

pub bounds-firsts-from : goal.bounds-firsts-from
bounds-firsts-from c =
    let lt = c.in-Some.ensures.inside in
    let all = ap (λ (l : List BitSet). length l) c.firsts.ensures in
    omega (arith, lt, all, c.from-in-Some.ensures)

pub returns-in-Some-clause-members : goal.returns-in-Some-clause-members
returns-in-Some-clause-members c = follow_some c.args.tabled.now.grammar c.args.tabled.now.tables c.args.pool.now.keys c.args.part c.from.result c.from-in-Some.result c.in-Some.symbol c.firsts.result.now c.index-firsts-from.result c.stands.ensures c.requires.part.line c.in-Some.ensures.is c.from.ensures c.from-in-Some.ensures c.firsts.ensures c.index-firsts-from.is

pub returns-in-Some-clause-wide : goal.returns-in-Some-clause-wide
returns-in-Some-clause-wide c = follow_wide c.args.tabled.now.grammar c.args.tabled.now.tables c.args.part c.from.result c.from-in-Some.result c.in-Some.symbol c.firsts.result.now c.index-firsts-from.result c.stands.ensures c.requires.part.line c.in-Some.ensures.is c.from.ensures c.from-in-Some.ensures c.firsts.ensures c.index-firsts-from.is

pub returns-in-None-clause-members : goal.returns-in-None-clause-members
returns-in-None-clause-members c = follow_none c.args.tabled.now.grammar c.args.pool.now.keys c.args.part c.from.result c.pool_at.result.now c.in-None.ensures.is c.from.ensures c.pool_at.ensures
