use Rattle.ts_table.proofs.DecidingLemmas.{shift_iff, reduce_iff, never_both}
use Rattle.ts_table.proofs.deciding.judge.Goals as goal

pub choose-requires : goal.choose-requires
choose-requires c = never_both c.args.reductions.now c.all_have-left.result c.all_have-right.result c.requires c.all_have-left.ensures c.all_have-right.ensures

pub returns-clause-shift : goal.returns-clause-shift
returns-clause-shift c = shift_iff c.args.grammar.now c.args.shifts.now c.args.reductions.now c.some_higher-higher.result c.some_higher-lower.result c.all_have-right.result c.choose.result c.some_higher-higher.ensures c.some_higher-lower.ensures c.all_have-right.ensures c.choose.ensures.shift

pub returns-clause-reduce : goal.returns-clause-reduce
returns-clause-reduce c = reduce_iff c.args.grammar.now c.args.shifts.now c.args.reductions.now c.some_higher-higher.result c.some_higher-lower.result c.all_have-left.result c.choose.result c.some_higher-higher.ensures c.some_higher-lower.ensures c.all_have-left.ensures c.choose.ensures.reduce
