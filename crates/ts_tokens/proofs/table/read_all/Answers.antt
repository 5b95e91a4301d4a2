use Rattle.ts_tokens.proofs.TableLemmas.{read_begins, read_more, read_all_of, refused_first, short_here}
use Rattle.ts_tokens.proofs.table.read_all.Goals as goal

pub loop-pattern-init : goal.loop-pattern-init
loop-pattern-init c = read_begins c.args.placed.now c.new-table.result c.new-table.ensures

pub learn-requires : goal.learn-requires
learn-requires c = short_here c.args.placed.now c.loop-pattern.pattern-index c.pattern-item.result c.loop-pattern-test.true c.pattern-item.is c.requires

pub returns-in-Err-clause-refused : goal.returns-in-Err-clause-refused
returns-in-Err-clause-refused c =
    refused_first c.args.placed.now c.loop-pattern.table c.loop-pattern.pattern-index c.pattern-item.result c.in-Err.fault c.refusal.result c.loop-pattern-test.true c.pattern-item.is c.loop-pattern.invariant c.in-Err.ensures.refused c.refusal.ensures

pub loop-pattern-preserved : goal.loop-pattern-preserved
loop-pattern-preserved c =
    read_more c.args.placed.now c.loop-pattern.table c.learn.new.self c.loop-pattern.pattern-index c.pattern-item.result c.loop-pattern-test.true c.pattern-item.is c.in-Ok.ensures.ok c.loop-pattern.invariant

pub returns-clause-all : goal.returns-clause-all
returns-clause-all c = read_all_of c.args.placed.now c.loop-pattern.table c.loop-pattern.pattern-index c.loop-pattern-test.false c.loop-pattern.invariant
