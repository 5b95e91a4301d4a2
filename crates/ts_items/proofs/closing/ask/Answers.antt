use Rattle.std.proofs.lemmas.Result.{on_ok_weaker}
use Rattle.ts_items.proofs.TableLemmas.{ask_gains, ask_none}
use Rattle.ts_items.proofs.closing.ask.Goals as goal

pub returns-in-Some-clause-gains : goal.returns-in-Some-clause-gains
returns-in-Some-clause-gains c = on_ok_weaker c.join.result (ask_gains c.args.tabled.now.grammar c.args.pool.now.keys c.args.part c.from.result c.in-Some.symbol c.behind.result.now c.args.asked.now c.join.new.sets c.in-Some.ensures.is c.from.ensures c.behind.ensures.members) c.join.ensures.gains

pub returns-in-None-clause-gains : goal.returns-in-None-clause-gains
returns-in-None-clause-gains c = ask_none c.args.tabled.now.grammar c.args.pool.now.keys c.args.part c.from.result c.args.asked.now c.in-None.ensures.is c.from.ensures
