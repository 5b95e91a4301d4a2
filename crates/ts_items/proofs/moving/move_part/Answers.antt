use Rattle.std.proofs.Common.{refl}
use Rattle.std.proofs.lemmas.Result.{on_ok_weaker}
use Rattle.ts_items.proofs.TableLemmas.{move_puts, move_none}
use Rattle.ts_items.proofs.moving.move_part.Goals as goal

pub returns-in-Some : goal.returns-in-Some
returns-in-Some c = on_ok_weaker c.put.result (move_puts c.args.tabled.now.grammar c.args.part _ c.from.result c.from-in-Some.result c.in-Some.symbol c.args.moved.now c.put.new.rows c.in-Some.ensures.is c.from.ensures c.from-in-Some.ensures refl) c.put.ensures

pub returns-in-None : goal.returns-in-None
returns-in-None c = move_none c.args.tabled.now.grammar c.args.part c.from.result c.args.moved.now c.in-None.ensures.is c.from.ensures
