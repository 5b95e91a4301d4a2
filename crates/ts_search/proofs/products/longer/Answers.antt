use Rattle.ts_search.specs.Table.{Takes}
use Rattle.ts_search.proofs.AlongLemmas.{longer_none, longer_some}
use Rattle.ts_search.proofs.products.longer.Goals as goal

pub returns-in_default : goal.returns-in_default
returns-in_default c = longer_none (Takes c.args.table.now) c.args.k c.args.at c.args.place c.args.backs.now _ c.new.result.items c.new.ensures.items c.in_default.ensures

pub returns : goal.returns
returns c = longer_some (Takes c.args.table.now) c.args.k c.args.at c.args.place c.in-Some.fronts.now c.args.backs.now _ _ c.in_ok-all.all.items (rw c.as_slice.ensures at c.in_ok-all.ensures) c.in-Some.ensures
