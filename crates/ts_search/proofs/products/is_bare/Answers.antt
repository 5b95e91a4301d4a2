use Rattle.ts_search.specs.Table.{Takes}
use Rattle.ts_search.proofs.AlongLemmas.{bare_ways}
use Rattle.ts_search.proofs.products.is_bare.Goals as goal

pub returns-in-Some : goal.returns-in-Some
returns-in-Some c h = bare_ways c.in-Some.ways.now (rw c.as_slice.ensures at (c.has_only_empty.ensures h)) (Takes c.args.table.now c.args.k c.args.at c.args.place) c.in-Some.ensures
