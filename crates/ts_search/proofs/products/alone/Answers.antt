use Rattle.ts_search.specs.Table.{Takes}
use Rattle.ts_search.proofs.AlongLemmas.{along_one}
use Rattle.ts_search.proofs.products.alone.Goals as goal

pub returns : goal.returns
returns c = along_one (Takes c.args.table.now) c.args.k c.args.slot c.args.first c.args.place c.in_ok-empty.empty.items _ _ c.in_ok-cs.cs.items c.in_ok-empty.ensures (rw c.place_in_round-o.ensures at (rw c.as_slice.ensures.value at c.in_ok-cs.ensures))
