use Rattle.std.proofs.Common.{arith, ◌-◌}
use Rattle.spec_matches.specs.Embedding.{Along}
use Rattle.ts_search.specs.Table.{Takes}
use Rattle.ts_search.proofs.AlongLemmas.{along_at, along_halves, along_zero}
use Rattle.ts_search.proofs.GainLemmas.{finds_exact}
use Rattle.ts_search.proofs.products.+between.Goals as goal

pub returns-then-count-eq0 : goal.returns-then-count-eq0
returns-then-count-eq0 t c =
    finds_exact (Along (Takes c.args.table.now) c.args.k c.args.slot c.args.first (c.args.to - c.args.from) c.args.from) _ c.in_ok-none.none.items
    (along_zero (Takes c.args.table.now) c.args.k c.args.slot c.args.first (c.args.to - c.args.from) c.args.from c.in_ok-none.none.items (omega (arith, c.if-count-eq0.true)) c.in_ok-none.ensures)

pub returns-then-count-eq1 : goal.returns-then-count-eq1
returns-then-count-eq1 t c =
    along_at (Takes c.args.table.now) c.args.k c.args.slot c.args.first (c.args.to - c.args.from) 1 c.args.from _ _ c.in_ok-one.one.items (omega (arith, c.if-count-eq1.true)) c.in_ok-one.ensures

pub returns : goal.returns
returns t c = along_halves (Takes c.args.table.now) c.args.k c.args.slot c.args.first c.args.from c.middle_of-middle.result c.args.to _ _ _ _ c.in_ok-fronts.fronts.items c.in_ok-backs.backs.items c.in_ok-all.all.items
    (let low = c.middle_of-middle.ensures.low in omega arith) (let high = c.middle_of-middle.ensures.high in omega arith) c.in_ok-fronts.ensures c.in_ok-backs.ensures (rw c.as_slice.ensures.value at (rw c.as_slice-2.ensures.value at c.in_ok-all.ensures))
