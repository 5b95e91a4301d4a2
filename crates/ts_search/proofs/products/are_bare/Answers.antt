use Rattle.std.proofs.Common.{arith}
use Rattle.ts_search.proofs.AlongLemmas.{bare_more}
use Rattle.ts_search.proofs.products.are_bare.Goals as goal

pub loop-place-preserved : goal.loop-place-preserved
loop-place-preserved c =
    bare_more c.args.table.now c.args.k c.args.slot c.args.run.first c.loop-place.place c.loop-place.invariant ((rw c.place_in_round.ensures at c.is_bare.ensures) c.if-not-is_bare.false)

pub returns : goal.returns
returns c h = λ p low below. c.loop-place.invariant p low (omega (arith, below, c.loop-place-test.false))
