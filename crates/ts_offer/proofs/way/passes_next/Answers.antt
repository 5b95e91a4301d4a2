use Rattle.std.proofs.Common.{arith}
use Rattle.ts_offer.proofs.PlaceLemmas.{spans_at}
use Rattle.ts_offer.proofs.way.passes_next.Goals as goal

pub overflow_add-end : goal.overflow_add-end
overflow_add-end c =
    let next = spans_at _ c.args.turn.next c.child.result.now c.child.ensures in
    omega (arith, next, c.requires, c.span.ensures)
