use Rattle.ts_automata.proofs.SetLemmas.{begun_more}
use Rattle.ts_automata.proofs.numbering.firsts.Goals as goal

pub loop-kernel-preserved : goal.loop-kernel-preserved
loop-kernel-preserved c = rw c.in_ok-push.ensures.items
    (begun_more c.args.nodes.now c.args.kernels.now _ _ _ c.loop-kernel.numbers.items c.loop-kernel.kernel-index c.in_ok-number.number c.kernel-item.result c.loop-kernel-test.true c.kernel-item.is
    c.loop-kernel.invariant c.in_ok-number.ensures.grows (rw c.as_slice.ensures.value at c.in_ok-number.ensures.first))
