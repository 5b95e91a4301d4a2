use Rattle.ts_automata.proofs.SetLemmas.{rowing_more}
use Rattle.ts_automata.proofs.numbering.row.Goals as goal

pub loop-c-preserved : goal.loop-c-preserved
loop-c-preserved c = rw c.in_ok-push.ensures.items
    (rowing_more c.args.nodes.now c.args.bounds.now _ _ _ c.loop-c.row.items c.args.at c.loop-c.c-index c.in_ok-number.number 0 c.loop-c-test.true
    c.loop-c.invariant c.in_ok-number.ensures.grows c.in_ok-number.ensures.next)
