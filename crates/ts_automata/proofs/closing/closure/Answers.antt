use Rattle.std.proofs.Common.{subst, List, ℕ, [], arith}
use Rattle.std.specs.List.{Contains}
use Rattle.std.proofs.lemmas.List.{take_all}
use Rattle.ts_automata.specs.Reads.{Splits}
use Rattle.ts_automata.specs.Sets.{Adds}
use Rattle.ts_automata.proofs.AddsLemmas.{kernel_more}
use Rattle.ts_automata.proofs.LeastLemmas.{closing_begins, closing_more, closed}
use Rattle.ts_automata.proofs.closing.closure.Goals as goal

pub loop-node-preserved : goal.loop-node-preserved
loop-node-preserved c = kernel_more c.args.kernel.now c.loop-node.node-index 0 c.loop-node.found.keys c.add.new.found.keys c.loop-node-test.true c.loop-node.invariant c.in_ok-add.ensures

pub loop-next-init : goal.loop-next-init
loop-next-init c =
    let all = take_all _ _ c.loop-node-test.false in
    closing_begins (Splits c.args.nodes.now) c.args.kernel.now c.loop-node.found.keys (subst (λ (l : List ℕ). Adds (Contains l) [] c.loop-node.found.keys) all c.loop-node.invariant)

pub loop-next-preserved : goal.loop-next-preserved
loop-next-preserved c =
    closing_more (Splits c.args.nodes.now) c.args.kernel.now c.loop-next.found.keys c.expand.new.found.keys c.loop-next.next c.node_at-from.result (omega (arith, c.len.ensures.len)) c.node_at-from.ensures
    c.loop-next.invariant c.in_ok-expand.ensures

pub returns : goal.returns
returns c = closed (Splits c.args.nodes.now) c.args.kernel.now c.loop-next.found.keys c.loop-next.next (omega (arith, c.len.ensures.len)) c.loop-next.invariant
