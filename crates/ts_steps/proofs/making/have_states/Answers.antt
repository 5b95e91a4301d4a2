use Rattle.std.proofs.Common.{◌≡◌, ◌∙◌, sym, ap, refl, not, true, false}
use Rattle.ts_steps.proofs.ReduceLemmas.{lacks, has_one, has_none, has_more, has_all}
use Rattle.ts_steps.proofs.making.have_states.Goals as goal

pub loop-node-init : goal.loop-node-init
loop-node-init c = ((λ h. h), (λ h. h))

pub returns-then-is_none : goal.returns-then-is_none
returns-then-is_none c = (
  (λ h. absurd (let k : false ≡ true = h in cc)),
  (λ each.
      absurd (has_none c.args.nodes.now c.loop-node.node-index c.node-item.result c.loop-node-test.true c.node-item.is (sym c.state.ensures ∙ lacks c.state.result (c.is_none.ensures ∙ ap not c.if-is_none.true)) c.loop-node.invariant each)),
)

pub loop-node-preserved : goal.loop-node-preserved
loop-node-preserved c =
    let w = has_one c.state.result (c.is_none.ensures ∙ ap not c.if-is_none.false) in
    has_more c.args.nodes.now c.loop-node.node-index c.node-item.result c.loop-node-test.true c.node-item.is (w.0, sym c.state.ensures ∙ w.1) c.loop-node.invariant

pub returns : goal.returns
returns c = ((λ h. has_all c.args.nodes.now c.loop-node.node-index c.loop-node-test.false c.loop-node.invariant), (λ each. refl))
