use Rattle.std.proofs.Common.{arith}
use Rattle.ts_steps.proofs.BeginLemmas.{begins_none, begins_some}
use Rattle.ts_steps.proofs.taking.begins_with_child.Goals as goal

pub returns-then-children-eq0 : goal.returns-then-children-eq0
returns-then-children-eq0 c = begins_none c.args.node.now c.is_empty.result (omega (arith, c.if-children-eq0.true, c.children.ensures)) c.is_empty.ensures

pub returns-else-children-eq0 : goal.returns-else-children-eq0
returns-else-children-eq0 c = begins_some c.args.node.now c.child.result.now c.begins_at.result c.child.ensures c.begins_at.ensures
