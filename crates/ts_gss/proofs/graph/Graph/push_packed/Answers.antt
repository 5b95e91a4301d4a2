use Rattle.std.proofs.Common.{sym, subst, arith}
use Rattle.ts_gss.specs.Cells.{NoneIsDeeper}
use Rattle.ts_gss.proofs.CellLemmas.{lie_pushed, shallow_more, exact_more, count_more, head_pushed, stack_pushed}
use Rattle.ts_gss.proofs.OneLemmas.{one_more}
use Rattle.ts_gss.proofs.graph.Graph.push_packed.Goals as goal

pub invariant_of-self-2 : goal.invariant_of-self-2
invariant_of-self-2 c = (
  lie_pushed c.self.inside.cells.items c.args.self.now c.self.view_is c.push.new.self.items (record { node = c.args.node; below = c.args.below; depth = c.args.depth; state = c.args.state }) c.in_ok-push.ensures.items c.self.invariant.0 c.requires,
  subst (NoneIsDeeper c.max-self-inside.result) (sym c.in_ok-push.ensures.items)
      (shallow_more c.self.inside.cells.items (record { node = c.args.node; below = c.args.below; depth = c.args.depth; state = c.args.state }) c.self.inside.deepest c.max-self-inside.result c.self.invariant.1
      (omega (arith, c.max-self-inside.ensures)) (omega (arith, c.max-self-inside.ensures))),
  exact_more c.self.inside.cells.items c.push.new.self.items (record { node = c.args.node; below = c.args.below; depth = c.args.depth; state = c.args.state }) c.self.inside.exact c.len-before.result c.exact_with-self-inside.result c.in_ok-push.ensures.items c.self.invariant.2 (omega (arith, c.len-before.ensures, c.self.inside.cells.ok)) c.exact_with-self-inside.ensures.kept
      c.exact_with-self-inside.ensures.old (λ more. let e = c.exact_with-self-inside.ensures.last more in let d = c.depth.ensures in grind arith),
)

pub returns-clause-head : goal.returns-clause-head
returns-clause-head c =
    head_pushed c.self.inside.cells.items c.args.self.now c.self.view_is c.push.new.self.items (record { node = c.args.node; below = c.args.below; depth = c.args.depth; state = c.args.state }) c.len-count.result c.in_ok-push.ensures.items (omega (arith, c.len-count.ensures, c.push.new.self.ok))

pub returns-clause-pushed : goal.returns-clause-pushed
returns-clause-pushed c =
    stack_pushed c.self.inside.cells.items c.args.self.now c.self.view_is c.push.new.self.items (record { node = c.args.node; below = c.args.below; depth = c.args.depth; state = c.args.state }) c.in_ok-push.ensures.items

pub returns-clause-one : goal.returns-clause-one
returns-clause-one c one = one_more c.args.self.now _ c.args.below _ _ one (returns-clause-head c) (returns-clause-pushed c)

pub exact_with-self-inside-requires : goal.exact_with-self-inside-requires
exact_with-self-inside-requires c =
    count_more c.self.inside.cells.items c.push.new.self.items (record { node = c.args.node; below = c.args.below; depth = c.args.depth; state = c.args.state }) c.len-before.result c.len-count.result c.in_ok-push.ensures.items (omega (arith, c.len-before.ensures, c.self.inside.cells.ok)) (omega (arith, c.len-count.ensures, c.push.new.self.ok))
