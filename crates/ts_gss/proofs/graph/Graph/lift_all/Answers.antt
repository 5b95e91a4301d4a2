use Rattle.std.proofs.Common.{◌∙◌, sym, ap, Some, arith}
use Rattle.spec_trees.specs.declared.tree.Tree.{Tree}
use Rattle.ts_gss.specs.Stacks.{stack_at}
use Rattle.ts_gss.proofs.PathLemmas.{lift_more}
use Rattle.ts_gss.proofs.graph.Graph.lift_all.Goals as goal

pub loop-extras-preserved : goal.loop-extras-preserved
loop-extras-preserved c = record {
  within = let low = c.below-at.ensures.lower in let in_all = c.loop-extras.invariant.within in omega arith;
  lifting = lift_more (stack_at c.args.self.now c.args.head) (stack_at c.args.self.now c.loop-extras.at) (stack_at c.args.self.now c.below-at.result) c.loop-extras.extras.items c.push.new.self.items c.in_ok-try_clone.field-0 c.loop-extras.invariant.lifting
      (sym c.loop-extras-test.true ∙ c.extra.ensures)
      (ap (λ (x : Tree). Some x) c.in_ok-try_clone.ensures ∙ c.node.ensures)
      c.below-at.ensures.stack
      c.in_ok-push.ensures.items;
}
