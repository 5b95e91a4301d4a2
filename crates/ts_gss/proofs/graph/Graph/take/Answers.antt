use Rattle.std.proofs.Common.{◌∙◌, sym, ap, Some, arith}
use Rattle.spec_trees.specs.declared.tree.Tree.{Tree}
use Rattle.ts_gss.specs.Stacks.{stack_at}
use Rattle.ts_gss.specs.Paths.{still_wanting}
use Rattle.ts_gss.proofs.PathLemmas.{take_more, take_ends, depths_more, depths_end}
use Rattle.ts_gss.proofs.graph.Graph.take.Goals as goal

pub loop-wanting-preserved : goal.loop-wanting-preserved
loop-wanting-preserved c = record {
  within = let low = c.below-at.ensures.lower in let in_all = c.loop-wanting.invariant.within in omega arith;
  taking = take_more (stack_at c.args.self.now c.args.head) (stack_at c.args.self.now c.loop-wanting.at) (stack_at c.args.self.now c.below-at.result) c.args.count c.loop-wanting.wanting c.left_to_take-wanting.result c.loop-wanting.nodes.items c.push.new.self.items c.in_ok-try_clone.field-0 c.loop-wanting.invariant.taking
      c.loop-wanting-test.true
      (ap (λ (x : Tree). Some x) c.in_ok-try_clone.ensures ∙ c.node-node.ensures)
      c.below-at.ensures.stack
      c.in_ok-push.ensures.items
      (c.left_to_take-wanting.ensures ∙ ap (λ (x : Tree). still_wanting x c.loop-wanting.wanting) (sym c.in_ok-try_clone.ensures));
  depths = depths_more (stack_at c.args.self.now c.args.head) (stack_at c.args.self.now c.loop-wanting.at) c.loop-wanting.nodes.items c.push.new.self.items c.in_ok-try_clone.field-0 c.loop-wanting.first c.loop-wanting.others c.depth-first.result c.greater-others.result
      c.loop-wanting.invariant.taking.rest c.depth-first.ensures c.in_ok-push.ensures.items c.greater-others.ensures c.loop-wanting.invariant.depths;
}

pub returns-clause-nodes : goal.returns-clause-nodes
returns-clause-nodes c =
    take_ends (stack_at c.args.self.now c.args.head) (stack_at c.args.self.now c.loop-wanting.at) c.args.count c.loop-wanting.wanting c.loop-wanting.nodes.items c.turn.new.nodes.items c.loop-wanting.invariant.taking c.loop-wanting-test.false c.turn.ensures

pub returns-clause-depths : goal.returns-clause-depths
returns-clause-depths c =
    depths_end (stack_at c.args.self.now c.args.head) c.loop-wanting.nodes.items c.turn.new.nodes.items c.loop-wanting.first c.loop-wanting.others c.turn.ensures c.loop-wanting.invariant.depths
