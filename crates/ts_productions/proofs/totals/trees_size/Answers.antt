use Rattle.std.proofs.Common.{refl, arith}
use Rattle.ts_rules.specs.Numbers.{outermost}
use Rattle.ts_productions.specs.Roots.{whole}
use Rattle.ts_productions.proofs.TotalLemmas.{size_none, size_more, size_ends, measure_size}
use Rattle.ts_productions.proofs.totals.trees_size.Goals as goal

pub loop-tree-init : goal.loop-tree-init
loop-tree-init c = record { small = (omega arith, omega arith); size = size_none c.args.weights.now _ refl refl }

pub loop-tree-preserved : goal.loop-tree-preserved
loop-tree-preserved c = record {
  small = c.both-all.ensures.small;
  size =
      size_more c.args.weights.now whole c.args.trees.now c.loop-tree.tree-index c.tree-item.result c.loop-tree.all c.size_of.result c.both-all.result c.loop-tree-test.true c.tree-item.is c.loop-tree.invariant.size
      (measure_size c.args.weights.now (whole c.tree-item.result) c.measure_of.result c.size_of.result (c.measure_of.ensures.measure outermost) c.size_of.ensures.many c.size_of.ensures.longest) c.both-all.ensures.many c.both-all.ensures.longest;
}

pub returns-clause-size : goal.returns-clause-size
returns-clause-size c = size_ends c.args.weights.now whole c.args.trees.now c.loop-tree.tree-index c.loop-tree.all c.loop-tree-test.false c.loop-tree.invariant.size
