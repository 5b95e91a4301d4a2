use Rattle.std.proofs.Common.{◌≡◌, ◌+◌, ◌≤◌, max, ap, subst, arith, List, [], length, drop}
use Rattle.std.proofs.lemmas.List.{drop_all, take_all}
use Rattle.std.specs.Prelude.{All}
use Rattle.std.specs.Int.RustNames.{unsigned_abs}
use Rattle.std.proofs.lemmas.Int.{ints}
use mir.Syntax.{w128}
use mir.Val.{to_z}
use lib.IntN.{pos, ◌+ℤ◌}
use Rattle.spec_trees.specs.declared.tree.Tree.{Tree}
use Rattle.spec_trees.specs.Trees.{node_count, all_nodes, span_of, all_spans, total_of, all_totals, tree_depth, greatest_depth}
use Rattle.spec_trees.specs.Made.{IsNode}
use Rattle.ts_node.specs.Held.{HoldsNodes}
use Rattle.ts_node.proofs.WholeLemmas.{drop_next, whole_more}
use Rattle.ts_node.proofs.sums.sums.Goals as goal

pub with_total-totals-requires : goal.with_total-totals-requires
with_total-totals-requires c =
    let ks = c.args.children.now in
    let i = c.loop-child.child-index in
    let old = c.loop-child.invariant in
    let tells = c.summary-summary.ensures in
    let node : IsNode c.child-item.result = tells.node in
    let own : unsigned_abs c.summary-summary.result.dynamic ≡ unsigned_abs (total_of c.child-item.result) = ap unsigned_abs tells.dynamic in
    omega (arith, ints, old.modest, old.few, own, node.modest, node.sized.few, c.requires, c.loop-child-test.true)

pub loop-child-preserved : goal.loop-child-preserved
loop-child-preserved c =
    let ks = c.args.children.now in
    let i = c.loop-child.child-index in
    let t = c.child-item.result in
    let old = c.loop-child.invariant in
    let tells = c.summary-summary.ensures in
    let node : IsNode t = tells.node in
    let rest = drop_next ks i t c.loop-child-test.true c.child-item.is in
    let nodes : all_nodes (drop i ks) ≡ node_count t + all_nodes (drop (i + 1) ks) = ap all_nodes rest in
    let spans : all_spans (drop i ks) ≡ span_of t + all_spans (drop (i + 1) ks) = ap all_spans rest in
    let totals : all_totals (drop i ks) ≡ total_of t +ℤ all_totals (drop (i + 1) ks) = ap all_totals rest in
    let depth : greatest_depth (drop i ks) ≡ max (tree_depth t) (greatest_depth (drop (i + 1) ks)) = ap greatest_depth rest in
    record {
      nodes = omega (arith, old.nodes, tells.nodes, nodes);
      spans = omega (arith, old.spans, tells.pad, tells.size, spans);
      depth = omega (arith, old.depth, tells.depth, c.max-depth.ensures, depth);
      few = omega (arith, old.few, tells.nodes, node.sized.few);
      short = omega (arith, old.short, tells.pad, tells.size, node.sized.short);
      totals = omega (arith, ints, old.totals, totals, tells.dynamic, c.with_total-totals.ensures.sum);
      modest =
          let own : unsigned_abs c.summary-summary.result.dynamic ≡ unsigned_abs (total_of t) = ap unsigned_abs tells.dynamic in
          omega (arith, ints, old.modest, own, node.modest, tells.nodes, c.with_total-totals.ensures.modest);
      whole = whole_more ks i t c.loop-child-test.true c.child-item.is old.whole tells.whole;
    }

pub returns : goal.returns
returns c =
    let ks = c.args.children.now in
    let i = c.loop-child.child-index in
    let old = c.loop-child.invariant in
    let past : length ks ≤ i = omega (arith, c.loop-child-test.false) in
    let none : drop i ks ≡ [] = drop_all i ks past in
    let nodes : all_nodes (drop i ks) ≡ 0 = ap all_nodes none in
    let spans : all_spans (drop i ks) ≡ 0 = ap all_spans none in
    let totals : all_totals (drop i ks) ≡ pos 0 = ap all_totals none in
    let depth : greatest_depth (drop i ks) ≡ 0 = ap greatest_depth none in
    record {
      nodes = omega (arith, old.nodes, nodes);
      spans = omega (arith, old.spans, spans);
      depth = omega (arith, old.depth, depth);
      few = omega (arith, old.nodes, old.few, nodes, c.loop-child.auto.child-index-end);
      short = omega (arith, old.spans, old.short, spans, c.loop-child.auto.child-index-end);
      totals = omega (arith, ints, old.totals, totals);
      modest =
          let all : to_z w128 c.loop-child.totals-bits ≡ all_totals ks = omega (arith, ints, old.totals, totals) in
          let same : unsigned_abs (to_z w128 c.loop-child.totals-bits) ≡ unsigned_abs (all_totals ks) = ap unsigned_abs all in
          omega (arith, old.modest, same, old.nodes, nodes);
      whole = subst (λ (us : List Tree). All HoldsNodes us) (take_all i ks past) old.whole;
    }
