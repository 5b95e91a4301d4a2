use Rattle.std.proofs.Common.{◌∙◌, sym, ap, Some, List, ◌<◌, ◌≡◌, length, subst, arith}
use Rattle.std.proofs.lemmas.List.{length-take-le}
use Rattle.spec_trees.specs.declared.tree.Tree.{Tree}
use Rattle.ts_gss.specs.declared.layer.Layer.{Layer}
use Rattle.ts_gss.specs.Stacks.{stack_at, tree_on, depth_on, under_top}
use Rattle.ts_gss.specs.Paths.{still_wanting}
use Rattle.ts_gss.proofs.CellLemmas.{stack_within}
use Rattle.ts_gss.proofs.PathLemmas.{take_begins, take_more, take_ends, some_wanted, depths_begin, depths_more, depths_end}
use Rattle.ts_gss.proofs.graph.Graph.take_off.Goals as goal

pub loop-wanting-init : goal.loop-wanting-init
loop-wanting-init c =
    let e = c.spare-taken.ensures.kept in
    record {
      within = subst (λ (s : List (List Layer)). c.args.head < length s) (sym e) c.requires.there;
      low = omega arith;
      same = λ k low. ap (λ (s : List (List Layer)). stack_at s k) e;
      taking = take_begins (stack_at c.args.self.now c.args.head) c.args.count c.spare-taken.result.items c.spare-taken.ensures.empty c.requires.enough;
      depths = depths_begin (stack_at c.args.self.now c.args.head) c.spare-taken.result.items c.spare-taken.ensures.empty;
    }

pub node-requires-clause-some : goal.node-requires-clause-some
node-requires-clause-some c =
    let i = c.loop-wanting.invariant in
    subst (λ (l : List Layer). 0 < length l) (sym (i.same c.loop-wanting.at (omega arith)))
    (some_wanted (stack_at c.args.self.now c.loop-wanting.at) c.loop-wanting.wanting c.loop-wanting-test.true i.taking.enough)

pub take_top-node-requires-clause-some : goal.take_top-node-requires-clause-some
take_top-node-requires-clause-some c =
    let i = c.loop-wanting.invariant in
    subst (λ (l : List Layer). 0 < length l) (sym (i.same c.loop-wanting.at (omega arith)))
    (some_wanted (stack_at c.args.self.now c.loop-wanting.at) c.loop-wanting.wanting c.loop-wanting-test.true i.taking.enough)

pub loop-wanting-preserved : goal.loop-wanting-preserved
loop-wanting-preserved c =
    let i = c.loop-wanting.invariant in
    let at = c.loop-wanting.at in
    let old = c.args.self.now in
    let cell = c.take_top-node.result in
    let low = c.take_top-node.ensures.lower in
    let left = c.take_top-node.ensures.left in
    let there = i.within in
    let top = sym (i.same at (omega arith)) ∙ c.take_top-node.ensures.top in
    let same = i.same cell.below (omega arith) in
    let some : Some c.node.result.now ≡ Some cell.node = c.node.ensures ∙ ap tree_on c.take_top-node.ensures.top in
    let node : c.node.result.now ≡ cell.node = cc in
    record {
      within = let n = ap (λ (s : List (List Layer)). length s) left ∙ length-take-le at c.loop-wanting.self (omega arith) in omega arith;
      low = (let far = i.low in let lower = c.take_top-node.ensures.lower in omega (arith, far, lower));
      same = λ k below.
          ap (λ (s : List (List Layer)). stack_at s k) left
          ∙ stack_within c.loop-wanting.self at k (omega arith) (omega arith)
          ∙ i.same k (omega arith);
      taking = take_more (stack_at old c.args.head) (stack_at old at) (stack_at old cell.below) c.args.count c.loop-wanting.wanting c.left_to_take-left.result c.loop-wanting.taken.items c.push.new.self.items cell.node i.taking
          c.loop-wanting-test.true
          (sym (ap tree_on top))
          (sym same ∙ sym (ap under_top top))
          c.in_ok-push.ensures.items
          (c.left_to_take-left.ensures ∙ ap (λ (x : Tree). still_wanting x c.loop-wanting.wanting) node);
      depths = depths_more (stack_at old c.args.head) (stack_at old at) c.loop-wanting.taken.items c.push.new.self.items cell.node c.loop-wanting.first c.loop-wanting.others cell.depth c.greater-others.result
          i.taking.rest (sym (ap depth_on top)) c.in_ok-push.ensures.items c.greater-others.ensures i.depths;
    }

pub returns-clause-nodes : goal.returns-clause-nodes
returns-clause-nodes c =
    take_ends (stack_at c.args.self.now c.args.head) (stack_at c.args.self.now c.loop-wanting.at) c.args.count c.loop-wanting.wanting c.loop-wanting.taken.items c.turn.new.nodes.items c.loop-wanting.invariant.taking c.loop-wanting-test.false c.turn.ensures

pub returns-clause-same : goal.returns-clause-same
returns-clause-same c k low = c.loop-wanting.invariant.same k low

pub returns-clause-depths : goal.returns-clause-depths
returns-clause-depths c =
    depths_end (stack_at c.args.self.now c.args.head) c.loop-wanting.taken.items c.turn.new.nodes.items c.loop-wanting.first c.loop-wanting.others c.turn.ensures c.loop-wanting.invariant.depths
