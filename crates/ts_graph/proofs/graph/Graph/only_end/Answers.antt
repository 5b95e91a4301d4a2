use Rattle.std.proofs.Common.{sym, subst, ℕ, ◌<◌, ◌++◌, ◌∷◌, [], arith}
use Rattle.ts_graph.specs.declared.view.GraphView.{GraphView}
use Rattle.ts_graph.specs.Down.{place_at, HoldsEachOnce}
use Rattle.ts_graph.proofs.OnlyLemmas.{only_first, only_on, only_last, down_link, down_there, down_falls}
use Rattle.ts_graph.proofs.graph.Graph.only_end.Goals as goal

pub loop-wanting-init : goal.loop-wanting-init
loop-wanting-init c = record {
  there = c.requires;
  goes = ([], only_first c.args.self.now.links c.args.head c.args.count);
}

pub only_down-requires : goal.only_down-requires
only_down-requires c = c.loop-wanting.invariant.there

pub still_wanting-wanting-requires-clause-there : goal.still_wanting-wanting-requires-clause-there
still_wanting-wanting-requires-clause-there c = (down_link c.args.self.now.links c.loop-wanting.at c.in-Some.link c.in-Some.ensures).2

pub link-at-requires : goal.link-at-requires
link-at-requires c = (down_link c.args.self.now.links c.loop-wanting.at c.in-Some.link c.in-Some.ensures).2

pub loop-wanting-smaller : goal.loop-wanting-smaller
loop-wanting-smaller c =
    let links = c.args.self.now.links in
    let l = down_link links c.loop-wanting.at c.in-Some.link c.in-Some.ensures in
    let each = subst (λ (g : GraphView). HoldsEachOnce g.heads g.links) c.self.view_is c.self.invariant.0.each_once in
    subst (λ (b : ℕ). place_at c.args.self.now.heads b < place_at c.args.self.now.heads c.loop-wanting.at) (sym (c.link-at.ensures.below l.0 l.1))
    (down_falls c.args.self.now.heads links each c.loop-wanting.at c.in-Some.link c.in-Some.ensures l.0 l.1)

pub loop-wanting-preserved : goal.loop-wanting-preserved
loop-wanting-preserved c =
    let links = c.args.self.now.links in
    let each = subst (λ (g : GraphView). HoldsEachOnce g.heads g.links) c.self.view_is c.self.invariant.0.each_once in
    record {
      there = down_there c.args.self.now.heads links each c.loop-wanting.at c.in-Some.link c.in-Some.ensures c.link-at.result.below c.link-at.ensures.below;
      goes = (
        c.loop-wanting.invariant.goes.0 ++ c.in-Some.link ∷ [],
        only_on links c.args.head c.args.count c.loop-wanting.invariant.goes.0 c.loop-wanting.at c.loop-wanting.wanting c.in-Some.link c.loop-wanting.invariant.goes.1 c.loop-wanting-test.true c.in-Some.ensures
            c.link-at.result.below c.link-at.ensures.below c.still_wanting-wanting.result c.still_wanting-wanting.ensures,
      );
    }

pub returns-clause-only : goal.returns-clause-only
returns-clause-only c =
    let h = c.loop-wanting-test.false in
    (c.loop-wanting.invariant.goes.0, only_last c.args.self.now.links c.args.head c.args.count c.loop-wanting.invariant.goes.0 c.loop-wanting.at c.loop-wanting.wanting c.loop-wanting.invariant.goes.1 (omega (arith, h)))

pub returns-clause-there : goal.returns-clause-there
returns-clause-there c = c.loop-wanting.invariant.there
