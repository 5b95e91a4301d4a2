use Rattle.std.proofs.Common.{◌≡◌, subst, refl, arith}
use Rattle.ts_graph.specs.declared.view.GraphView.{GraphView}
use Rattle.ts_graph.specs.Down.{HoldsEachOnce}
use Rattle.ts_graph.specs.Latest.{past}
use Rattle.ts_graph.proofs.LatestLemmas.{not_later, meets_none_later, meets_late, meets_end}
use Rattle.ts_graph.proofs.graph.Graph.meet.Goals as goal

pub returns-then-not-is_later-clause-best : goal.returns-then-not-is_later-clause-best
returns-then-not-is_later-clause-best c =
    let each = subst (λ (g : GraphView). HoldsEachOnce g.heads g.links) c.self.view_is c.self.invariant.0.each_once in
    let low = not_later (past c.args.before) c.head-place.result.place c.if-not-is_later.ensures.1 in
    meets_none_later c.args.self.now.heads c.args.self.now.links each c.args.most c.args.spots.now.items c.args.spot c.args.before c.head-place.result c.head-place.ensures low

pub returns-then-place-most-clause-best : goal.returns-then-place-most-clause-best
returns-then-place-most-clause-best c =
    let each = subst (λ (g : GraphView). HoldsEachOnce g.heads g.links) c.self.view_is c.self.invariant.0.each_once in
    let none : c.args.spot.wanting ≡ 0 = omega (arith, c.if-spot-gt0.false) in
    meets_late c.args.self.now.heads c.args.self.now.links each c.args.most c.args.spots.now.items c.args.spot c.args.before c.head-place.result c.head-place.ensures none c.if-place-most.true

pub returns-clause-best : goal.returns-clause-best
returns-clause-best c =
    let each = subst (λ (g : GraphView). HoldsEachOnce g.heads g.links) c.self.view_is c.self.invariant.0.each_once in
    let none : c.args.spot.wanting ≡ 0 = omega (arith, c.if-spot-gt0.false) in
    meets_end c.args.self.now.heads c.args.self.now.links each c.args.most c.args.spots.now.items c.args.spot c.args.before c.head-place.result c.head-place.ensures none c.if-place-most.false (c.if-not-is_later.ensures.0 refl)
