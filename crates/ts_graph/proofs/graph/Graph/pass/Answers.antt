use Rattle.std.proofs.Common.{◌≡◌, ◌∙◌, ap, subst, ℕ, inl, refl, slice_get, Some}
use Rattle.ts_graph.specs.declared.latest.Spot.{Spot}
use Rattle.ts_graph.specs.declared.view.GraphView.{GraphView}
use Rattle.ts_graph.specs.Down.{HoldsEachOnce}
use Rattle.ts_graph.specs.Latest.{past, spot_past, Meets, IsMet}
use Rattle.ts_graph.proofs.PartLemmas.{behind_is, behind_low}
use Rattle.ts_graph.proofs.LatestLemmas.{not_later, spot_is, meets_none_later}
use Rattle.ts_graph.proofs.graph.Graph.pass.Goals as goal

pub head-requires : goal.head-requires
head-requires c =
    let each = subst (λ (g : GraphView). HoldsEachOnce g.heads g.links) c.self.view_is c.self.invariant.0.each_once in
    behind_low c.args.self.now.heads c.args.self.now.links each c.args.link c.requires.there c.link-head.result.below c.link-head.ensures.below

pub returns-then-not-is_later-clause-best : goal.returns-then-not-is_later-clause-best
returns-then-not-is_later-clause-best c =
    let each = subst (λ (g : GraphView). HoldsEachOnce g.heads g.links) c.self.view_is c.self.invariant.0.each_once in
    let is = behind_is c.args.self.now.links c.args.link c.requires.there c.link-head.result.below c.link-head.ensures.below in
    let at : slice_get c.args.self.now.heads (spot_past c.args.self.now.links c.args.wanting c.args.link).head ≡ Some c.head.result =
    ap (λ (h : ℕ). slice_get c.args.self.now.heads h) is ∙ c.head.ensures in
    meets_none_later c.args.self.now.heads c.args.self.now.links each c.args.most c.args.spots.now.items (spot_past c.args.self.now.links c.args.wanting c.args.link) c.args.before c.head.result at
    (not_later (past c.args.before) c.head.result.place c.if-not-is_later.ensures.1)

pub returns-then-not-is_later-clause-spots : goal.returns-then-not-is_later-clause-spots
returns-then-not-is_later-clause-spots c = inl refl

pub meet-requires : goal.meet-requires
meet-requires c =
    let each = subst (λ (g : GraphView). HoldsEachOnce g.heads g.links) c.self.view_is c.self.invariant.0.each_once in
    behind_low c.args.self.now.heads c.args.self.now.links each c.args.link c.requires.there c.link-head.result.below c.link-head.ensures.below

pub returns-clause-best : goal.returns-clause-best
returns-clause-best c =
    let is = spot_is c.args.self.now.links c.args.link c.requires.there c.args.wanting c.link-head.result.below c.still_wanting-wanting.result c.link-head.ensures.below c.still_wanting-wanting.ensures in
    subst (λ (s : Spot). Meets c.args.self.now.heads c.args.self.now.links c.args.most c.args.spots.now.items s c.args.before c.meet.new.spots.items c.in_ok-best.best) is c.in_ok-best.ensures.best

pub returns-clause-spots : goal.returns-clause-spots
returns-clause-spots c =
    let is = spot_is c.args.self.now.links c.args.link c.requires.there c.args.wanting c.link-head.result.below c.still_wanting-wanting.result c.link-head.ensures.below c.still_wanting-wanting.ensures in
    subst (λ (s : Spot). IsMet c.args.spots.now.items s c.meet.new.spots.items) is c.in_ok-best.ensures.spots
