use Rattle.std.proofs.Common.{sym, subst, refl, ℕ, ◌<◌, length, Option, Some}
use Rattle.ts_graph.specs.declared.view.GraphView.{GraphView}
use Rattle.ts_graph.specs.Down.{links_from, HoldsEachOnce}
use Rattle.ts_graph.specs.Latest.{past}
use Rattle.ts_graph.proofs.BetweenLemmas.{GoDown, go_first, go_at, go_within, go_shorter}
use Rattle.ts_graph.proofs.LatestLemmas.{GoesOver, over_first, over_more, over_last, over_less, not_later, left_out, out_less}
use Rattle.ts_graph.proofs.KeptLemmas.{each_past, finds_past}
use Rattle.ts_graph.proofs.graph.Graph.go_down.Goals as goal

pub head-requires : goal.head-requires
head-requires c = c.requires.0

pub returns-then-not-is_later-clause-best : goal.returns-then-not-is_later-clause-best
returns-then-not-is_later-clause-best c =
    let each = subst (λ (g : GraphView). HoldsEachOnce g.heads g.links) c.self.view_is c.self.invariant.0.each_once in
    left_out c.args.self.now.heads c.args.self.now.links each c.args.most c.args.spots.now.items c.args.spot c.args.before c.head.result c.head.ensures
    (not_later (past c.args.before) c.head.result.place c.if-not-is_later.ensures.1)

pub returns-then-not-is_later-clause-spots : goal.returns-then-not-is_later-clause-spots
returns-then-not-is_later-clause-spots c =
    let each = subst (λ (g : GraphView). HoldsEachOnce g.heads g.links) c.self.view_is c.self.invariant.0.each_once in
    out_less c.args.self.now.heads c.args.self.now.links each c.args.most c.args.spots.now.items c.args.spot c.args.before

pub first_down-next-requires : goal.first_down-next-requires
first_down-next-requires c = c.requires.0

pub loop-next-init : goal.loop-next-init
loop-next-init c =
    let each = subst (λ (g : GraphView). HoldsEachOnce g.heads g.links) c.self.view_is c.self.invariant.0.each_once in
    over_first c.args.self.now.heads c.args.self.now.links each c.args.most c.args.spots.now.items c.args.spot c.args.before c.first_down-next.result c.requires.1
    (go_first c.args.self.now.links c.args.spot.head c.first_down-next.result c.first_down-next.ensures) c.first_down-next.ensures

pub all_past-requires : goal.all_past-requires
all_past-requires c =
    go_within c.args.self.now.links c.args.spot.head c.in-Some.link
    (subst (λ (o : Option ℕ). GoDown c.args.self.now.links c.args.spot.head o) c.in-Some.is c.loop-next.invariant.go)

pub returns-then-all_past-clause-best : goal.returns-then-all_past-clause-best
returns-then-all_past-clause-best c = λ h count f.
    let heads = c.args.self.now.heads in
    let links = c.args.self.now.links in
    let over : GoesOver heads links c.args.most c.args.spots.now.items c.args.spot c.args.before (Some c.in-Some.link) c.loop-next.spots.items c.loop-next.best =
    subst (λ (o : Option ℕ). GoesOver heads links c.args.most c.args.spots.now.items c.args.spot c.args.before o c.loop-next.spots.items c.loop-next.best) c.in-Some.is c.loop-next.invariant in
    finds_past heads links c.args.most h count c.loop-next.spots.items c.args.spot.wanting c.loop-next.best (links_from links c.args.spot.head (Some c.in-Some.link))
    (each_past heads links c.args.most c.args.spot.wanting c.args.spot.head c.in-Some.link over.go (c.if-all_past.ensures refl)) (over.finds h count f)

pub returns-then-all_past-clause-spots : goal.returns-then-all_past-clause-spots
returns-then-all_past-clause-spots c =
    let heads = c.args.self.now.heads in
    let links = c.args.self.now.links in
    let each = subst (λ (g : GraphView). HoldsEachOnce g.heads g.links) c.self.view_is c.self.invariant.0.each_once in
    over_less heads links each c.args.most c.args.spots.now.items c.args.spot c.args.before c.loop-next.next c.loop-next.spots.items c.loop-next.best c.loop-next.invariant

pub pass-requires-clause-there : goal.pass-requires-clause-there
pass-requires-clause-there c =
    go_within c.args.self.now.links c.args.spot.head c.in-Some.link
    (subst (λ (o : Option ℕ). GoDown c.args.self.now.links c.args.spot.head o) c.in-Some.is c.loop-next.invariant.go)

pub pass-requires-clause-some : goal.pass-requires-clause-some
pass-requires-clause-some c = c.requires.1

pub next_down-next-requires : goal.next_down-next-requires
next_down-next-requires c =
    go_within c.args.self.now.links c.args.spot.head c.in-Some.link
    (subst (λ (o : Option ℕ). GoDown c.args.self.now.links c.args.spot.head o) c.in-Some.is c.loop-next.invariant.go)

pub loop-next-smaller : goal.loop-next-smaller
loop-next-smaller c =
    let links = c.args.self.now.links in
    let h = c.args.spot.head in
    let g : GoDown links h (Some c.in-Some.link) = subst (λ (o : Option ℕ). GoDown links h o) c.in-Some.is c.loop-next.invariant.go in
    let l = go_at links h c.in-Some.link g in
    subst (λ (o : Option ℕ). length (links_from links h c.next_down-next.result) < length (links_from links h o)) (sym c.in-Some.is)
    (go_shorter links h c.in-Some.link c.next_down-next.result l.0 g l.1 (c.next_down-next.ensures l.0 l.1))

pub loop-next-preserved : goal.loop-next-preserved
loop-next-preserved c =
    let heads = c.args.self.now.heads in
    let links = c.args.self.now.links in
    let each = subst (λ (g : GraphView). HoldsEachOnce g.heads g.links) c.self.view_is c.self.invariant.0.each_once in
    let over : GoesOver heads links c.args.most c.args.spots.now.items c.args.spot c.args.before (Some c.in-Some.link) c.loop-next.spots.items c.loop-next.best =
    subst (λ (o : Option ℕ). GoesOver heads links c.args.most c.args.spots.now.items c.args.spot c.args.before o c.loop-next.spots.items c.loop-next.best) c.in-Some.is c.loop-next.invariant in
    let l = go_at links c.args.spot.head c.in-Some.link over.go in
    over_more heads links each c.args.most c.args.spots.now.items c.args.spot c.args.before c.in-Some.link c.next_down-next.result l.0 l.1 (c.next_down-next.ensures l.0 l.1)
    c.loop-next.spots.items c.pass.new.spots.items c.loop-next.best c.in_ok-best.best over c.in_ok-best.ensures.best c.in_ok-best.ensures.spots

pub returns-clause-best : goal.returns-clause-best
returns-clause-best c =
    let heads = c.args.self.now.heads in
    let links = c.args.self.now.links in
    let each = subst (λ (g : GraphView). HoldsEachOnce g.heads g.links) c.self.view_is c.self.invariant.0.each_once in
    over_last heads links each c.args.most c.args.spots.now.items c.args.spot c.args.before c.loop-next.spots.items c.loop-next.best
    (subst (λ (o : Option ℕ). GoesOver heads links c.args.most c.args.spots.now.items c.args.spot c.args.before o c.loop-next.spots.items c.loop-next.best) c.in_default.is c.loop-next.invariant)

pub returns-clause-spots : goal.returns-clause-spots
returns-clause-spots c =
    let heads = c.args.self.now.heads in
    let links = c.args.self.now.links in
    let each = subst (λ (g : GraphView). HoldsEachOnce g.heads g.links) c.self.view_is c.self.invariant.0.each_once in
    over_less heads links each c.args.most c.args.spots.now.items c.args.spot c.args.before c.loop-next.next c.loop-next.spots.items c.loop-next.best c.loop-next.invariant
