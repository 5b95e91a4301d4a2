use Rattle.std.proofs.Common.{sym, subst, ◌<◌, List, vec_len}
use Rattle.ts_graph.specs.declared.latest.Spot.{Spot}
use Rattle.ts_graph.specs.Latest.{spot_of, Finds, IsMet, weight}
use Rattle.ts_graph.proofs.LatestLemmas.{first_found, met_first, last_can, rest_can, none_left, finds_last}
use Rattle.ts_graph.proofs.graph.Graph.latest_of_all.Goals as goal

pub loop-spot-init : goal.loop-spot-init
loop-spot-init c = record {
  can = met_first c.args.self.now.heads (spot_of c.args.head c.args.count) c.meet.new.spots.items c.requires
      (subst (λ (xs : List Spot). IsMet xs (spot_of c.args.head c.args.count) c.meet.new.spots.items) c.new-spots.ensures.items c.in_ok-best.ensures.spots);
  finds = first_found c.args.self.now.heads c.args.self.now.links c.args.most c.args.head c.args.count c.new-spots.result.items c.meet.new.spots.items c.in_ok-best.best c.new-spots.ensures.items c.in_ok-best.ensures.best;
}

pub go_down-requires : goal.go_down-requires
go_down-requires c = last_can c.args.self.now.heads c.loop-spot.spots.items c.pop.new.self.items c.in-Some.spot c.in-Some.ensures.items c.loop-spot.invariant.can

pub loop-spot-smaller : goal.loop-spot-smaller
loop-spot-smaller c =
    subst (λ (xs : List Spot). weight c.args.self.now.heads c.args.self.now.links c.go_down.new.spots.items < weight c.args.self.now.heads c.args.self.now.links xs)
    (sym c.in-Some.ensures.items) c.in_ok-best-2.ensures.spots.less

pub loop-spot-preserved : goal.loop-spot-preserved
loop-spot-preserved c = record {
  can = rest_can c.args.self.now.heads c.args.self.now.links c.loop-spot.spots.items c.pop.new.self.items c.go_down.new.spots.items c.in-Some.spot c.in-Some.ensures.items c.loop-spot.invariant.can c.in_ok-best-2.ensures.spots;
  finds = c.in_ok-best-2.ensures.best c.args.head c.args.count
      (subst (λ (xs : List Spot). Finds c.args.self.now.heads c.args.self.now.links c.args.head c.args.count c.args.most xs c.loop-spot.best) c.in-Some.ensures.items c.loop-spot.invariant.finds);
}

pub returns : goal.returns
returns c =
    let none = none_left c.loop-spot.spots.items c.pop.new.self.items (vec_len c.loop-spot.spots) c.in_default.ensures.items c.in_default.ensures.cases.0 c.in_default.ensures.rest in
    finds_last c.args.self.now.heads c.args.self.now.links c.args.most c.args.head c.args.count c.loop-spot.best
    (subst (λ (xs : List Spot). Finds c.args.self.now.heads c.args.self.now.links c.args.head c.args.count c.args.most xs c.loop-spot.best) none c.loop-spot.invariant.finds)
