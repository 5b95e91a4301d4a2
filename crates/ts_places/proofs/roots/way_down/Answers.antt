use Rattle.std.proofs.Common.{◌≡◌, subst, ℕ, Option}
use Rattle.ts_graph.specs.Down.{links_down, links_from}
use Rattle.spec_graph.specs.Links.{IsWay}
use Rattle.ts_places.proofs.RootLemmas.{down_begins, found_low, next_low, next_falls, down_more, down_ends}
use Rattle.ts_places.proofs.roots.way_down.Goals as goal

pub loop-next-init : goal.loop-next-init
loop-next-init c = record {
  way = down_begins c.args.graph.now.links c.args.head c.new-numbers.result.items c.new-numbers.ensures.items;
  low = c.requires.there;
  next_is = c.first_down-next.ensures;
}

pub link-at-requires : goal.link-at-requires
link-at-requires c =
    let links = c.args.graph.now.links in
    let is = subst (λ (o : Option ℕ). links_from links c.loop-next.at o ≡ links_down links c.loop-next.at) c.in-Some.is c.loop-next.invariant.next_is in
    found_low links c.args.graph.now.heads c.count.ensures.once c.loop-next.at c.in-Some.link is

pub first_down-next-requires-in-Some : goal.first_down-next-requires-in-Some
first_down-next-requires-in-Some c =
    let links = c.args.graph.now.links in
    let is = subst (λ (o : Option ℕ). links_from links c.loop-next.at o ≡ links_down links c.loop-next.at) c.in-Some.is c.loop-next.invariant.next_is in
    next_low links c.args.graph.now.heads c.count.ensures.once c.loop-next.at c.in-Some.link is c.link-at.result.below c.link-at.ensures.below

pub loop-next-smaller : goal.loop-next-smaller
loop-next-smaller c =
    let links = c.args.graph.now.links in
    let is = subst (λ (o : Option ℕ). links_from links c.loop-next.at o ≡ links_down links c.loop-next.at) c.in-Some.is c.loop-next.invariant.next_is in
    next_falls links c.args.graph.now.heads c.count.ensures.once c.loop-next.at c.in-Some.link is c.link-at.result.below c.link-at.ensures.below

pub loop-next-preserved : goal.loop-next-preserved
loop-next-preserved c =
    let links = c.args.graph.now.links in
    let is = subst (λ (o : Option ℕ). links_from links c.loop-next.at o ≡ links_down links c.loop-next.at) c.in-Some.is c.loop-next.invariant.next_is in
    record {
      way = down_more links c.args.graph.now.heads c.count.ensures.once c.loop-next.at c.in-Some.link is c.link-at.result.below c.link-at.ensures.below c.args.head c.loop-next.numbers.items _ c.in_ok-push.ensures.items c.loop-next.invariant.way;
      low = next_low links c.args.graph.now.heads c.count.ensures.once c.loop-next.at c.in-Some.link is c.link-at.result.below c.link-at.ensures.below;
      next_is = c.first_down-next-in-Some.ensures;
    }

pub returns : goal.returns
returns c =
    let links = c.args.graph.now.links in
    let s = c.requires.sound in
    let is = subst (λ (o : Option ℕ). links_from links c.loop-next.at o ≡ links_down links c.loop-next.at) c.in_default.is c.loop-next.invariant.next_is in
    let e = down_ends s.0 s.1 c.args.graph.now s.2 c.loop-next.at c.loop-next.invariant.low is in
    let d = c.loop-next.invariant.way in
    (d.way, d.there, subst (λ (n : ℕ). IsWay links c.args.head d.way n) e d.is)
