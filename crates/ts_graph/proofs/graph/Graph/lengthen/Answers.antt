use Rattle.std.proofs.Common.{sym, subst, refl, ℕ, ◌<◌, length, Option, Some}
use Rattle.ts_graph.specs.declared.ways.Part.{Part}
use Rattle.ts_graph.specs.declared.ways.Way.{Way}
use Rattle.ts_graph.specs.Down.{links_from}
use Rattle.ts_graph.specs.Parts.{done_to, undone_to}
use Rattle.ts_graph.proofs.BetweenLemmas.{GoDown, go_first, go_at, go_within, go_next, go_rest, go_shorter}
use Rattle.ts_graph.proofs.PartLemmas.{Lengthens, lengthens_first, lengthens_more}
use Rattle.ts_graph.proofs.KeptLemmas.{lengthens_past, undone_none, done_none}
use Rattle.ts_graph.proofs.graph.Graph.lengthen.Goals as goal

pub loop-next-init : goal.loop-next-init
loop-next-init c = record {
  go = go_first c.args.self.now.links c.args.part.now.way.below c.first_down-next.result c.first_down-next.ensures;
  undone_is = lengthens_first (undone_to c.args.self.now.heads c.args.place) c.args.self.now.links c.args.part.now c.first_down-next.result c.args.undone.now.items c.first_down-next.ensures;
  done_is = lengthens_first (done_to c.args.self.now.heads c.args.place) c.args.self.now.links c.args.part.now c.first_down-next.result c.args.done.now.items c.first_down-next.ensures;
}

pub none_leads-requires : goal.none_leads-requires
none_leads-requires c =
    go_within c.args.self.now.links c.args.part.now.way.below c.in-Some.link
    (subst (λ (o : Option ℕ). GoDown c.args.self.now.links c.args.part.now.way.below o) c.in-Some.is c.loop-next.invariant.go)

pub returns-then-none_leads-clause-undone : goal.returns-then-none_leads-clause-undone
returns-then-none_leads-clause-undone c =
    let links = c.args.self.now.links in
    let h = c.args.part.now.way.below in
    let f = undone_to c.args.self.now.heads c.args.place in
    let g : GoDown links h (Some c.in-Some.link) = subst (λ (o : Option ℕ). GoDown links h o) c.in-Some.is c.loop-next.invariant.go in
    lengthens_past f links c.args.part.now (Some c.in-Some.link) c.args.undone.now.items c.loop-next.undone.items
    (subst (λ (o : Option ℕ). Lengthens Part f links c.args.part.now o c.args.undone.now.items c.loop-next.undone.items) c.in-Some.is c.loop-next.invariant.undone_is)
    (undone_none c.args.self.now.heads links c.args.part.now c.in-Some.link g c.args.place (c.if-none_leads.ensures refl))

pub returns-then-none_leads-clause-done : goal.returns-then-none_leads-clause-done
returns-then-none_leads-clause-done c =
    let links = c.args.self.now.links in
    let h = c.args.part.now.way.below in
    let f = done_to c.args.self.now.heads c.args.place in
    let g : GoDown links h (Some c.in-Some.link) = subst (λ (o : Option ℕ). GoDown links h o) c.in-Some.is c.loop-next.invariant.go in
    lengthens_past f links c.args.part.now (Some c.in-Some.link) c.args.done.now.items c.loop-next.done.items
    (subst (λ (o : Option ℕ). Lengthens Way f links c.args.part.now o c.args.done.now.items c.loop-next.done.items) c.in-Some.is c.loop-next.invariant.done_is)
    (done_none c.args.self.now.heads links c.args.part.now c.in-Some.link g c.args.place (c.if-none_leads.ensures refl))

pub take_on-requires-clause-there : goal.take_on-requires-clause-there
take_on-requires-clause-there c =
    go_within c.args.self.now.links c.args.part.now.way.below c.in-Some.link
    (subst (λ (o : Option ℕ). GoDown c.args.self.now.links c.args.part.now.way.below o) c.in-Some.is c.loop-next.invariant.go)

pub next_down-next-requires : goal.next_down-next-requires
next_down-next-requires c =
    go_within c.args.self.now.links c.args.part.now.way.below c.in-Some.link
    (subst (λ (o : Option ℕ). GoDown c.args.self.now.links c.args.part.now.way.below o) c.in-Some.is c.loop-next.invariant.go)

pub loop-next-smaller : goal.loop-next-smaller
loop-next-smaller c =
    let links = c.args.self.now.links in
    let h = c.args.part.now.way.below in
    let g : GoDown links h (Some c.in-Some.link) = subst (λ (o : Option ℕ). GoDown links h o) c.in-Some.is c.loop-next.invariant.go in
    let l = go_at links h c.in-Some.link g in
    subst (λ (o : Option ℕ). length (links_from links h c.next_down-next.result) < length (links_from links h o)) (sym c.in-Some.is)
    (go_shorter links h c.in-Some.link c.next_down-next.result l.0 g l.1 (c.next_down-next.ensures l.0 l.1))

pub loop-next-preserved : goal.loop-next-preserved
loop-next-preserved c =
    let links = c.args.self.now.links in
    let p = c.args.part.now in
    let h = p.way.below in
    let i = c.loop-next.invariant in
    let g : GoDown links h (Some c.in-Some.link) = subst (λ (o : Option ℕ). GoDown links h o) c.in-Some.is i.go in
    let l = go_at links h c.in-Some.link g in
    let rest = go_rest links h c.in-Some.link c.next_down-next.result l.0 g l.1 (c.next_down-next.ensures l.0 l.1) in
    record {
      go = go_next links h c.in-Some.link c.next_down-next.result l.0 g l.1 (c.next_down-next.ensures l.0 l.1);
      undone_is = lengthens_more (undone_to c.args.self.now.heads c.args.place) links p c.in-Some.link c.next_down-next.result c.args.undone.now.items c.loop-next.undone.items c.take_on.new.undone.items rest
          (subst (λ (o : Option ℕ). Lengthens Part (undone_to c.args.self.now.heads c.args.place) links p o c.args.undone.now.items c.loop-next.undone.items) c.in-Some.is i.undone_is)
          c.in_ok-take_on.ensures.undone;
      done_is = lengthens_more (done_to c.args.self.now.heads c.args.place) links p c.in-Some.link c.next_down-next.result c.args.done.now.items c.loop-next.done.items c.take_on.new.done.items rest
          (subst (λ (o : Option ℕ). Lengthens Way (done_to c.args.self.now.heads c.args.place) links p o c.args.done.now.items c.loop-next.done.items) c.in-Some.is i.done_is)
          c.in_ok-take_on.ensures.done;
    }
