use Rattle.std.proofs.Common.{◌∙◌, sym, subst, ℕ, ◌<◌, length, Option}
use Rattle.ts_graph.specs.Down.{links_from}
use Rattle.ts_graph.proofs.BetweenLemmas.{Seeks, seeks_first, seeks_found, seeks_next, seeks_none, go_at, go_within, go_shorter}
use Rattle.ts_graph.proofs.graph.Graph.between.Goals as goal

pub loop-next-init : goal.loop-next-init
loop-next-init c = seeks_first c.args.self.now.links c.args.above c.args.below c.first_down-next.result c.first_down-next.ensures

pub link-requires : goal.link-requires
link-requires c =
    let s = subst (λ (o : Option ℕ). Seeks c.args.self.now.links c.args.above c.args.below o) c.in-Some.is c.loop-next.invariant in
    go_within c.args.self.now.links c.args.above c.in-Some.link s.go

pub returns-then-link-below : goal.returns-then-link-below
returns-then-link-below c =
    let s = subst (λ (o : Option ℕ). Seeks c.args.self.now.links c.args.above c.args.below o) c.in-Some.is c.loop-next.invariant in
    let l = go_at c.args.self.now.links c.args.above c.in-Some.link s.go in
    seeks_found c.args.self.now.links c.args.above c.args.below c.in-Some.link l.0 s l.1 (sym (c.link.ensures.below l.0 l.1) ∙ c.if-link-below.true)

pub next_down-next-requires : goal.next_down-next-requires
next_down-next-requires c =
    let s = subst (λ (o : Option ℕ). Seeks c.args.self.now.links c.args.above c.args.below o) c.in-Some.is c.loop-next.invariant in
    go_within c.args.self.now.links c.args.above c.in-Some.link s.go

pub loop-next-smaller : goal.loop-next-smaller
loop-next-smaller c =
    let links = c.args.self.now.links in
    let s = subst (λ (o : Option ℕ). Seeks c.args.self.now.links c.args.above c.args.below o) c.in-Some.is c.loop-next.invariant in
    let l = go_at links c.args.above c.in-Some.link s.go in
    subst (λ (o : Option ℕ). length (links_from links c.args.above c.next_down-next.result) < length (links_from links c.args.above o)) (sym c.in-Some.is)
    (go_shorter links c.args.above c.in-Some.link c.next_down-next.result l.0 s.go l.1 (c.next_down-next.ensures l.0 l.1))

pub loop-next-preserved : goal.loop-next-preserved
loop-next-preserved c =
    let s = subst (λ (o : Option ℕ). Seeks c.args.self.now.links c.args.above c.args.below o) c.in-Some.is c.loop-next.invariant in
    let l = go_at c.args.self.now.links c.args.above c.in-Some.link s.go in
    seeks_next c.args.self.now.links c.args.above c.args.below c.in-Some.link l.0 s l.1 c.next_down-next.result (c.next_down-next.ensures l.0 l.1) (λ e. c.if-link-below.false (c.link.ensures.below l.0 l.1 ∙ e))

pub returns : goal.returns
returns c =
    seeks_none c.args.self.now.links c.args.above c.args.below
    (subst (λ (o : Option ℕ). Seeks c.args.self.now.links c.args.above c.args.below o) c.in_default.is c.loop-next.invariant)
