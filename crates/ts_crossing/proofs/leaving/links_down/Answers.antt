use Rattle.std.proofs.Common.{◌∙◌, sym, ap, subst, ℕ, List, [], ◌∷◌, ◌++◌, arith}
use Rattle.std.proofs.lemmas.Option.{slice_get_within}
use Rattle.ts_crossing.specs.Leaving.{StartsWith}
use Rattle.ts_crossing.proofs.WayLemmas.{not_start, starts_first, starts_more, starts_all, starts_none, below_low, below_falls}
use Rattle.ts_crossing.proofs.leaving.links_down.Goals as goal

pub link-at-requires : goal.link-at-requires
link-at-requires c = slice_get_within c.args.graph.now.links c.args.last c.requires.last.down.link c.requires.last.down.at

pub loop-at-init : goal.loop-at-init
loop-at-init c =
    let d = c.requires.last.down in
    let r = c.requires.sound in
    record {
      there = below_low c.args.graph.now.heads c.args.graph.now.links c.count.ensures.once c.args.last d.link d.at c.link-at.result.below (c.link-at.ensures.below d.link d.at);
      starts = subst (λ (ks : List ℕ). StartsWith c.args.graph.now.links c.args.head c.args.last ks c.link-at.result.below) (sym (c.in_ok-push.ensures.items ∙ ap (λ (ks : List ℕ). ks ++ c.args.last ∷ []) c.clear.ensures.items))
          (starts_first c.leave_laws_hold.ensures.keeps c.args.graph.now r.0 r.1 c.args.head c.args.last c.link-at.result.below (not_start c.leave_laws_hold.ensures.keeps c.args.graph.now r.0 r.1 c.args.head c.args.last d) c.requires.last (sym (c.link-at.ensures.below d.link d.at)));
    }

pub only_down-requires : goal.only_down-requires
only_down-requires c = c.loop-at.invariant.there

pub returns-in-None : goal.returns-in-None
returns-in-None c =
    let r = c.requires.sound in
    let some = c.loop-at-test.true in
    starts_none c.leave_laws_hold.ensures.keeps c.args.graph.now r.0 r.1 c.args.head c.args.last c.loop-at.at c.loop-at.numbers.items c.loop-at.invariant.starts (λ z. omega (arith, some, z)) c.count.ensures.once c.in-None.ensures

pub link-at-requires-in-Some : goal.link-at-requires-in-Some
link-at-requires-in-Some c = slice_get_within c.args.graph.now.links c.in-Some.link c.in-Some.ensures.link c.in-Some.ensures.at

pub loop-at-preserved : goal.loop-at-preserved
loop-at-preserved c =
    let d = c.in-Some.ensures in
    let r = c.requires.sound in
    let some = c.loop-at-test.true in
    record {
      there = below_low c.args.graph.now.heads c.args.graph.now.links c.count.ensures.once c.in-Some.link d.link d.at c.link-at-in-Some.result.below (c.link-at-in-Some.ensures.below d.link d.at);
      starts = subst (λ (ks : List ℕ). StartsWith c.args.graph.now.links c.args.head c.args.last ks c.link-at-in-Some.result.below) (sym c.in_ok-push-in-Some.ensures.items)
          (starts_more c.leave_laws_hold.ensures.keeps c.args.graph.now r.0 r.1 c.args.head c.args.last c.loop-at.at c.loop-at.numbers.items c.loop-at.invariant.starts (λ z. omega (arith, some, z)) c.in-Some.link c.link-at-in-Some.result.below d (sym (c.link-at-in-Some.ensures.below d.link d.at)));
    }

pub loop-at-smaller : goal.loop-at-smaller
loop-at-smaller c =
    let d = c.in-Some.ensures in
    below_falls c.args.graph.now.heads c.args.graph.now.links c.count.ensures.once c.in-Some.link d.link d.at c.link-at-in-Some.result.below (c.link-at-in-Some.ensures.below d.link d.at) c.loop-at.at d.above

pub returns : goal.returns
returns c =
    let r = c.requires.sound in
    let none = c.loop-at-test.false in
    starts_all c.leave_laws_hold.ensures.keeps c.args.graph.now r.0 r.1 c.base-base.ensures.lies c.args.head c.args.last c.loop-at.at c.loop-at.numbers.items c.loop-at.invariant.starts (let b = c.base-base.ensures.is in omega (arith, none, b))
