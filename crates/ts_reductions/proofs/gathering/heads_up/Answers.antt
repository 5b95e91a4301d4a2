use Rattle.std.proofs.Common.{◌≡◌, ◌-◌, ℕ, ◌∙◌, ap, get_or, drop, map, reverse, arith}
use Rattle.std.proofs.lemmas.Option.{slice_get_within}
use Rattle.spec_graph.specs.declared.graph.Link.{Link}
use Rattle.ts_reductions.proofs.GatherLemmas.{at_step, at_long, up_first, up_next}
use Rattle.ts_reductions.proofs.gathering.heads_up.Goals as goal

pub loop-left-init : goal.loop-left-init
loop-left-init c = record {
  few = omega arith;
  heads = λ way at. let n = at_long c.args.graph.now.links c.args.numbers.now way at in up_first (λ (l : Link). l.below) way _ _ (omega (arith, n)) c.in_ok-heads.ensures.items;
}

pub link-requires : goal.link-requires
link-requires c =
    let w = c.requires in
    let few = c.loop-left.invariant.few in
    let some = c.loop-left-test.true in
    let r = at_step c.args.graph.now.links c.args.numbers.now w.0 (c.loop-left.left - 1) w.1 (omega (arith, some, few)) in
    slice_get_within c.args.graph.now.links (get_or c.args.numbers.now (c.loop-left.left - 1) 0) r.link r.at

pub loop-left-preserved : goal.loop-left-preserved
loop-left-preserved c =
    let few = c.loop-left.invariant.few in
    let some = c.loop-left-test.true in
    record {
      few = omega (arith, few);
      heads = λ way at.
          let s = at_step c.args.graph.now.links c.args.numbers.now way (c.loop-left.left - 1) at (omega (arith, some, few)) in
          up_next (λ (l : Link). l.below) way c.loop-left.left s.link c.loop-left.heads.items c.push.new.self.items _ s.rest some (c.link.ensures.below s.link s.at) c.in_ok-push.ensures.items (c.loop-left.invariant.heads way at);
    }

pub returns : goal.returns
returns c = λ way at.
    let h = c.loop-left-test.false in
    let none : c.loop-left.left ≡ 0 = omega (arith, h) in
    c.from_vec.ensures ∙ c.loop-left.invariant.heads way at ∙ ap (λ (n : ℕ). reverse (map (λ (l : Link). l.below) (drop n way))) none
