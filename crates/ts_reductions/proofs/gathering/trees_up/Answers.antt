use Rattle.std.proofs.Common.{◌≡◌, ◌-◌, ℕ, ◌∙◌, ap, get_or, drop, reverse, arith}
use Rattle.std.proofs.lemmas.Option.{slice_get_within}
use Rattle.spec_graph.specs.declared.graph.Link.{Link}
use Rattle.spec_graph.specs.Links.{way_trees}
use Rattle.ts_reductions.proofs.GatherLemmas.{at_step, at_long, up_first, up_next}
use Rattle.ts_reductions.proofs.gathering.trees_up.Goals as goal

pub loop-left-init : goal.loop-left-init
loop-left-init c = record {
  few = omega arith;
  trees = λ way at. let n = at_long c.args.graph.now.links c.args.numbers.now way at in up_first (λ (l : Link). l.tree) way _ _ (omega (arith, n)) c.clear.ensures.items;
}

pub node-requires : goal.node-requires
node-requires c =
    let w = c.requires in
    let few = c.loop-left.invariant.few in
    let some = c.loop-left-test.true in
    let r = at_step c.args.graph.now.links c.args.numbers.now w.0 (c.loop-left.left - 1) w.1 (omega (arith, some, few)) in
    slice_get_within c.args.graph.now.links (get_or c.args.numbers.now (c.loop-left.left - 1) 0) r.link r.at

pub loop-left-preserved : goal.loop-left-preserved
loop-left-preserved c =
    let few = c.loop-left.invariant.few in
    let some = c.loop-left-test.true in
    record {
      few = omega (arith, few);
      trees = λ way at.
          let s = at_step c.args.graph.now.links c.args.numbers.now way (c.loop-left.left - 1) at (omega (arith, some, few)) in
          up_next (λ (l : Link). l.tree) way c.loop-left.left s.link c.loop-left.nodes.items c.push.new.self.items _ s.rest some (c.in_ok-try_clone.ensures ∙ c.node.ensures s.link s.at) c.in_ok-push.ensures.items (c.loop-left.invariant.trees way at);
    }

pub returns : goal.returns
returns c = λ way at.
    let h = c.loop-left-test.false in
    let none : c.loop-left.left ≡ 0 = omega (arith, h) in
    c.loop-left.invariant.trees way at ∙ ap (λ (n : ℕ). reverse (way_trees (drop n way))) none
