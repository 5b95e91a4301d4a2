use Rattle.std.proofs.Common.{true, sym, subst, ◌-◌, List, Bool, ap, ◌∙◌, ◌&&◌, length, arith}
use Rattle.std.proofs.lemmas.List.{drop_all}
use Rattle.spec_trees.specs.declared.tree.Tree.{Tree}
use Rattle.ts_steps.specs.Making.{IsSeenOf}
use Rattle.ts_steps.proofs.MakingLemmas.{seen_none, seen_more, seen_fits}
use Rattle.ts_steps.proofs.making.seen_over.Goals as goal

pub loop-left-init : goal.loop-left-init
loop-left-init c = record {
  within = omega arith;
  seen = subst (λ (l : List Tree). IsSeenOf l c.args.behind (record { extent = c.args.behind; stated = true })) (sym (drop_all (length c.args.nodes.now) c.args.nodes.now (omega arith))) (seen_none c.args.behind);
}

pub with_those_behind-seen-requires : goal.with_those_behind-seen-requires
with_those_behind-seen-requires c =
    let r = c.requires in
    let left = c.loop-left.left in
    let t = c.index-nodes-left.result in
    let some = c.loop-left-test.true in
    let fits = seen_fits c.args.nodes.now left (left - 1) c.args.behind r.1 r.0 t c.loop-left.seen (omega arith) (let w = c.loop-left.invariant.within in omega arith) c.index-nodes-left.is r.3 r.4 c.loop-left.invariant.seen in
    omega (arith, r.2, fits, c.outline.ensures.span)

pub loop-left-preserved : goal.loop-left-preserved
loop-left-preserved c =
    let left = c.loop-left.left in
    let t = c.index-nodes-left.result in
    let some = c.loop-left-test.true in
    let w = c.loop-left.invariant.within in
    let o = c.outline.ensures in
    let new = c.with_those_behind-seen.ensures in
    record {
      within = omega arith;
      seen = seen_more c.args.nodes.now left (left - 1) c.args.behind t c.loop-left.seen c.with_those_behind-seen.result (omega arith) (omega arith) c.index-nodes-left.is
          (omega (arith, new.extent, o.span, o.extent)) (new.stated ∙ ap (λ (b : Bool). c.loop-left.seen.stated && b) o.stated) c.loop-left.invariant.seen;
    }
