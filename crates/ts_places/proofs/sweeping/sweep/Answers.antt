use Rattle.std.proofs.Common.{refl, subst, List}
use Rattle.std.specs.List.{Contains}
use Rattle.ts_reductions.specs.declared.top.Top.{Top}
use Rattle.ts_places.specs.Seeking.{seek_at}
use Rattle.ts_places.proofs.SweepLemmas.{goes_by, through_by, over_by, deep_by_all, first_swept, due_first, due_by, tops_low}
use Rattle.ts_places.proofs.sweeping.sweep.Goals as goal

pub add_dues-requires : goal.add_dues-requires
add_dues-requires g c = λ top there.
    let r = c.requires.ready in
    tops_low c.graph_laws_hold.ensures.look c.args.table.now (g.L.Text.Content.bytes c.args.text.now) r.0 c.args.setting.now c.args.graph.now c.args.place c.args.sights.now r.1 top (subst (λ (l : List Top). Contains l top) c.as_slice.ensures.value there)

pub loop-next-init : goal.loop-next-init
loop-next-init g c = record {
  made = c.requires.made;
  due = due_first c.args.table.now c.args.graph.now c.args.place _ c.args.sights.now.tops.items c.as_slice.result.now c.clear.new.self.items c.add_dues.new.dues.items c.as_slice.ensures.value c.clear.ensures.items (c.in_ok-add_dues.ensures (seek_at c.args.place _));
  can = λ base can. can;
  swept = λ base most can ranks whole. first_swept c.graph_laws_hold.ensures.laying c.graph_laws_hold.ensures.leaves c.key_laws_hold.ensures c.args.table.now (g.L.Text.Content.bytes c.args.text.now) base most ranks c.args.graph.now can.seen.sound c.args.place _ refl whole;
}

pub sweep_one-requires-clause-made : goal.sweep_one-requires-clause-made
sweep_one-requires-clause-made g c = c.loop-next.invariant.made

pub sweep_one-requires-clause-ready : goal.sweep_one-requires-clause-ready
sweep_one-requires-clause-ready g c = let r = c.requires.ready in (r.0, c.loop-next.invariant.can r.0 r.1)

pub sweep_one-requires-clause-due : goal.sweep_one-requires-clause-due
sweep_one-requires-clause-due g c = c.loop-next.invariant.due

pub loop-next-preserved : goal.loop-next-preserved
loop-next-preserved g c = record {
  made = c.in_ok-sweep_one.ensures.made;
  due =
      let r = c.requires.ready in
      due_by c.args.table.now c.sweep_one.new.graph c.args.place c.sweep_one.new.sights.tops.items c.sweep_one.new.kept.dues.items c.in_ok-sweep_one.field-0 c.in-Through.next c.in-Through.is (c.in_ok-sweep_one.ensures.due r.0 (c.loop-next.invariant.can r.0 r.1));
  can = λ base can. (goes_by c.args.table.now (g.L.Text.Content.bytes c.args.text.now) base c.args.setting.now c.sweep_one.new.graph c.args.place c.loop-next.below c.sweep_one.new.sights c.in_ok-sweep_one.field-0 c.in-Through.next c.in-Through.is (c.in_ok-sweep_one.ensures.on base (c.loop-next.invariant.can base can))).0;
  swept = λ base most can ranks whole.
      through_by c.args.table.now (g.L.Text.Content.bytes c.args.text.now) base c.args.setting.now most c.args.graph.now c.sweep_one.new.graph c.args.place c.loop-next.below c.sweep_one.new.sights c.in_ok-sweep_one.field-0 c.in-Through.next c.in-Through.is
      (c.in_ok-sweep_one.ensures.swept base most c.args.graph.now (c.loop-next.invariant.can base can) ranks (c.loop-next.invariant.swept base most can ranks whole));
}

pub loop-next-smaller : goal.loop-next-smaller
loop-next-smaller g c = let r = c.requires.ready in (goes_by c.args.table.now (g.L.Text.Content.bytes c.args.text.now) r.0 c.args.setting.now c.sweep_one.new.graph c.args.place c.loop-next.below c.sweep_one.new.sights c.in_ok-sweep_one.field-0 c.in-Through.next c.in-Through.is (c.in_ok-sweep_one.ensures.on r.0 (c.loop-next.invariant.can r.0 r.1))).1

pub returns-in-Over-clause-swept : goal.returns-in-Over-clause-swept
returns-in-Over-clause-swept g c = λ base most can ranks whole.
    over_by c.args.table.now (g.L.Text.Content.bytes c.args.text.now) base c.args.setting.now most c.args.graph.now c.sweep_one.new.graph c.args.place c.loop-next.below c.sweep_one.new.sights c.in_ok-sweep_one.field-0 c.in-Over.is
    (c.in_ok-sweep_one.ensures.swept base most c.args.graph.now (c.loop-next.invariant.can base can) ranks (c.loop-next.invariant.swept base most can ranks whole))

pub returns-in-Deep-clause-swept : goal.returns-in-Deep-clause-swept
returns-in-Deep-clause-swept g c = λ base most can ranks whole.
    deep_by_all c.args.table.now (g.L.Text.Content.bytes c.args.text.now) base c.args.setting.now most c.args.graph.now c.sweep_one.new.graph c.args.place c.loop-next.below c.sweep_one.new.sights c.in_ok-sweep_one.field-0 c.in-Deep.is
    (c.in_ok-sweep_one.ensures.swept base most c.args.graph.now (c.loop-next.invariant.can base can) ranks (c.loop-next.invariant.swept base most can ranks whole))
