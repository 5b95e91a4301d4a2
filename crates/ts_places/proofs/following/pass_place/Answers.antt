use Rattle.ts_places.proofs.FollowLemmas.{can_sweep, swept_by, deep_by, all_passed}
use Rattle.ts_places.proofs.following.pass_place.Goals as goal

pub sweep-requires-clause-ready : goal.sweep-requires-clause-ready
sweep-requires-clause-ready g c =
    let r = c.requires.ready in
    (r.0, can_sweep c.key_laws_hold.ensures c.args.table.now c.stands.ensures (g.L.Text.Content.bytes c.args.text.now) c.args.setting.now r.0 r.1 c.args.graph.now c.args.place c.args.sights.now r.2)

pub returns-in-TooDeep-clause-passes : goal.returns-in-TooDeep-clause-passes
returns-in-TooDeep-clause-passes g c = λ base most can.
    deep_by c.args.table.now (g.L.Text.Content.bytes c.args.text.now) base c.args.graph.now c.sweep.new.graph c.args.place c.sweep.new.sights c.in_ok-sweep.field-0 c.in-TooDeep.is
    (c.in_ok-sweep.ensures.swept base most (can_sweep c.key_laws_hold.ensures c.args.table.now c.stands.ensures (g.L.Text.Content.bytes c.args.text.now) c.args.setting.now base most c.args.graph.now c.args.place c.args.sights.now can) can.whole.ranks can.whole.whole)

pub shift_all-requires : goal.shift_all-requires
shift_all-requires g c =
    let r = c.requires.ready in (
      g.L.Text.Content.bytes c.args.text.now,
      r.0,
      c.args.place,
      (swept_by c.args.table.now (g.L.Text.Content.bytes c.args.text.now) r.0 c.args.graph.now c.sweep.new.graph c.args.place c.sweep.new.sights c.in_ok-sweep.field-0 c.in-Done.is
          (c.in_ok-sweep.ensures.swept r.0 r.1 (can_sweep c.key_laws_hold.ensures c.args.table.now c.stands.ensures (g.L.Text.Content.bytes c.args.text.now) c.args.setting.now r.0 r.1 c.args.graph.now c.args.place c.args.sights.now r.2) r.2.whole.ranks r.2.whole.whole)).seen,
    )

pub returns-in_ok-shift_all-in-Done-clause-passes : goal.returns-in_ok-shift_all-in-Done-clause-passes
returns-in_ok-shift_all-in-Done-clause-passes g c = λ base most can.
    let swept = swept_by c.args.table.now (g.L.Text.Content.bytes c.args.text.now) base c.args.graph.now c.sweep.new.graph c.args.place c.sweep.new.sights c.in_ok-sweep.field-0 c.in-Done.is
    (c.in_ok-sweep.ensures.swept base most (can_sweep c.key_laws_hold.ensures c.args.table.now c.stands.ensures (g.L.Text.Content.bytes c.args.text.now) c.args.setting.now base most c.args.graph.now c.args.place c.args.sights.now can) can.whole.ranks can.whole.whole) in
    all_passed c.place_laws_hold.ensures c.args.table.now c.stands.ensures (g.L.Text.Content.bytes c.args.text.now) c.args.setting.now base most c.args.graph.now c.args.place c.args.sights.now c.sweep.new.sights can
    c.sweep.new.graph c.shift_all.new.graph swept (c.in_ok-shift_all-in-Done.ensures (g.L.Text.Content.bytes c.args.text.now) base c.args.place swept.seen)
