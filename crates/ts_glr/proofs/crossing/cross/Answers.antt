use Rattle.std.proofs.Common.{◌≡◌, sym, subst, ◌⊎◌, Some, arith}
use Rattle.spec_crossing.specs.Resting.{IsPastStuck}
use Rattle.ts_places.specs.declared.ends.Ends.{Ends}
use Rattle.ts_glr.proofs.SpreadLemmas.{passed_on, passed_over, passed_deep}
use Rattle.ts_glr.proofs.CrossLemmas.{spread_for, left_one, deep_ends, some_left, stays_for}
use Rattle.ts_glr.proofs.crossing.cross.Goals as goal

pub begin-requires-clause-can : goal.begin-requires-clause-can
begin-requires-clause-can g c =
    let t = c.args.table.now in
    let text = g.L.Text.Content.bytes c.args.text.now in
    (t, text, c.own_stacks_enter.ensures.fork t text c.args.stacks c.args.start c.stands.ensures c.requires.short c.requires.own c.requires.fork)

pub loop-spread-init : goal.loop-spread-init
loop-spread-init g c =
    let t = c.args.table.now in
    let text = g.L.Text.Content.bytes c.args.text.now in
    record {
      made = c.requires.made;
      spread = c.in_ok-begin.ensures t text c.args.setting.now (c.own_stacks_enter.ensures.fork t text c.args.stacks c.args.start c.stands.ensures c.requires.short c.requires.own c.requires.fork) c.requires.own c.requires.some c.requires.setting;
    }

pub pass-requires-clause-ready : goal.pass-requires-clause-ready
pass-requires-clause-ready g c = let all = c.loop-spread.invariant.spread in (all.first, all.head, all.laid)

pub pass-requires-clause-made : goal.pass-requires-clause-made
pass-requires-clause-made g c = c.loop-spread.invariant.made

pub returns-in-Deep-clause-comes : goal.returns-in-Deep-clause-comes
returns-in-Deep-clause-comes g c =
    let t = c.args.table.now in
    let text = g.L.Text.Content.bytes c.args.text.now in
    let all = c.loop-spread.invariant.spread in
    deep_ends c.over_laws_hold.ensures t text c.args.stacks all.first c.args.before c.args.start all.head c.pass.new.self all.back
    (passed_deep t text c.args.setting.now c.loop-spread.invariant.spread.first c.loop-spread.invariant.spread.head c.loop-spread.spread c.pass.new.self c.in_ok-pass.field-0 (c.in_ok-pass.ensures.passes c.loop-spread.invariant.spread.first c.loop-spread.invariant.spread.head c.loop-spread.invariant.spread.laid) c.in-Deep.is)

pub ending-requires : goal.ending-requires
ending-requires g c =
    let t = c.args.table.now in
    let text = g.L.Text.Content.bytes c.args.text.now in (
      text,
      c.loop-spread.invariant.spread.first,
      c.loop-spread.invariant.spread.head,
      passed_over t text c.args.setting.now c.loop-spread.invariant.spread.first c.loop-spread.invariant.spread.head c.loop-spread.spread c.pass.new.self c.in_ok-pass.field-0 (c.in_ok-pass.ensures.passes c.loop-spread.invariant.spread.first c.loop-spread.invariant.spread.head c.loop-spread.invariant.spread.laid) c.in-Over.is,
      c.requires.setting.size_is,
    )

pub returns-in-Over-clause-comes : goal.returns-in-Over-clause-comes
returns-in-Over-clause-comes g c =
    let t = c.args.table.now in
    let text = g.L.Text.Content.bytes c.args.text.now in
    let all = c.loop-spread.invariant.spread in
    c.in_ok-crossed-in-Over.ensures text c.args.stacks all.first c.args.start all.head all.back
    (passed_over t text c.args.setting.now c.loop-spread.invariant.spread.first c.loop-spread.invariant.spread.head c.loop-spread.spread c.pass.new.self c.in_ok-pass.field-0 (c.in_ok-pass.ensures.passes c.loop-spread.invariant.spread.first c.loop-spread.invariant.spread.head c.loop-spread.invariant.spread.laid) c.in-Over.is)
    c.requires.setting.size_is

pub ask_in_turn-requires : goal.ask_in_turn-requires
ask_in_turn-requires g c =
    let t = c.args.table.now in
    let text = g.L.Text.Content.bytes c.args.text.now in (
      t,
      text,
      c.args.setting.now,
      c.loop-spread.invariant.spread.first,
      c.loop-spread.invariant.spread.head,
      (passed_on t text c.args.setting.now c.loop-spread.invariant.spread.first c.loop-spread.invariant.spread.head c.loop-spread.spread c.pass.new.self c.in_ok-pass.field-0 (c.in_ok-pass.ensures.passes c.loop-spread.invariant.spread.first c.loop-spread.invariant.spread.head c.loop-spread.invariant.spread.laid) c.in-On.is).0,
    )

pub returns-in-Some-clause-comes : goal.returns-in-Some-clause-comes
returns-in-Some-clause-comes g c =
    let t = c.args.table.now in
    let text = g.L.Text.Content.bytes c.args.text.now in
    let p = (passed_on t text c.args.setting.now c.loop-spread.invariant.spread.first c.loop-spread.invariant.spread.head c.loop-spread.spread c.pass.new.self c.in_ok-pass.field-0 (c.in_ok-pass.ensures.passes c.loop-spread.invariant.spread.first c.loop-spread.invariant.spread.head c.loop-spread.invariant.spread.laid) c.in-On.is).0 in
    let ranks = c.unit_ranks.ensures t.grammar c.stands.ensures.fit in
    let all = c.loop-spread.invariant.spread in
    let ends = c.in_ok-ask_in_turn-in-On.ensures.ends in
    let now = spread_for t text c.args.setting.now c.args.stacks c.args.start c.loop-spread.spread c.pass.new.self all p in
    left_one c.left_laws_hold.ensures c.over_laws_hold.ensures t c.stands.ensures ranks.below text c.args.setting.now c.args.stacks c.args.before c.further-stuck.result c.args.start c.pass.new.self now c.in-Some.left
    (some_left c.pass.new.self c.args.start.place c.in_ok-ask_in_turn-in-On.field-0 c.in-Some.left c.in-Some.is c.in_ok-ask_in_turn-in-On.ensures.left) c.further-stuck.ensures.first
    (λ q p. c.further-stuck.ensures.second q (subst (λ (x : Ends). IsPastStuck x.stuck q) (sym ends) p))
    (λ q is. subst (λ (x : Ends). (c.args.before ≡ Some q) ⊎ (x.stuck ≡ Some q)) ends (c.further-stuck.ensures.from q is))

pub loop-spread-smaller : goal.loop-spread-smaller
loop-spread-smaller g c =
    let t = c.args.table.now in
    let text = g.L.Text.Content.bytes c.args.text.now in
    let w = passed_on t text c.args.setting.now c.loop-spread.invariant.spread.first c.loop-spread.invariant.spread.head c.loop-spread.spread c.pass.new.self c.in_ok-pass.field-0 (c.in_ok-pass.ensures.passes c.loop-spread.invariant.spread.first c.loop-spread.invariant.spread.head c.loop-spread.invariant.spread.laid) c.in-On.is in
    let within = w.0.within in
    let past = w.1 in
    let stays = (c.in_ok-ask_in_turn-in-On.ensures.stays c.in-None.is).place in
    omega (arith, within, past, stays)

pub loop-spread-preserved : goal.loop-spread-preserved
loop-spread-preserved g c =
    let t = c.args.table.now in
    let text = g.L.Text.Content.bytes c.args.text.now in
    let all = c.loop-spread.invariant.spread in
    let p = (passed_on t text c.args.setting.now all.first all.head c.loop-spread.spread c.pass.new.self c.in_ok-pass.field-0 (c.in_ok-pass.ensures.passes all.first all.head all.laid) c.in-On.is).0 in
    let now = spread_for t text c.args.setting.now c.args.stacks c.args.start c.loop-spread.spread c.pass.new.self all p in
    record {
      made = c.in_ok-pass.ensures.made;
      spread = stays_for t text c.args.setting.now c.args.stacks c.args.start c.pass.new.self c.ask_in_turn.new.spread (c.in_ok-ask_in_turn-in-On.ensures.stays c.in-None.is) now;
    }
