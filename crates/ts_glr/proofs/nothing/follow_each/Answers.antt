use Rattle.std.specs.Vec.{vec_len}
use Rattle.ts_glr.proofs.EachLemmas.{begins, none_left, some_end, form_over, fresh_over, own_over, sound_over, head_own, taken_deep, follows_falls, follows}
use Rattle.ts_glr.proofs.nothing.follow_each.Goals as goal

pub loop-head-init : goal.loop-head-init
loop-head-init g c =
    let text = g.L.Text.Content.bytes c.args.text.now in
    let made = c.in_ok-readings.ensures in
    record {
      made = c.requires.made;
      follows = begins c.packing_laws_hold.ensures c.args.table.now c.stands.ensures.fit text c.in_ok-readings.readings.graph c.in_ok-readings.readings.stuck c.in_ok-readings.readings.live.items c.in_ok-readings.readings.best made.graph made.live made.best made.stuck;
    }

pub advance-requires-clause-live : goal.advance-requires-clause-live
advance-requires-clause-live g c =
    let text = g.L.Text.Content.bytes c.args.text.now in
    head_own c.packing_laws_hold.ensures c.args.table.now c.stands.ensures.fit text c.loop-head.readings.graph c.loop-head.readings.stuck c.loop-head.readings.live.items c.loop-head.readings.best c.loop-head.invariant.follows c.pop.new.self.items c.in-Some.head c.in-Some.ensures.items

pub advance-requires-clause-made : goal.advance-requires-clause-made
advance-requires-clause-made g c = c.loop-head.invariant.made

pub advance-requires-clause-form : goal.advance-requires-clause-form
advance-requires-clause-form g c = c.loop-head.invariant.follows.form

pub returns-then-deep-clause-fresh : goal.returns-then-deep-clause-fresh
returns-then-deep-clause-fresh g c =
    let text = g.L.Text.Content.bytes c.args.text.now in
    taken_deep c.packing_laws_hold.ensures c.args.table.now c.stands.ensures.fit text c.loop-head.readings.graph c.loop-head.readings.stuck c.loop-head.readings.live.items c.loop-head.readings.best c.loop-head.invariant.follows c.pop.new.self.items c.in-Some.head c.in-Some.ensures.items (c.in_ok-deep.ensures.deep c.if-deep.true)

pub loop-head-smaller : goal.loop-head-smaller
loop-head-smaller g c =
    let text = g.L.Text.Content.bytes c.args.text.now in
    follows_falls c.packing_laws_hold.ensures c.args.table.now c.stands.ensures.fit text c.loop-head.readings.graph c.loop-head.readings.stuck c.loop-head.readings.live.items c.loop-head.readings.best c.loop-head.invariant.follows c.pop.new.self.items c.in-Some.head c.in-Some.ensures.items c.advance.new.readings.graph c.advance.new.readings.live.items c.advance.new.readings.best c.advance.new.readings.stuck c.in_ok-deep.ensures.grows (c.in_ok-deep.ensures.done c.if-deep.false) c.steps_fall.ensures

pub loop-head-preserved : goal.loop-head-preserved
loop-head-preserved g c =
    let text = g.L.Text.Content.bytes c.args.text.now in
    record {
      made = c.in_ok-deep.ensures.made;
      follows = follows c.packing_laws_hold.ensures c.args.table.now c.stands.ensures.fit text c.loop-head.readings.graph c.loop-head.readings.stuck c.loop-head.readings.live.items c.loop-head.readings.best c.loop-head.invariant.follows c.pop.new.self.items c.in-Some.head c.in-Some.ensures.items c.advance.new.readings.graph c.advance.new.readings.live.items c.advance.new.readings.best c.advance.new.readings.stuck c.in_ok-deep.ensures.grows (c.in_ok-deep.ensures.done c.if-deep.false) c.in_ok-deep.ensures.form;
    }

pub outcome-requires : goal.outcome-requires
outcome-requires g c =
    let text = g.L.Text.Content.bytes c.args.text.now in
    let none = none_left c.loop-head.readings.live.items c.pop.new.self.items (vec_len c.loop-head.readings.live) c.in_default.ensures.items c.in_default.ensures.cases.0 c.in_default.ensures.rest in
    some_end c.packing_laws_hold.ensures c.args.table.now c.stands.ensures.fit text c.loop-head.readings.graph c.loop-head.readings.stuck c.loop-head.readings.live.items c.loop-head.readings.best c.loop-head.invariant.follows none

pub returns-clause-made : goal.returns-clause-made
returns-clause-made g c = c.loop-head.invariant.made

pub returns-clause-form : goal.returns-clause-form
returns-clause-form g c =
    let text = g.L.Text.Content.bytes c.args.text.now in
    let none = none_left c.loop-head.readings.live.items c.pop.new.self.items (vec_len c.loop-head.readings.live) c.in_default.ensures.items c.in_default.ensures.cases.0 c.in_default.ensures.rest in
    form_over c.packing_laws_hold.ensures c.args.table.now c.stands.ensures.fit text c.loop-head.readings.graph c.loop-head.readings.stuck c.loop-head.readings.live.items c.loop-head.readings.best c.loop-head.invariant.follows c.outcome.result none c.outcome.ensures

pub returns-clause-own : goal.returns-clause-own
returns-clause-own g c =
    let text = g.L.Text.Content.bytes c.args.text.now in
    let none = none_left c.loop-head.readings.live.items c.pop.new.self.items (vec_len c.loop-head.readings.live) c.in_default.ensures.items c.in_default.ensures.cases.0 c.in_default.ensures.rest in
    own_over c.packing_laws_hold.ensures c.args.table.now c.stands.ensures.fit text c.loop-head.readings.graph c.loop-head.readings.stuck c.loop-head.readings.live.items c.loop-head.readings.best c.loop-head.invariant.follows c.outcome.result none c.outcome.ensures

pub returns-clause-fresh : goal.returns-clause-fresh
returns-clause-fresh g c =
    let text = g.L.Text.Content.bytes c.args.text.now in
    let none = none_left c.loop-head.readings.live.items c.pop.new.self.items (vec_len c.loop-head.readings.live) c.in_default.ensures.items c.in_default.ensures.cases.0 c.in_default.ensures.rest in
    fresh_over c.packing_laws_hold.ensures c.args.table.now c.stands.ensures.fit text c.loop-head.readings.graph c.loop-head.readings.stuck c.loop-head.readings.live.items c.loop-head.readings.best c.loop-head.invariant.follows c.outcome.result none c.outcome.ensures

pub returns-clause-sound : goal.returns-clause-sound
returns-clause-sound g c states are =
    let text = g.L.Text.Content.bytes c.args.text.now in
    let none = none_left c.loop-head.readings.live.items c.pop.new.self.items (vec_len c.loop-head.readings.live) c.in_default.ensures.items c.in_default.ensures.cases.0 c.in_default.ensures.rest in
    sound_over c.packing_laws_hold.ensures c.args.table.now c.stands.ensures.fit text c.loop-head.readings.graph c.loop-head.readings.stuck c.loop-head.readings.live.items c.loop-head.readings.best c.loop-head.invariant.follows c.outcome.result none c.outcome.ensures states are
