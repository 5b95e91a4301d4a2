use Rattle.std.proofs.Common.{sym, subst, List, ℕ}
use Rattle.ts_places.specs.Looking.{AllStandAt}
use Rattle.ts_places.specs.declared.following.Next.{Next}
use Rattle.ts_places.specs.Following.{Follows}
use Rattle.ts_places.proofs.FrontierLemmas.{all_heads, here_stand, past_open}
use Rattle.ts_places.proofs.FollowLemmas.{can_pass, passed_by, deep_passed, follows_next}
use Rattle.ts_places.proofs.following.follow_place.Goals as goal

pub those_at-requires : goal.those_at-requires
those_at-requires g c =
    let r = c.requires.ready in
    all_heads c.args.graph.now c.args.place c.args.frontier.now.heads.items c.as_slice-waiting.result.now c.as_slice-waiting.ensures.value r.2.are_open

pub those_past-requires : goal.those_past-requires
those_past-requires g c =
    let r = c.requires.ready in
    all_heads c.args.graph.now c.args.place c.args.frontier.now.heads.items c.as_slice-waiting.result.now c.as_slice-waiting.ensures.value r.2.are_open

pub look_at-requires-clause-sound : goal.look_at-requires-clause-sound
look_at-requires-clause-sound g c = let r = c.requires.ready in (r.0, r.2.whole.sound)

pub look_at-requires-clause-stand : goal.look_at-requires-clause-stand
look_at-requires-clause-stand g c =
    let r = c.requires.ready in (
      c.args.place,
      subst (λ (l : List ℕ). AllStandAt c.args.graph.now c.args.place l) (sym c.as_slice-here.ensures.value)
          (here_stand c.args.graph.now c.args.place c.args.frontier.now.heads.items c.as_slice-waiting.result.now c.as_slice-waiting.ensures.value r.2.are_open c.those_at.new.here.items c.in_ok-those_at.ensures),
    )

pub look_at-requires-clause-none : goal.look_at-requires-clause-none
look_at-requires-clause-none g c = c.forget.ensures

pub pass_place-requires-clause-ready : goal.pass_place-requires-clause-ready
pass_place-requires-clause-ready g c =
    let r = c.requires.ready in
    (r.0, r.1, can_pass c.args.table.now (g.L.Text.Content.bytes c.args.text.now) c.args.setting.now r.0 r.1 c.args.graph.now c.args.place c.args.frontier.now r.2 c.as_slice-waiting.result.now c.as_slice-waiting.ensures.value c.those_at.new.here.items c.in_ok-those_at.ensures c.as_slice-here.result.now c.as_slice-here.ensures.value c.look_at.new.sights (c.in_ok-look_at.ensures.sights r.0 c.args.place))

pub advance-requires : goal.advance-requires
advance-requires g c =
    let r = c.requires.ready in
    let p = passed_by c.args.table.now (g.L.Text.Content.bytes c.args.text.now) r.0 r.1 c.args.graph.now c.pass_place.new.graph c.args.place c.pass_place.new.sights c.in_ok-pass_place.field-0 c.in-Done.is
    (c.in_ok-pass_place.ensures.passes r.0 r.1 (can_pass c.args.table.now (g.L.Text.Content.bytes c.args.text.now) c.args.setting.now r.0 r.1 c.args.graph.now c.args.place c.args.frontier.now r.2 c.as_slice-waiting.result.now c.as_slice-waiting.ensures.value c.those_at.new.here.items c.in_ok-those_at.ensures c.as_slice-here.result.now c.as_slice-here.ensures.value c.look_at.new.sights (c.in_ok-look_at.ensures.sights r.0 c.args.place))) in
    (c.args.graph.now, c.count-count.ensures.count, p.followed.grows.stay, past_open c.args.graph.now c.args.place c.args.frontier.now.heads.items c.as_slice-waiting.result.now c.as_slice-waiting.ensures.value r.2.are_open c.those_past.new.past.items c.in_ok-those_past.ensures)

pub returns-in_ok-advance-in-Done-clause-follows : goal.returns-in_ok-advance-in-Done-clause-follows
returns-in_ok-advance-in-Done-clause-follows g c = λ base most can.
    let p = passed_by c.args.table.now (g.L.Text.Content.bytes c.args.text.now) base most c.args.graph.now c.pass_place.new.graph c.args.place c.pass_place.new.sights c.in_ok-pass_place.field-0 c.in-Done.is
    (c.in_ok-pass_place.ensures.passes base most (can_pass c.args.table.now (g.L.Text.Content.bytes c.args.text.now) c.args.setting.now base most c.args.graph.now c.args.place c.args.frontier.now can c.as_slice-waiting.result.now c.as_slice-waiting.ensures.value c.those_at.new.here.items c.in_ok-those_at.ensures c.as_slice-here.result.now c.as_slice-here.ensures.value c.look_at.new.sights (c.in_ok-look_at.ensures.sights base c.args.place))) in
    subst (λ (n : Next). Follows c.args.table.now (g.L.Text.Content.bytes c.args.text.now) base most c.args.graph.now c.pass_place.new.graph c.args.place c.args.frontier.now c.advance.new.frontier c.pass_place.new.sights n) (sym c.as_next-next.ensures)
    (follows_next c.place_laws_hold.ensures c.args.table.now (g.L.Text.Content.bytes c.args.text.now) base most c.args.graph.now c.pass_place.new.graph c.args.place c.pass_place.new.sights p c.args.frontier.now c.advance.new.frontier c.in_ok-advance-in-Done.field-0
    (c.in_ok-advance-in-Done.ensures c.args.graph.now c.count-count.ensures.count p.followed.grows.stay (past_open c.args.graph.now c.args.place c.args.frontier.now.heads.items c.as_slice-waiting.result.now c.as_slice-waiting.ensures.value can.are_open c.those_past.new.past.items c.in_ok-those_past.ensures)))

pub returns-in-TooDeep-clause-follows : goal.returns-in-TooDeep-clause-follows
returns-in-TooDeep-clause-follows g c = λ base most can.
    deep_passed c.args.table.now (g.L.Text.Content.bytes c.args.text.now) base most c.args.graph.now c.pass_place.new.graph c.args.place c.pass_place.new.sights c.in_ok-pass_place.field-0 c.in-TooDeep.is
    (c.in_ok-pass_place.ensures.passes base most (can_pass c.args.table.now (g.L.Text.Content.bytes c.args.text.now) c.args.setting.now base most c.args.graph.now c.args.place c.args.frontier.now can c.as_slice-waiting.result.now c.as_slice-waiting.ensures.value c.those_at.new.here.items c.in_ok-those_at.ensures c.as_slice-here.result.now c.as_slice-here.ensures.value c.look_at.new.sights (c.in_ok-look_at.ensures.sights base c.args.place)))
