use Rattle.std.proofs.Common.{◌∙◌, ℕ, sym, ap, refl, subst, None, Some, ◌<◌, ◌≤◌, List, length, length-append, drop, arith}
use Rattle.std.specs.Global.{Vec}
use Rattle.ts_reductions.specs.declared.top.Top.{Top}
use Rattle.ts_places.specs.declared.seeking.Seek.{Seek}
use Rattle.ts_places.specs.declared.seeking.Due.{Due}
use Rattle.ts_places.specs.Seeking.{AreDue}
use Rattle.ts_places.specs.Sweeping.{IsSweptTo}
use Rattle.ts_places.proofs.SweepLemmas.{can_seek_by, heard, over, through, ready_by, done_by, deep_by, next_can, led_by, can_seek, were_due, due_on, from_new, back_low}
use Rattle.ts_places.proofs.sweeping.sweep_one.Goals as goal

pub next_key-requires : goal.next_key-requires
next_key-requires g c = let r = c.requires.ready in ((g.L.Text.Content.bytes c.args.text.now), r.0, c.args.sights.now.tops.items, can_seek_by c.reduction_laws_hold.ensures.due c.reduction_laws_hold.ensures.nodes c.graph_laws_hold.ensures.laying c.graph_laws_hold.ensures.leaves c.graph_laws_hold.ensures.look c.key_laws_hold.ensures c.args.table.now c.stands.ensures (g.L.Text.Content.bytes c.args.text.now) r.0 c.args.setting.now c.args.graph.now c.args.seek c.args.sights.now r.1 c.args.sights.now.tops.items refl, c.requires.due)

pub returns-in-None-clause-swept : goal.returns-in-None-clause-swept
returns-in-None-clause-swept g c = λ base most start can ranks swept. over c.reduction_laws_hold.ensures.due c.reduction_laws_hold.ensures.nodes c.graph_laws_hold.ensures.laying c.graph_laws_hold.ensures.leaves c.graph_laws_hold.ensures.look c.key_laws_hold.ensures c.args.table.now c.stands.ensures (g.L.Text.Content.bytes c.args.text.now) base c.args.setting.now c.args.graph.now c.args.seek c.args.sights.now can most ranks start swept (heard c.reduction_laws_hold.ensures.due c.reduction_laws_hold.ensures.nodes c.graph_laws_hold.ensures.laying c.graph_laws_hold.ensures.leaves c.graph_laws_hold.ensures.look c.key_laws_hold.ensures c.args.table.now c.stands.ensures (g.L.Text.Content.bytes c.args.text.now) base c.args.setting.now c.args.graph.now c.args.seek c.args.sights.now can c.args.sights.now.tops.items refl c.in_ok-next.next None c.in-None.is (λ ready. c.in_ok-next.ensures.next (g.L.Text.Content.bytes c.args.text.now) base c.args.sights.now.tops.items ready c.requires.due))

pub reduce_all-requires : goal.reduce_all-requires
reduce_all-requires g c = let r = c.requires.ready in ((g.L.Text.Content.bytes c.args.text.now), r.0, ready_by c.reduction_laws_hold.ensures.due c.reduction_laws_hold.ensures.nodes c.graph_laws_hold.ensures.laying c.graph_laws_hold.ensures.leaves c.graph_laws_hold.ensures.look c.key_laws_hold.ensures c.args.table.now c.stands.ensures (g.L.Text.Content.bytes c.args.text.now) r.0 c.args.setting.now c.args.graph.now c.args.seek c.args.sights.now r.1 c.in-Some.key (heard c.reduction_laws_hold.ensures.due c.reduction_laws_hold.ensures.nodes c.graph_laws_hold.ensures.laying c.graph_laws_hold.ensures.leaves c.graph_laws_hold.ensures.look c.key_laws_hold.ensures c.args.table.now c.stands.ensures (g.L.Text.Content.bytes c.args.text.now) r.0 c.args.setting.now c.args.graph.now c.args.seek c.args.sights.now r.1 c.args.sights.now.tops.items refl c.in_ok-next.next (Some c.in-Some.key) c.in-Some.is (λ ready. c.in_ok-next.ensures.next (g.L.Text.Content.bytes c.args.text.now) r.0 c.args.sights.now.tops.items ready c.requires.due)) c.as_slice-tops.result.now c.as_slice-tops.ensures.value)

pub returns-in-TooDeep-clause-swept : goal.returns-in-TooDeep-clause-swept
returns-in-TooDeep-clause-swept g c = λ base most start can ranks swept. (deep_by c.reduction_laws_hold.ensures.due c.reduction_laws_hold.ensures.nodes c.graph_laws_hold.ensures.laying c.graph_laws_hold.ensures.leaves c.graph_laws_hold.ensures.look c.key_laws_hold.ensures c.args.table.now c.stands.ensures (g.L.Text.Content.bytes c.args.text.now) base c.args.setting.now c.args.graph.now c.args.seek c.args.sights.now can c.in-Some.key (heard c.reduction_laws_hold.ensures.due c.reduction_laws_hold.ensures.nodes c.graph_laws_hold.ensures.laying c.graph_laws_hold.ensures.leaves c.graph_laws_hold.ensures.look c.key_laws_hold.ensures c.args.table.now c.stands.ensures (g.L.Text.Content.bytes c.args.text.now) base c.args.setting.now c.args.graph.now c.args.seek c.args.sights.now can c.args.sights.now.tops.items refl c.in_ok-next.next (Some c.in-Some.key) c.in-Some.is (λ ready. c.in_ok-next.ensures.next (g.L.Text.Content.bytes c.args.text.now) base c.args.sights.now.tops.items ready c.requires.due)) c.as_slice-tops.result.now c.as_slice-tops.ensures.value c.reduce_all.new.graph c.in_ok-reduce_all-in-Some.field-0 c.in-TooDeep.is (c.in_ok-reduce_all-in-Some.ensures.reduces (g.L.Text.Content.bytes c.args.text.now) base))

pub look_new-requires-clause-count : goal.look_new-requires-clause-count
look_new-requires-clause-count g c = c.requires.ready.1.seen.sights.count

pub look_new-requires-clause-sound : goal.look_new-requires-clause-sound
look_new-requires-clause-sound g c = let r = (done_by c.reduction_laws_hold.ensures.due c.reduction_laws_hold.ensures.nodes c.graph_laws_hold.ensures.laying c.graph_laws_hold.ensures.leaves c.graph_laws_hold.ensures.look c.key_laws_hold.ensures c.args.table.now c.stands.ensures (g.L.Text.Content.bytes c.args.text.now) c.requires.ready.0 c.args.setting.now c.args.graph.now c.args.seek c.args.sights.now c.requires.ready.1 c.in-Some.key (heard c.reduction_laws_hold.ensures.due c.reduction_laws_hold.ensures.nodes c.graph_laws_hold.ensures.laying c.graph_laws_hold.ensures.leaves c.graph_laws_hold.ensures.look c.key_laws_hold.ensures c.args.table.now c.stands.ensures (g.L.Text.Content.bytes c.args.text.now) c.requires.ready.0 c.args.setting.now c.args.graph.now c.args.seek c.args.sights.now c.requires.ready.1 c.args.sights.now.tops.items refl c.in_ok-next.next (Some c.in-Some.key) c.in-Some.is (λ ready. c.in_ok-next.ensures.next (g.L.Text.Content.bytes c.args.text.now) c.requires.ready.0 c.args.sights.now.tops.items ready c.requires.due)) c.as_slice-tops.result.now c.as_slice-tops.ensures.value c.reduce_all.new.graph c.in_ok-reduce_all-in-Some.field-0 c.in-Done.is (c.in_ok-reduce_all-in-Some.ensures.reduces (g.L.Text.Content.bytes c.args.text.now) c.requires.ready.0)) in (c.requires.ready.0, r.sound)

pub returns-in_ok-add_dues-in-Done-clause-swept : goal.returns-in_ok-add_dues-in-Done-clause-swept
returns-in_ok-add_dues-in-Done-clause-swept g c = λ base most start can ranks swept.
    subst (λ (n : ℕ). IsSweptTo c.args.table.now (g.L.Text.Content.bytes c.args.text.now) base most start c.reduce_all.new.graph c.args.seek.look n) (sym (ap (λ (x : Seek). x.below) c.after-next.ensures))
    (through c.reduction_laws_hold.ensures.due c.reduction_laws_hold.ensures.nodes c.graph_laws_hold.ensures.laying c.graph_laws_hold.ensures.leaves c.graph_laws_hold.ensures.look c.key_laws_hold.ensures c.args.table.now c.stands.ensures (g.L.Text.Content.bytes c.args.text.now) base c.args.setting.now c.args.graph.now c.args.seek c.args.sights.now can most ranks start swept c.in-Some.key (heard c.reduction_laws_hold.ensures.due c.reduction_laws_hold.ensures.nodes c.graph_laws_hold.ensures.laying c.graph_laws_hold.ensures.leaves c.graph_laws_hold.ensures.look c.key_laws_hold.ensures c.args.table.now c.stands.ensures (g.L.Text.Content.bytes c.args.text.now) base c.args.setting.now c.args.graph.now c.args.seek c.args.sights.now can c.args.sights.now.tops.items refl c.in_ok-next.next (Some c.in-Some.key) c.in-Some.is (λ ready. c.in_ok-next.ensures.next (g.L.Text.Content.bytes c.args.text.now) base c.args.sights.now.tops.items ready c.requires.due)) c.reduce_all.new.graph (done_by c.reduction_laws_hold.ensures.due c.reduction_laws_hold.ensures.nodes c.graph_laws_hold.ensures.laying c.graph_laws_hold.ensures.leaves c.graph_laws_hold.ensures.look c.key_laws_hold.ensures c.args.table.now c.stands.ensures (g.L.Text.Content.bytes c.args.text.now) base c.args.setting.now c.args.graph.now c.args.seek c.args.sights.now can c.in-Some.key (heard c.reduction_laws_hold.ensures.due c.reduction_laws_hold.ensures.nodes c.graph_laws_hold.ensures.laying c.graph_laws_hold.ensures.leaves c.graph_laws_hold.ensures.look c.key_laws_hold.ensures c.args.table.now c.stands.ensures (g.L.Text.Content.bytes c.args.text.now) base c.args.setting.now c.args.graph.now c.args.seek c.args.sights.now can c.args.sights.now.tops.items refl c.in_ok-next.next (Some c.in-Some.key) c.in-Some.is (λ ready. c.in_ok-next.ensures.next (g.L.Text.Content.bytes c.args.text.now) base c.args.sights.now.tops.items ready c.requires.due)) c.as_slice-tops.result.now c.as_slice-tops.ensures.value c.reduce_all.new.graph c.in_ok-reduce_all-in-Some.field-0 c.in-Done.is (c.in_ok-reduce_all-in-Some.ensures.reduces (g.L.Text.Content.bytes c.args.text.now) base)))

pub returns-in_ok-add_dues-in-Done-clause-on : goal.returns-in_ok-add_dues-in-Done-clause-on
returns-in_ok-add_dues-in-Done-clause-on g c = λ base can.
    let r = (done_by c.reduction_laws_hold.ensures.due c.reduction_laws_hold.ensures.nodes c.graph_laws_hold.ensures.laying c.graph_laws_hold.ensures.leaves c.graph_laws_hold.ensures.look c.key_laws_hold.ensures c.args.table.now c.stands.ensures (g.L.Text.Content.bytes c.args.text.now) base c.args.setting.now c.args.graph.now c.args.seek c.args.sights.now can c.in-Some.key (heard c.reduction_laws_hold.ensures.due c.reduction_laws_hold.ensures.nodes c.graph_laws_hold.ensures.laying c.graph_laws_hold.ensures.leaves c.graph_laws_hold.ensures.look c.key_laws_hold.ensures c.args.table.now c.stands.ensures (g.L.Text.Content.bytes c.args.text.now) base c.args.setting.now c.args.graph.now c.args.seek c.args.sights.now can c.args.sights.now.tops.items refl c.in_ok-next.next (Some c.in-Some.key) c.in-Some.is (λ ready. c.in_ok-next.ensures.next (g.L.Text.Content.bytes c.args.text.now) base c.args.sights.now.tops.items ready c.requires.due)) c.as_slice-tops.result.now c.as_slice-tops.ensures.value c.reduce_all.new.graph c.in_ok-reduce_all-in-Some.field-0 c.in-Done.is (c.in_ok-reduce_all-in-Some.ensures.reduces (g.L.Text.Content.bytes c.args.text.now) base)) in
    let next = (heard c.reduction_laws_hold.ensures.due c.reduction_laws_hold.ensures.nodes c.graph_laws_hold.ensures.laying c.graph_laws_hold.ensures.leaves c.graph_laws_hold.ensures.look c.key_laws_hold.ensures c.args.table.now c.stands.ensures (g.L.Text.Content.bytes c.args.text.now) base c.args.setting.now c.args.graph.now c.args.seek c.args.sights.now can c.args.sights.now.tops.items refl c.in_ok-next.next (Some c.in-Some.key) c.in-Some.is (λ ready. c.in_ok-next.ensures.next (g.L.Text.Content.bytes c.args.text.now) base c.args.sights.now.tops.items ready c.requires.due)) in
    let led = led_by c.reduction_laws_hold.ensures.due c.reduction_laws_hold.ensures.nodes c.graph_laws_hold.ensures.laying c.graph_laws_hold.ensures.leaves c.graph_laws_hold.ensures.look c.key_laws_hold.ensures c.args.table.now c.stands.ensures (g.L.Text.Content.bytes c.args.text.now) base c.args.setting.now c.args.graph.now c.args.seek c.args.sights.now can c.in-Some.key next c.as_slice-tops.result.now c.as_slice-tops.ensures.value c.reduce_all.new.room c.in_ok-reduce_all-in-Some.field-0 c.in-Done.is (c.in_ok-reduce_all-in-Some.ensures.led (g.L.Text.Content.bytes c.args.text.now) base) in (
      next_can c.reduction_laws_hold.ensures.due c.reduction_laws_hold.ensures.nodes c.graph_laws_hold.ensures.laying c.graph_laws_hold.ensures.leaves c.graph_laws_hold.ensures.look c.key_laws_hold.ensures c.args.table.now c.stands.ensures (g.L.Text.Content.bytes c.args.text.now) base c.args.setting.now c.args.graph.now c.args.seek c.args.sights.now can c.in-Some.key next c.reduce_all.new.graph c.look_new.new.sights r (c.in_ok-look_new-in-Done.ensures.sights base c.args.graph.now c.count-heads.ensures.count r.grows.stay r.sound can.seen led),
      subst (λ (n : ℕ). n < c.args.seek.below) (sym (ap (λ (x : Seek). x.below) c.after-next.ensures)) next.0.after,
    )

pub split_at-requires : goal.split_at-requires
split_at-requires g c =
    let more = c.in_ok-look_new-in-Done.ensures.more in
    let seam = ap (λ (l : List Top). length l) more.1 in
    let same = ap (λ (l : List Top). length l) c.as_slice.ensures.value in
    let seen = c.len-seen.ensures in
    omega (arith, seam, same, seen, length-append c.args.sights.now.tops.items more.0)

pub add_dues-requires : goal.add_dues-requires
add_dues-requires g c = λ top there.
    let base = c.requires.ready.0 in
    let can = c.requires.ready.1 in
    let r = (done_by c.reduction_laws_hold.ensures.due c.reduction_laws_hold.ensures.nodes c.graph_laws_hold.ensures.laying c.graph_laws_hold.ensures.leaves c.graph_laws_hold.ensures.look c.key_laws_hold.ensures c.args.table.now c.stands.ensures (g.L.Text.Content.bytes c.args.text.now) base c.args.setting.now c.args.graph.now c.args.seek c.args.sights.now can c.in-Some.key (heard c.reduction_laws_hold.ensures.due c.reduction_laws_hold.ensures.nodes c.graph_laws_hold.ensures.laying c.graph_laws_hold.ensures.leaves c.graph_laws_hold.ensures.look c.key_laws_hold.ensures c.args.table.now c.stands.ensures (g.L.Text.Content.bytes c.args.text.now) base c.args.setting.now c.args.graph.now c.args.seek c.args.sights.now can c.args.sights.now.tops.items refl c.in_ok-next.next (Some c.in-Some.key) c.in-Some.is (λ ready. c.in_ok-next.ensures.next (g.L.Text.Content.bytes c.args.text.now) base c.args.sights.now.tops.items ready c.requires.due)) c.as_slice-tops.result.now c.as_slice-tops.ensures.value c.reduce_all.new.graph c.in_ok-reduce_all-in-Some.field-0 c.in-Done.is (c.in_ok-reduce_all-in-Some.ensures.reduces (g.L.Text.Content.bytes c.args.text.now) base)) in
    let next = (heard c.reduction_laws_hold.ensures.due c.reduction_laws_hold.ensures.nodes c.graph_laws_hold.ensures.laying c.graph_laws_hold.ensures.leaves c.graph_laws_hold.ensures.look c.key_laws_hold.ensures c.args.table.now c.stands.ensures (g.L.Text.Content.bytes c.args.text.now) base c.args.setting.now c.args.graph.now c.args.seek c.args.sights.now can c.args.sights.now.tops.items refl c.in_ok-next.next (Some c.in-Some.key) c.in-Some.is (λ ready. c.in_ok-next.ensures.next (g.L.Text.Content.bytes c.args.text.now) base c.args.sights.now.tops.items ready c.requires.due)) in
    let led = led_by c.reduction_laws_hold.ensures.due c.reduction_laws_hold.ensures.nodes c.graph_laws_hold.ensures.laying c.graph_laws_hold.ensures.leaves c.graph_laws_hold.ensures.look c.key_laws_hold.ensures c.args.table.now c.stands.ensures (g.L.Text.Content.bytes c.args.text.now) base c.args.setting.now c.args.graph.now c.args.seek c.args.sights.now can c.in-Some.key next c.as_slice-tops.result.now c.as_slice-tops.ensures.value c.reduce_all.new.room c.in_ok-reduce_all-in-Some.field-0 c.in-Done.is (c.in_ok-reduce_all-in-Some.ensures.led (g.L.Text.Content.bytes c.args.text.now) base) in
    let after = next_can c.reduction_laws_hold.ensures.due c.reduction_laws_hold.ensures.nodes c.graph_laws_hold.ensures.laying c.graph_laws_hold.ensures.leaves c.graph_laws_hold.ensures.look c.key_laws_hold.ensures c.args.table.now c.stands.ensures (g.L.Text.Content.bytes c.args.text.now) base c.args.setting.now c.args.graph.now c.args.seek c.args.sights.now can c.in-Some.key next c.reduce_all.new.graph c.look_new.new.sights r (c.in_ok-look_new-in-Done.ensures.sights base c.args.graph.now c.count-heads.ensures.count r.grows.stay r.sound can.seen led) in
    back_low c.graph_laws_hold.ensures.look c.args.table.now (g.L.Text.Content.bytes c.args.text.now) base c.args.setting.now c.reduce_all.new.graph c.args.seek.look c.look_new.new.sights after
    _ c.as_slice.result.now c.split_at.result.1.now c.as_slice.ensures.value c.split_at.ensures.back top there

pub returns-in_ok-add_dues-in-Done-clause-due : goal.returns-in_ok-add_dues-in-Done-clause-due
returns-in_ok-add_dues-in-Done-clause-due g c = λ base can.
    let r = (done_by c.reduction_laws_hold.ensures.due c.reduction_laws_hold.ensures.nodes c.graph_laws_hold.ensures.laying c.graph_laws_hold.ensures.leaves c.graph_laws_hold.ensures.look c.key_laws_hold.ensures c.args.table.now c.stands.ensures (g.L.Text.Content.bytes c.args.text.now) base c.args.setting.now c.args.graph.now c.args.seek c.args.sights.now can c.in-Some.key (heard c.reduction_laws_hold.ensures.due c.reduction_laws_hold.ensures.nodes c.graph_laws_hold.ensures.laying c.graph_laws_hold.ensures.leaves c.graph_laws_hold.ensures.look c.key_laws_hold.ensures c.args.table.now c.stands.ensures (g.L.Text.Content.bytes c.args.text.now) base c.args.setting.now c.args.graph.now c.args.seek c.args.sights.now can c.args.sights.now.tops.items refl c.in_ok-next.next (Some c.in-Some.key) c.in-Some.is (λ ready. c.in_ok-next.ensures.next (g.L.Text.Content.bytes c.args.text.now) base c.args.sights.now.tops.items ready c.requires.due)) c.as_slice-tops.result.now c.as_slice-tops.ensures.value c.reduce_all.new.graph c.in_ok-reduce_all-in-Some.field-0 c.in-Done.is (c.in_ok-reduce_all-in-Some.ensures.reduces (g.L.Text.Content.bytes c.args.text.now) base)) in
    let next = (heard c.reduction_laws_hold.ensures.due c.reduction_laws_hold.ensures.nodes c.graph_laws_hold.ensures.laying c.graph_laws_hold.ensures.leaves c.graph_laws_hold.ensures.look c.key_laws_hold.ensures c.args.table.now c.stands.ensures (g.L.Text.Content.bytes c.args.text.now) base c.args.setting.now c.args.graph.now c.args.seek c.args.sights.now can c.args.sights.now.tops.items refl c.in_ok-next.next (Some c.in-Some.key) c.in-Some.is (λ ready. c.in_ok-next.ensures.next (g.L.Text.Content.bytes c.args.text.now) base c.args.sights.now.tops.items ready c.requires.due)) in
    let ready = can_seek c.reduction_laws_hold.ensures.due c.reduction_laws_hold.ensures.nodes c.graph_laws_hold.ensures.laying c.graph_laws_hold.ensures.leaves c.graph_laws_hold.ensures.look c.key_laws_hold.ensures c.args.table.now c.stands.ensures (g.L.Text.Content.bytes c.args.text.now) base c.args.setting.now c.args.graph.now c.args.seek c.args.sights.now can in
    let kept = c.in_ok-next.ensures.dues (g.L.Text.Content.bytes c.args.text.now) base c.args.sights.now.tops.items ready c.requires.due in
    let here : AreDue c.args.table.now c.args.graph.now c.args.seek c.args.sights.now.tops.items c.look_new.new.kept.dues.items =
    subst (λ (l : List Due). AreDue c.args.table.now c.args.graph.now c.args.seek c.args.sights.now.tops.items l) (sym (ap (λ (v : Vec Due). v.items) c.in_ok-look_new-in-Done.ensures.dues)) kept in
    let later : c.after-next.result.below ≤ c.args.seek.below = (let e = ap (λ (s : Seek). s.below) c.after-next.ensures in let lt = next.0.after in omega (arith, e, lt)) in
    let were = were_due c.args.table.now c.args.graph.now c.reduce_all.new.graph r.grows c.count-heads.ensures.once c.args.seek c.after-next.result (sym (ap (λ (s : Seek). s.look) c.after-next.ensures)) later c.args.sights.now.tops.items c.look_new.new.kept.dues.items here
    (λ top there. let x = ready.seen.each top there in (x.at.head, x.at.is)) c.lead_from-stay.result (λ e. from_new c.reduce_all.new.graph.links (length c.args.graph.now.links) (length c.args.graph.now.heads) c.link_count-links.result c.count-heads.result c.link_count-links.ensures c.count-heads.ensures.count c.lead_from-stay.result e c.lead_from-stay.ensures) in
    due_on c.args.table.now c.args.graph.now c.reduce_all.new.graph r.grows c.count-heads.ensures.once c.args.seek c.after-next.result (sym (ap (λ (s : Seek). s.look) c.after-next.ensures)) later c.args.sights.now.tops.items c.look_new.new.kept.dues.items here
    (λ top there. let x = ready.seen.each top there in (x.at.head, x.at.is)) c.lead_from-stay.result (λ e. from_new c.reduce_all.new.graph.links (length c.args.graph.now.links) (length c.args.graph.now.heads) c.link_count-links.result c.count-heads.result c.link_count-links.ensures c.count-heads.ensures.count c.lead_from-stay.result e c.lead_from-stay.ensures)
    _ c.after-next.ensures c.forget.new.dues.items c.add_dues.new.dues.items (c.forget.ensures c.args.table.now c.args.graph.now c.reduce_all.new.graph c.args.seek c.args.sights.now.tops.items were) c.look_new.new.sights.tops.items c.split_at.result.1.now c.in_ok-look_new-in-Done.ensures.more
    (c.split_at.ensures.back ∙ ap (λ (n : ℕ). drop n c.as_slice.result.now) (c.len-seen.ensures ∙ c.args.sights.now.tops.ok.0) ∙ ap (λ (l : List Top). drop (length c.args.sights.now.tops.items) l) c.as_slice.ensures.value) (c.in_ok-add_dues-in-Done.ensures c.after-next.result)
