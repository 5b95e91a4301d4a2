use Rattle.std.proofs.Common.{sym, subst, refl, length}
use Rattle.std.proofs.lemmas.Option.{slice_get_within}
use Rattle.ts_graph.proofs.LatestLemmas.{not_later}
use Rattle.ts_reductions.proofs.AddLemmas.{in_some, in_none}
use Rattle.ts_reductions.proofs.CallLemmas.{ends_of}
use Rattle.ts_places.specs.declared.seeking.Sought.{Sought}
use Rattle.ts_places.specs.Seeking.{batch_at, SeeksDue}
use Rattle.ts_places.specs.Turns.{turn_of, past}
use Rattle.ts_places.proofs.SeekLemmas.{nothing_turn, no_turn, none_first, nothing_end, no_end, first_end, latest_key}
use Rattle.ts_places.proofs.seeking.seek_due.Goals as goal

pub wanted-wanted-requires : goal.wanted-wanted-requires
wanted-wanted-requires c =
    let r = c.requires in
    let e = ends_of c.reduction_laws_hold.ensures.due c.args.table.now c.stands.ensures r.0 c.args.setting.now c.args.graph.now (batch_at c.args.seek.look 0 0) c.args.due.top c.args.due.number r.1 r.2 in
    (c.args.table.now, length r.0, e.left, e.production, r.1.setting, e.at)

pub latest_end-requires : goal.latest_end-requires
latest_end-requires c = let r = c.requires in slice_get_within c.args.graph.now.heads c.args.due.top.head r.1.seen.at.head r.1.seen.at.is

pub returns-in_default : goal.returns-in_default
returns-in_default c = λ text ready has.
    let e = ends_of c.reduction_laws_hold.ensures.due c.args.table.now c.stands.ensures text c.args.setting.now c.args.graph.now (batch_at c.args.seek.look 0 0) c.args.due.top c.args.due.number ready has in
    let w = c.wanted-wanted.ensures c.args.table.now (length text) e.left e.production ready.setting e.at in
    subst (λ (s : Sought). SeeksDue c.args.table.now c.args.graph.now c.args.seek c.args.due c.args.before s) (sym c.with_first.ensures)
    (record {
      top_is = refl;
      number_is = refl;
      first = nothing_turn c.args.table.now c.args.graph.now c.args.seek c.args.due.top c.args.due.number has e.left e.production e.at c.wanted-wanted.result w c.in_default.ensures;
      seeks = no_turn c.args.table.now c.args.graph.now c.args.seek c.args.due.top c.args.due.number has e.left e.production e.at c.wanted-wanted.result w c.args.before c.in_default.ensures;
    })

pub returns-then-not-may_come_first : goal.returns-then-not-may_come_first
returns-then-not-may_come_first c = λ text ready has.
    let e = ends_of c.reduction_laws_hold.ensures.due c.args.table.now c.stands.ensures text c.args.setting.now c.args.graph.now (batch_at c.args.seek.look 0 0) c.args.due.top c.args.due.number ready has in
    let w = c.wanted-wanted.ensures c.args.table.now (length text) e.left e.production ready.setting e.at in
    subst (λ (s : Sought). SeeksDue c.args.table.now c.args.graph.now c.args.seek c.args.due c.args.before s) (sym c.with_first-then-not-may_come_first.ensures)
    (record {
      top_is = refl;
      number_is = refl;
      first = tt;
      seeks = none_first c.args.table.now c.args.graph.now c.args.seek c.args.due.top c.args.due.number has e.left e.production e.at c.wanted-wanted.result w c.in-Some.most c.in-Some.ensures c.args.before
          (not_later (past c.args.before) (turn_of c.in-Some.most c.wanted-wanted.result.rank) c.if-not-may_come_first.ensures.1);
    })

pub returns-in-Some-2 : goal.returns-in-Some-2
returns-in-Some-2 c = λ text ready has.
    let e = ends_of c.reduction_laws_hold.ensures.due c.args.table.now c.stands.ensures text c.args.setting.now c.args.graph.now (batch_at c.args.seek.look 0 0) c.args.due.top c.args.due.number ready has in
    let w = c.wanted-wanted.ensures c.args.table.now (length text) e.left e.production ready.setting e.at in
    let latest = in_some _ _ c.in_ok-begins.field-0 c.in-Some-2.begins c.in-Some-2.is c.in_ok-begins.ensures in
    subst (λ (s : Sought). SeeksDue c.args.table.now c.args.graph.now c.args.seek c.args.due c.args.before s) (sym c.with_first-in-Some-2.ensures)
    (record {
      top_is = refl;
      number_is = refl;
      first = first_end c.args.table.now c.args.graph.now c.args.seek c.args.due.top c.args.due.number has e.left e.production e.at c.wanted-wanted.result w c.in-Some.most c.in-Some.ensures c.in-Some-2.begins latest;
      seeks = latest_key c.args.table.now c.args.graph.now c.args.seek c.args.due.top c.args.due.number has e.left e.production e.at c.wanted-wanted.result w c.in-Some.most c.in-Some.ensures c.in-Some-2.begins latest c.args.before c.sooner-found.result c.sooner-found.ensures;
    })

pub returns-in-None : goal.returns-in-None
returns-in-None c = λ text ready has.
    let e = ends_of c.reduction_laws_hold.ensures.due c.args.table.now c.stands.ensures text c.args.setting.now c.args.graph.now (batch_at c.args.seek.look 0 0) c.args.due.top c.args.due.number ready has in
    let w = c.wanted-wanted.ensures c.args.table.now (length text) e.left e.production ready.setting e.at in
    let none = in_none _ _ c.in_ok-begins.field-0 c.in-None.is c.in_ok-begins.ensures in
    subst (λ (s : Sought). SeeksDue c.args.table.now c.args.graph.now c.args.seek c.args.due c.args.before s) (sym c.with_first-in-None.ensures)
    (record {
      top_is = refl;
      number_is = refl;
      first = nothing_end c.args.table.now c.args.graph.now c.args.seek c.args.due.top c.args.due.number has e.left e.production e.at c.wanted-wanted.result w c.in-Some.most c.in-Some.ensures none;
      seeks = no_end c.args.table.now c.args.graph.now c.args.seek c.args.due.top c.args.due.number has e.left e.production e.at c.wanted-wanted.result w c.in-Some.most c.in-Some.ensures c.args.before none;
    })
