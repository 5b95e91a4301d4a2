use Rattle.std.proofs.Common.{◌∙◌, sym, get_or, refl, subst, true≢false, List, arith}
use Rattle.std.specs.List.{Contains}
use Rattle.std.proofs.lemmas.List.{take_all}
use Rattle.ts_reductions.specs.declared.top.Top.{Top}
use Rattle.ts_places.proofs.SmallLemmas.{read_any, item_in}
use Rattle.ts_places.proofs.AllLemmas.{no_top}
use Rattle.ts_places.proofs.EndLemmas.{SeesUpTo, sees_none, sees_no, sees_yes, top_low, ends_more}
use Rattle.ts_places.proofs.ends.see_ends.Goals as goal

pub loop-top-init : goal.loop-top-init
loop-top-init c = sees_none c.args.table.now c.args.graph.now c.args.ends.now

pub accepts-requires : goal.accepts-requires
accepts-requires c =
    let r = c.requires in
    let tops = c.as_slice-top-items.result.now in
    let x = get_or tops c.loop-top.top-index no_top in
    let low = c.loop-top-test.true in
    record {
      there = top_low c.args.table.now c.stands.ensures r.0 r.1 c.args.graph.now r.2 c.args.sights.now r.3 x
          (subst (λ (l : List Top). Contains l x) c.as_slice-top-items.ensures.value (item_in tops c.loop-top.top-index x low (read_any tops c.loop-top.top-index no_top x low)));
    }

pub loop-top-preserved-then-not-accepts : goal.loop-top-preserved-then-not-accepts
loop-top-preserved-then-not-accepts c =
    let tops = c.as_slice-top-items.result.now in
    let x = get_or tops c.loop-top.top-index no_top in
    let low = c.loop-top-test.true in
    sees_no c.args.table.now c.args.graph.now tops c.loop-top.top-index x low (read_any tops c.loop-top.top-index no_top x low) c.args.ends.now c.loop-top.ends c.loop-top.invariant
    (λ has. let a = c.accepts.ensures.1 has in let b = c.if-not-accepts.true in true≢false (sym a ∙ b))

pub loop-top-preserved : goal.loop-top-preserved
loop-top-preserved c =
    let tops = c.as_slice-top-items.result.now in
    let x = get_or tops c.loop-top.top-index no_top in
    let low = c.loop-top-test.true in
    sees_yes c.args.table.now c.args.graph.now tops c.loop-top.top-index x low (read_any tops c.loop-top.top-index no_top x low) c.args.ends.now c.loop-top.ends c.loop-top.invariant
    (c.accepts.ensures.0 c.if-not-accepts.false) _ c.in_ok-push.ensures.items refl

pub returns : goal.returns
returns c = λ text base from look all early before.
    let tops = c.as_slice-top-items.result.now in
    let many = c.loop-top-test.false in
    let up = subst (λ (l : List Top). SeesUpTo c.args.table.now c.args.graph.now l c.args.ends.now c.loop-top.ends) (take_all c.loop-top.top-index tops (omega arith) ∙ c.as_slice-top-items.ensures.value) c.loop-top.invariant in
    ends_more c.args.table.now c.stands.ensures text base c.args.graph.now look c.args.sights.now all c.args.ends.now c.loop-top.ends _ up refl c.see_stop.ensures.mine c.see_stop.ensures.others c.see_stop.ensures.from from early before
