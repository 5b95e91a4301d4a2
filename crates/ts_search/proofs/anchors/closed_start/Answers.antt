use Rattle.std.proofs.Common.{arith, sym, refl, ◌∙◌, ◌-◌, length}
use Rattle.std.proofs.lemmas.Option.{slice_get-get_or}
use Rattle.ts_search.proofs.LoneLemmas.{after_more, after_none, closed_at, closed_loose, closed_none}
use Rattle.ts_search.proofs.anchors.closed_start.Goals as goal

pub returns-then-not-closed : goal.returns-then-not-closed
returns-then-not-closed c = closed_loose c.args.sight.now.nodes c.args.siblings.now c.args.closed c.if-not-closed.true

pub loop-after-init : goal.loop-after-init
loop-after-init c = after_none c.args.sight.now.nodes c.args.siblings.now

pub loop-after-preserved : goal.loop-after-preserved
loop-after-preserved c =
    after_more c.args.sight.now.nodes c.args.siblings.now c.loop-after.after (length c.args.siblings.now - 1 - c.loop-after.after) _ c.loop-after-test.true refl
    (slice_get-get_or c.args.siblings.now (length c.args.siblings.now - 1 - c.loop-after.after) 0 (omega (arith, c.loop-after-test.true)))
    (sym c.is_named.ensures ∙ c.if-is_named.false) c.loop-after.invariant

pub returns-then-is_named : goal.returns-then-is_named
returns-then-is_named c =
    closed_at c.args.sight.now.nodes c.args.siblings.now c.args.closed c.loop-after.after (length c.args.siblings.now - 1 - c.loop-after.after) _ c.if-not-closed.false c.loop-after-test.true refl
    (slice_get-get_or c.args.siblings.now (length c.args.siblings.now - 1 - c.loop-after.after) 0 (omega (arith, c.loop-after-test.true)))
    (sym c.is_named.ensures ∙ c.if-is_named.true) c.loop-after.invariant

pub returns : goal.returns
returns c = closed_none c.args.sight.now.nodes c.args.siblings.now c.args.closed c.loop-after.after (omega (arith, c.loop-after-test.false)) c.loop-after.invariant
