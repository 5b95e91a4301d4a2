use Rattle.std.proofs.Common.{arith, sym, ◌∙◌}
use Rattle.std.proofs.lemmas.Option.{slice_get-get_or}
use Rattle.ts_search.proofs.LoneLemmas.{before_more, before_none, tied_at, tied_loose, tied_none}
use Rattle.ts_search.proofs.anchors.tied_end.Goals as goal

pub returns-then-not-tied-clause-places : goal.returns-then-not-tied-clause-places
returns-then-not-tied-clause-places c = tied_loose c.args.sight.now.nodes c.args.siblings.now c.args.tied c.if-not-tied.true

pub loop-place-init : goal.loop-place-init
loop-place-init c = before_none c.args.sight.now.nodes c.args.siblings.now

pub loop-place-preserved : goal.loop-place-preserved
loop-place-preserved c = before_more c.args.sight.now.nodes c.args.siblings.now c.loop-place.place _ (slice_get-get_or c.args.siblings.now c.loop-place.place 0 (omega (arith, c.loop-place-test.true))) (sym c.is_named.ensures ∙ c.if-is_named.false) c.loop-place.invariant

pub returns-then-is_named-clause-places : goal.returns-then-is_named-clause-places
returns-then-is_named-clause-places c = tied_at c.args.sight.now.nodes c.args.siblings.now c.args.tied c.loop-place.place _ c.if-not-tied.false (slice_get-get_or c.args.siblings.now c.loop-place.place 0 (omega (arith, c.loop-place-test.true))) (sym c.is_named.ensures ∙ c.if-is_named.true) c.loop-place.invariant

pub returns-clause-places : goal.returns-clause-places
returns-clause-places c = tied_none c.args.sight.now.nodes c.args.siblings.now c.args.tied c.loop-place.place (omega (arith, c.loop-place-test.false)) c.loop-place.invariant
