use Rattle.std.proofs.Common.{arith}
use Rattle.std.proofs.lemmas.Option.{slice_get-get_or}
use Rattle.ts_search.proofs.HitLemmas.{hit_none, hit_past, hit_one}
use Rattle.ts_search.proofs.listing.add_match.Goals as goal

pub returns-in_default-clause-adds : goal.returns-in_default-clause-adds
returns-in_default-clause-adds g c = hit_none (g.K.Keep.kept c.args.keep.now) c.args.pattern c.args.siblings.now c.args.found _ c.in_default.is

pub returns-then-place-siblings-clause-adds : goal.returns-then-place-siblings-clause-adds
returns-then-place-siblings-clause-adds g c = hit_past (g.K.Keep.kept c.args.keep.now) c.args.pattern c.args.siblings.now c.args.found _ c.in-Some.place c.in-Some.is c.if-place-siblings.true

pub returns-clause-adds : goal.returns-clause-adds
returns-clause-adds g c =
    hit_one (g.K.Keep.kept c.args.keep.now) c.args.pattern c.args.siblings.now c.args.found c.one_order.ensures.captures _ _ c.in-Some.place _ c.in_order-captures.result c.in-Some.is
    (slice_get-get_or c.args.siblings.now c.in-Some.place 0 (omega (arith, c.if-place-siblings.false)))
    c.in_order-captures.ensures.members c.in_order-captures.ensures.order c.in_ok-put_kept.ensures.adds
