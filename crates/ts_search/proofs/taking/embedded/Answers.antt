use Rattle.std.proofs.Common.{refl, true}
use Rattle.ts_search.specs.Memory.{Told, WaysOf}
use Rattle.ts_search.specs.Sets.{SameWay}
use Rattle.ts_search.proofs.SetLemmas.{way_itself}
use Rattle.ts_search.proofs.YieldLemmas.{like_each, yields_cut, yields_exact}
use Rattle.ts_search.proofs.taking.embedded.Goals as goal

pub returns-then-not-own : goal.returns-then-not-own
returns-then-not-own c =
    yields_exact SameWay (Told c.args.wanted 0 (WaysOf c.args.siblings.now c.args.slots.now 0 0 true)) _ c.in_ok-found.found.items
    (like_each SameWay way_itself (Told c.args.wanted 0 (WaysOf c.args.siblings.now c.args.slots.now 0 0 true)) c.in_ok-found.found.items (λ f. (c.in_ok-found.ensures.only f, c.in_ok-found.ensures.all c.if-not-own.true f)))

pub returns-then-are_none : goal.returns-then-are_none
returns-then-are_none c =
    yields_exact SameWay (Told c.args.wanted 0 (WaysOf c.args.siblings.now c.args.slots.now 0 0 true)) _ c.in_ok-all.all.items
    (like_each SameWay way_itself (Told c.args.wanted 0 (WaysOf c.args.siblings.now c.args.slots.now 0 0 true)) c.in_ok-all.all.items c.in_ok-all.ensures)

pub returns : goal.returns
returns c = yields_cut SameWay way_itself (Told c.args.wanted 0 (WaysOf c.args.siblings.now c.args.slots.now 0 0 true)) _ _ _ true c.in_ok-found.found.items c.in_ok-found.ensures refl (λ h. let t = (rw c.as_slice.ensures.value at c.are_none.ensures).1 h in let f = c.if-are_none.false in cc)
