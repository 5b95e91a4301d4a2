use Rattle.std.proofs.Common.{◌≡◌, Bool, true, false, refl}
use Rattle.ts_script.specs.Drafts.{out_of_order, too_much}
use Rattle.ts_script.proofs.draft.Draft.verdict.Goals as goal

pub returns-then-not-is_in_order-clause-judged : goal.returns-then-not-is_in_order-clause-judged
returns-then-not-is_in_order-clause-judged c =
    λ before is. out_of_order (λ h. let e : false ≡ true = (c.if-not-is_in_order.ensures before is).1 h in cc)

pub returns-then-not-is_within_limits-clause-judged : goal.returns-then-not-is_within_limits-clause-judged
returns-then-not-is_within_limits-clause-judged c =
    λ before is. too_much ((c.if-not-is_in_order.ensures before is).0 refl)
    (λ h. let e : false ≡ true = (c.if-not-is_within_limits.ensures.limits before is).1 h in cc)
