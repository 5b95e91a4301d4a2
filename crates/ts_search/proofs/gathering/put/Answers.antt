use Rattle.ts_search.proofs.GatherLemmas.{gathers_full, gathers_one}
use Rattle.ts_search.proofs.gathering.put.Goals as goal

pub returns-then-is_full : goal.returns-then-is_full
returns-then-is_full c = gathers_full _ _ (c.is_full.ensures.full.0 c.if-is_full.true)

pub returns : goal.returns
returns c = gathers_one c.one_order.ensures.one_match c.args.one _ _ c.in_ok-insert.ensures.updates.0 c.in_ok-insert.ensures.updates.1 (λ h. let t = c.is_full.ensures.full.1 h in let f = c.if-is_full.false in cc)
