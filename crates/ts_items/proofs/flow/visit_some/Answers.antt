use Rattle.std.proofs.lemmas.Result.{on_ok_weaker}
use Rattle.ts_items.specs.Rows.{FromOne}
use Rattle.ts_items.specs.Flow.{Brought}
use Rattle.ts_items.proofs.GainLemmas.{gains_none, gains_same}
use Rattle.ts_items.proofs.FlowLemmas.{FromSome}
use Rattle.ts_items.proofs.flow.visit_some.Goals as goal

pub returns-in-Some-clause-gains : goal.returns-in-Some-clause-gains
returns-in-Some-clause-gains c = on_ok_weaker c.visit.result
    (λ g. gains_same (FromOne (Brought c.args.gives.now c.args.from.now) c.args.edges.now) (FromSome c.args.gives.now c.args.from.now c.args.edges.now) c.args.sets.now c.visit.new.sets g
    (λ y t e. ((c.in-Some._token, c.in-Some.ensures.some.1), e)) (λ y t h. h.1)) c.visit.ensures.gains

pub returns-in-None-clause-gains : goal.returns-in-None-clause-gains
returns-in-None-clause-gains c = gains_none (FromSome c.args.gives.now c.args.from.now c.args.edges.now) c.args.sets.now (λ y t h. c.in-None.ensures.none h.0.0 h.0.1)
