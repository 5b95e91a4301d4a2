use Rattle.ts_glr.proofs.parsing.parse.Goals as goal

pub returns-clause-fresh : goal.returns-clause-fresh
returns-clause-fresh g c =
    let named = c.states_are_named.ensures.names c.args.table.now c.stands.ensures in
    (c.in_ok-outcome.ensures.fresh named.0 named.1 (λ place state t none. absurd none) (λ place state symbol s none. absurd none)).0
