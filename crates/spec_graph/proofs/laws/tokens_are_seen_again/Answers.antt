use Rattle.spec_graph.proofs.SightLemmas.{Facts, sees_again}
use Rattle.spec_graph.proofs.laws.tokens_are_seen_again.Goals as goal

pub returns : goal.returns
returns c P fit states number left p earlier at read now place pad size s before behind move sees =
    let facts : Facts P = record { laws = c.laws_hold.ensures; fit = fit; states = states } in
    sees_again P facts number left p earlier at read now place pad size s before behind move sees
