use Rattle.spec_crossing.proofs.LeaveLemmas.{left_through}
use Rattle.spec_crossing.proofs.laws.runs_go_through.Goals as goal

pub returns : goal.returns
returns c P fit states k begun met rank most ranked heads links graph n whole early h place read way at alone only d w =
    left_through P (record { laws = c.laws_hold.ensures; fit = fit; states = states }) k begun met rank most ranked heads links graph n whole early h place read way at alone only d w
