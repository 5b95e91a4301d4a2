use Rattle.spec_crossing.proofs.TellLemmas.{some_told}
use Rattle.spec_crossing.proofs.laws.followed_graphs_tell.Goals as goal

pub returns : goal.returns
returns c P fit states ground rank most ranked heads links graph n whole last inside best before stuck counts weight falls none nowhere =
    some_told P (record { laws = c.laws_hold.ensures; fit = fit; states = states }) ground rank most ranked heads links graph n whole last inside best before stuck counts none nowhere c.something_is_seen.ensures weight falls
