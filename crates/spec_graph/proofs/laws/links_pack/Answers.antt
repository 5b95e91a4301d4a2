use Rattle.spec_graph.specs.Laying.{from_start}
use Rattle.spec_graph.proofs.SightLemmas.{Facts}
use Rattle.spec_graph.proofs.GraphLemmas.{like, either}
use Rattle.spec_graph.proofs.BaseLemmas.{start_facts, start_base, ground_base}
use Rattle.spec_graph.proofs.laws.links_pack.Goals as goal

pub returns-clause-alike : goal.returns-clause-alike
returns-clause-alike c P fit states ground heads a b read other now then from to t u low high low2 high2 l m =
    let facts : Facts P = record { laws = c.laws_hold.ensures; fit = fit; states = states } in
    like P facts (ground_base P facts ground) heads a b read now other then from to t u
    low high low2 high2 l m

pub returns-clause-either : goal.returns-clause-either
returns-clause-either c P fit states ground heads a b read other now then from to t u low high low2 high2 l m =
    let facts : Facts P = record { laws = c.laws_hold.ensures; fit = fit; states = states } in
    either P facts (ground_base P facts ground) heads a b read now other then from to t u
    low high low2 high2 l m

pub returns-clause-deep : goal.returns-clause-deep
returns-clause-deep c P fit states heads a b read other now then from to t u low high low2 high2 l m =
    let facts : Facts P = record { laws = c.laws_hold.ensures; fit = fit; states = states } in
    either (from_start P) (start_facts P facts) (start_base P facts) heads a b read now other then from to t u
    low high low2 high2 l m
