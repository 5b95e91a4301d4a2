use Rattle.spec_graph.proofs.SightLemmas.{Facts}
use Rattle.spec_graph.proofs.AskedLemmas.{asked}
use Rattle.spec_graph.proofs.BaseLemmas.{ground_base}
use Rattle.spec_graph.proofs.laws.reductions_are_due.Goals as goal

pub returns : goal.returns
returns c P fit states ground rank heads links graph k number left p h e b outer inner read s pad size seen sees stays is ranked lifted extras taken_off some_taken begins ends count stands =
    let facts : Facts P = record { laws = c.laws_hold.ensures; fit = fit; states = states } in
    asked P facts (ground_base P facts ground) heads links graph rank k number left p h e b outer inner read s pad size seen sees stays is ranked lifted extras taken_off some_taken begins ends count stands
