use Rattle.spec_graph.proofs.BaseLemmas.{ground_base}
use Rattle.spec_crossing.proofs.ReadLemmas.{way_at, way_spans}
use Rattle.spec_crossing.proofs.laws.ways_are_read.Goals as goal

pub returns-clause-symbols : goal.returns-clause-symbols
returns-clause-symbols c P fit states ground heads links graph h place read way at down = way_at P (record { laws = c.laws_hold.ensures; fit = fit; states = states }) (ground_base P (record { laws = c.laws_hold.ensures; fit = fit; states = states }) ground) heads links graph h place read way at down

pub returns-clause-spans : goal.returns-clause-spans
returns-clause-spans c P fit states ground heads links graph h place read way at down = way_spans P (record { laws = c.laws_hold.ensures; fit = fit; states = states }) (ground_base P (record { laws = c.laws_hold.ensures; fit = fit; states = states }) ground) heads links graph h place read way at down
