use Rattle.spec_graph.proofs.GroundLemmas.{graph_start}
use Rattle.spec_graph.proofs.OutcomeLemmas.{accepts_sound, stops_sound, deep_sound}
use Rattle.spec_graph.proofs.laws.graphs_are_sound.Goals as goal

pub returns-clause-start : goal.returns-clause-start
returns-clause-start c P fit states met heads links graph = graph_start P (record { laws = c.laws_hold.ensures; fit = fit; states = states }) met heads links graph

pub returns-clause-accepts : goal.returns-clause-accepts
returns-clause-accepts c P fit states met heads links graph t a = accepts_sound P (record { laws = c.laws_hold.ensures; fit = fit; states = states }) met heads links graph t a

pub returns-clause-stops : goal.returns-clause-stops
returns-clause-stops c P fit states met heads links graph stop a = stops_sound P (record { laws = c.laws_hold.ensures; fit = fit; states = states }) met heads links graph stop a

pub returns-clause-deep : goal.returns-clause-deep
returns-clause-deep c P fit states met rank heads links graph d = deep_sound P (record { laws = c.laws_hold.ensures; fit = fit; states = states }) met heads links graph rank d
