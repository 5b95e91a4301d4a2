use Rattle.spec_graph.proofs.SightLemmas.{Facts}
use Rattle.spec_graph.proofs.BaseLemmas.{through_stack, through_run, through_reading, through_base}
use Rattle.spec_graph.proofs.OutcomeLemmas.{covered, none_deep, accepts_whole, stops_whole}
use Rattle.spec_graph.proofs.laws.whole_graphs_have_all.Goals as goal

pub returns-clause-way : goal.returns-clause-way
returns-clause-way c P fit states k begun met rank most ranked heads links key graph whole last inside d w =
    let facts : Facts P = record { laws = c.laws_hold.ensures; fit = fit; states = states } in
    covered P facts (through_base P facts k begun met d w) heads links graph (through_stack P facts k begun met d w) (through_reading P facts k begun met d w) (through_run P facts k begun met d w) rank most ranked key whole last inside d w.run

pub returns-clause-deep : goal.returns-clause-deep
returns-clause-deep c P fit states k begun met rank most ranked heads links key graph whole last inside d w deep =
    let facts : Facts P = record { laws = c.laws_hold.ensures; fit = fit; states = states } in
    none_deep P facts (through_base P facts k begun met d w) heads links graph (through_stack P facts k begun met d w) (through_reading P facts k begun met d w) (through_run P facts k begun met d w) rank most ranked key whole last inside d w.run deep

pub returns-clause-accepts : goal.returns-clause-accepts
returns-clause-accepts c P fit states k begun met rank most ranked heads links key graph whole last inside d u w x =
    let facts : Facts P = record { laws = c.laws_hold.ensures; fit = fit; states = states } in
    accepts_whole P facts (through_base P facts k begun met d w) heads links graph (through_stack P facts k begun met d w) (through_reading P facts k begun met d w) (through_run P facts k begun met d w) rank most ranked key whole last inside d u w.run x

pub returns-clause-stops : goal.returns-clause-stops
returns-clause-stops c P fit states k begun met rank most ranked heads links key graph whole last inside d stop w s =
    let facts : Facts P = record { laws = c.laws_hold.ensures; fit = fit; states = states } in
    stops_whole P facts (through_base P facts k begun met d w) heads links graph (through_stack P facts k begun met d w) (through_reading P facts k begun met d w) (through_run P facts k begun met d w) rank most ranked key whole last inside d stop w.run s
