use Rattle.std.proofs.Common.{[], refl, arith}
use Rattle.spec_graph.proofs.SightLemmas.{Facts}
use Rattle.spec_runs.specs.Configurations.{starting}
use Rattle.spec_graph.specs.States.{at_first}
use Rattle.spec_graph.specs.Laying.{from_start, flat}
use Rattle.spec_graph.proofs.LayLemmas.{lays_run, lays_spans, sound}
use Rattle.spec_graph.proofs.BaseLemmas.{start_facts, start_base, ground_base, through_stack, through_run, through_reading, through_base, run_laid, embed}
use Rattle.spec_graph.proofs.laws.runs_lay.Goals as goal

pub returns-clause-start : goal.returns-clause-start
returns-clause-start c P fit states d reached = (lays_run (from_start P) (start_facts P (record { laws = c.laws_hold.ensures; fit = fit; states = states })) (start_base P (record { laws = c.laws_hold.ensures; fit = fit; states = states })) starting d (flat [] 0) (omega arith) reached).0

pub returns-clause-on : goal.returns-clause-on
returns-clause-on c P fit states k begun met d w =
    let facts : Facts P = record { laws = c.laws_hold.ensures; fit = fit; states = states } in
    (run_laid P facts (through_base P facts k begun met d w) (through_stack P facts k begun met d w) (through_reading P facts k begun met d w) (through_run P facts k begun met d w) d w.run).0

pub returns-clause-reached : goal.returns-clause-reached
returns-clause-reached c P fit states w place now l = sound (from_start P) (start_facts P (record { laws = c.laws_hold.ensures; fit = fit; states = states })) (start_base P (record { laws = c.laws_hold.ensures; fit = fit; states = states })) refl refl [] 0 w place now 0 at_first l [] refl (λ e z. refl)

pub returns-clause-embeds : goal.returns-clause-embeds
returns-clause-embeds c P fit states met read now from place w l = embed P (record { laws = c.laws_hold.ensures; fit = fit; states = states }) met read from w place now l

pub returns-clause-spans : goal.returns-clause-spans
returns-clause-spans c P fit states ground read now from place w l =
    let facts : Facts P = record { laws = c.laws_hold.ensures; fit = fit; states = states } in
    lays_spans P facts (ground_base P facts ground) read from w place now l
