use Rattle.std.proofs.Common.{refl, None}
use Rattle.spec_packing.specs.Packing.{GoesThrough}
use Rattle.spec_graph.specs.Laying.{IsMet}
use Rattle.spec_crossing.specs.Leaving.{way_stack}
use Rattle.spec_crossing.proofs.PackedLemmas.{left_met}
use Rattle.spec_crossing.proofs.LeaveLemmas.{left_through, ends_through}
use Rattle.spec_crossing.proofs.RestLemmas.{left_done, stuck_there, rests_tree, rests_stop}
use Rattle.spec_crossing.proofs.laws.followed_graphs_pack.Goals as goal

pub returns-clause-leaves : goal.returns-clause-leaves
returns-clause-leaves c P fit states k begun rank most ranked heads links graph n whole early before stuck counts r h place read way at alone one ends =
    let met : IsMet P = record { stack = k; begun = begun; met = r.met } in
    let halts = c.graphs_are_sound.ensures.stops P fit states met heads links graph in
    record {
      met = left_met P (record { laws = c.laws_hold.ensures; fit = fit; states = states }) met heads links graph h place read way at one.down ends;
      done = left_done P heads links n None before stuck counts (GoesThrough P.grammar P.text k) r.done r.stuck_from halts refl (GoesThrough P.grammar P.text (way_stack way place))
          (λ d rd w. left_through P (record { laws = c.laws_hold.ensures; fit = fit; states = states }) k begun r.met rank most ranked heads links graph n whole early h place read way at alone one.only d w);
      stuck_from = stuck_there P heads links n None before stuck counts (GoesThrough P.grammar P.text k) r.done r.stuck_from halts;
    }

pub returns-clause-tree : goal.returns-clause-tree
returns-clause-tree c P fit states k begun rank most ranked heads links graph n whole early last inside best before stuck counts r t is =
    rests_tree P heads links n best before stuck counts (GoesThrough P.grammar P.text k) r.done r.stuck_from (λ q s. c.graphs_are_sound.ensures.stops P fit states (record { stack = k; begun = begun; met = r.met }) heads links graph q s) (λ t a. c.graphs_are_sound.ensures.accepts P fit states (record { stack = k; begun = begun; met = r.met }) heads links graph t a)
    (λ d rd w. ends_through P (record { laws = c.laws_hold.ensures; fit = fit; states = states }) k begun r.met rank most ranked heads links graph n whole early last inside d w) t is

pub returns-clause-stop : goal.returns-clause-stop
returns-clause-stop c P fit states k begun rank most ranked heads links graph n whole early last inside best before stuck counts r q none is =
    rests_stop P heads links n best before stuck counts (GoesThrough P.grammar P.text k) r.done r.stuck_from (λ q s. c.graphs_are_sound.ensures.stops P fit states (record { stack = k; begun = begun; met = r.met }) heads links graph q s) (λ t a. c.graphs_are_sound.ensures.accepts P fit states (record { stack = k; begun = begun; met = r.met }) heads links graph t a)
    (λ d rd w. ends_through P (record { laws = c.laws_hold.ensures; fit = fit; states = states }) k begun r.met rank most ranked heads links graph n whole early last inside d w) q none is
