use Rattle.std.proofs.Common.{[], ◌∷◌}
use Rattle.spec_graph.proofs.SightLemmas.{Facts, passes_shared}
use Rattle.spec_graph.proofs.LayLemmas.{extras_same}
use Rattle.spec_graph.proofs.GraphLemmas.{passes_tree}
use Rattle.spec_graph.proofs.BaseLemmas.{ground_base}
use Rattle.spec_graph.proofs.laws.extras_are_passed.Goals as goal

pub returns-clause-tree : goal.returns-clause-tree
returns-clause-tree c P fit states ground read now from place t late l e =
    let facts : Facts P = record { laws = c.laws_hold.ensures; fit = fit; states = states } in
    passes_tree P facts (ground_base P facts ground) read from t place now late l e

pub returns-clause-same : goal.returns-clause-same
returns-clause-same c P fit states ground read now from place t l e =
    let facts : Facts P = record { laws = c.laws_hold.ensures; fit = fit; states = states } in
    extras_same P facts (ground_base P facts ground) (t ∷ []) read from place now (e, tt) l

pub returns-clause-shared : goal.returns-clause-shared
returns-clause-shared c P fit states read other place s pad size share passes =
    let facts : Facts P = record { laws = c.laws_hold.ensures; fit = fit; states = states } in
    passes_shared P facts read other share place s pad size passes
