use Rattle.std.proofs.Common.{◌+◌, drop}
use Rattle.spec_trees.specs.Trees.{all_spans}
use Rattle.spec_graph.specs.Laying.{Parsing}
use Rattle.ts_graph.specs.Down.{place_at}
use Rattle.ts_reductions.specs.Laying.{CanLayExtras}
use Rattle.ts_reductions.proofs.ClimbLemmas.{Climbs}
use Rattle.ts_reductions.proofs.laying.lay_extras.Given as goal

abbrev pub invariant-loop-extra : goal.invariant-loop-extra
invariant-loop-extra l =
    (P : Parsing) → (can : CanLayExtras P l.initial.graph l.base l.extras l.state)
    → Climbs P l.initial.graph l.graph l.base l.top can.read (drop l.extra-index l.extras) l.state (place_at l.initial.graph.heads l.base + all_spans l.extras) l.extras
