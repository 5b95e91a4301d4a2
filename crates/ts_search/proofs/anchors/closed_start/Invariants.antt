use Rattle.std.proofs.Common.{length, ◌-◌}
use Rattle.spec_matches.specs.Embedding.{Unnamed}
use Rattle.spec_matches.specs.Siblings.{nameds}
use Rattle.ts_search.proofs.anchors.closed_start.Given as goal

abbrev pub invariant-loop-after : goal.invariant-loop-after
invariant-loop-after l = Unnamed (nameds l.sight.nodes l.siblings) (length l.siblings - l.after) (length l.siblings)
