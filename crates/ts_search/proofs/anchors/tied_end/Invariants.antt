use Rattle.spec_matches.specs.Embedding.{Unnamed}
use Rattle.spec_matches.specs.Siblings.{nameds}
use Rattle.ts_search.proofs.anchors.tied_end.Given as goal

abbrev pub invariant-loop-place : goal.invariant-loop-place
invariant-loop-place l = Unnamed (nameds l.sight.nodes l.siblings) 0 l.place
