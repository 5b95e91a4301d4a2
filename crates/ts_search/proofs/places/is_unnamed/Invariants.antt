use Rattle.spec_matches.specs.Embedding.{Unnamed}
use Rattle.ts_search.proofs.places.is_unnamed.Given as goal

abbrev pub invariant-loop-place : goal.invariant-loop-place
invariant-loop-place l = Unnamed l.named l.from l.place
