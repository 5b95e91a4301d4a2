use Rattle.spec_matches.specs.Embedding.{Covers}
use Rattle.ts_search.specs.Table.{Takes}
use Rattle.ts_search.proofs.places.is_covered.Given as goal

abbrev pub invariant-loop-place : goal.invariant-loop-place
invariant-loop-place l = Covers (Takes l.table) l.k l.fn.slot (record { first = l.fn.run.first; past = l.place })
