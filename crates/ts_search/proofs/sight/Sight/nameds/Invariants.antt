use Rattle.std.proofs.Common.{take, ◌≡◌}
use Rattle.spec_matches.specs.Siblings.{nameds}
use Rattle.ts_search.proofs.sight.Sight.nameds.Given as goal

abbrev pub invariant-loop-n : goal.invariant-loop-n
invariant-loop-n l = l.all.items ≡ nameds l.self.nodes (take l.n-index l.siblings)
