use Rattle.std.proofs.Common.{◌≡◌, ◌++◌, take, map}
use Rattle.ts_rules.specs.Alternatives.{followed}
use Rattle.ts_rules.proofs.walk.add_joins.Given as goal

abbrev pub invariant-loop-second : goal.invariant-loop-second
invariant-loop-second l = l.found ≡ l.initial.found ++ map (λ y. followed l.first y) (take l.second-index l.rest)
