use Rattle.std.proofs.Common.{◌≡◌, ◌++◌, drop}
use Rattle.ts_rules.specs.Alternatives.{joins}
use Rattle.ts_rules.proofs.walk.join.Given as goal

abbrev pub invariant-loop-first : goal.invariant-loop-first
invariant-loop-first l = joins l.firsts l.rest ≡ l.found ++ joins (drop l.first-index l.firsts) l.rest
