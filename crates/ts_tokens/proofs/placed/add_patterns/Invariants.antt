use Rattle.std.proofs.Common.{◌≡◌, ◌++◌, take}
use Rattle.ts_rules.specs.Sights.{seen_trees}
use Rattle.ts_tokens.specs.Patterns.{placed_in}
use Rattle.ts_tokens.specs.Placed.{told_patterns, name_told}
use Rattle.ts_tokens.proofs.placed.add_patterns.Given as goal

abbrev pub invariant-loop-spot : goal.invariant-loop-spot
invariant-loop-spot l = told_patterns l.placed.items ≡ told_patterns l.initial.placed.items ++ placed_in (name_told l.rule) (seen_trees (take l.spot-index l.spots))
