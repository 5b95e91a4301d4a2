use Rattle.std.proofs.Common.{◌≡◌, ◌++◌, take}
use Rattle.ts_rules.specs.Sights.{seen_trees, seen_rules}
use Rattle.ts_rules.proofs.sights.see_rules.Given as goal

abbrev pub invariant-loop-rule : goal.invariant-loop-rule
invariant-loop-rule l = seen_trees l.spots.items ≡ seen_trees l.initial.spots.items ++ seen_rules (take l.rule-index l.rules)
