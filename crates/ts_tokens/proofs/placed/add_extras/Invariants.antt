use Rattle.std.proofs.Common.{◌≡◌, ◌++◌, take}
use Rattle.ts_tokens.specs.Patterns.{extra_patterns}
use Rattle.ts_tokens.specs.Placed.{told_patterns}
use Rattle.ts_tokens.proofs.placed.add_extras.Given as goal

abbrev pub invariant-loop-tree : goal.invariant-loop-tree
invariant-loop-tree l = told_patterns l.placed.items ≡ told_patterns l.initial.placed.items ++ extra_patterns (take l.tree-index l.extras)
