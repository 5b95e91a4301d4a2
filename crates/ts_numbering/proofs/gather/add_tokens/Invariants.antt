use Rattle.std.proofs.Common.{◌≡◌, ◌++◌, take}
use Rattle.ts_rules.specs.Sights.{tokens_in, seen_trees}
use Rattle.ts_numbering.specs.Keys.{trees}
use Rattle.ts_numbering.proofs.gather.add_tokens.Given as goal

abbrev pub invariant-loop-spot : goal.invariant-loop-spot
invariant-loop-spot l = trees l.found.items ≡ trees l.initial.found.items ++ tokens_in (seen_trees (take l.spot-index l.spots))
