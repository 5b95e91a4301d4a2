use Rattle.std.proofs.Common.{◌≡◌, ◌+◌, drop}
use Rattle.std.specs.List.{prefix_len}
use Rattle.ts_pattern.specs.Characters.{passes}
use Rattle.ts_pattern.proofs.chars.run.Given as goal

abbrev pub invariant-chars : goal.invariant-chars
invariant-chars l = prefix_len (passes l.test) l.rest ≡ l.i + prefix_len (passes l.test) (drop l.i l.rest)
