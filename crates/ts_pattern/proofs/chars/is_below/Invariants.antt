use Rattle.std.proofs.Common.{◌≡◌}
use Rattle.ts_pattern.proofs.NumberLemmas.{padded_value}
use Rattle.ts_pattern.proofs.chars.is_below.Given as goal

abbrev pub invariant-places : goal.invariant-places
invariant-places l = padded_value l.lower l.width l.at ≡ padded_value l.upper l.width l.at
