use Rattle.std.proofs.Common.{◌≡◌, ◌+◌, ◌-◌, ◌≤◌, length, drop}
use Rattle.ts_query_tree.specs.Words.{gap, gap_end}
use Rattle.ts_query_tree.proofs.bytes.gap_end.Given as goal

abbrev pub invariant-gap : goal.invariant-gap
invariant-gap l = (gap_end l.text l.from ≡ l.at + gap l.in_comment (drop l.at l.bytes)) × (l.from ≤ l.at) × (l.at ≤ length l.bytes)

abbrev pub decreases-gap : goal.decreases-gap
decreases-gap l = length l.bytes - l.at
