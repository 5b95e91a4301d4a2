use Rattle.std.proofs.Common.{◌≡◌, ◌+◌, ◌≤◌, length, drop}
use Rattle.ts_pattern.specs.Characters.{goes_on}
use Rattle.ts_pattern.proofs.chars.goes_on.Given as goal

abbrev pub invariant-chars : goal.invariant-chars
invariant-chars l = (goes_on l.text l.at l.word ≡ goes_on l.text (l.at + l.i) (drop l.i l.word)) × (l.at + l.i ≤ length l.text)
