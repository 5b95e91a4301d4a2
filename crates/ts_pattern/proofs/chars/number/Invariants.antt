use Rattle.std.proofs.Common.{◌≡◌, min, take}
use Rattle.ts_pattern.specs.Characters.{value}
use Rattle.ts_pattern.proofs.chars.number.Given as goal

abbrev pub invariant-digits : goal.invariant-digits
invariant-digits l = l.number ≡ min l.most (value l.radix (take l.i l.digits))
