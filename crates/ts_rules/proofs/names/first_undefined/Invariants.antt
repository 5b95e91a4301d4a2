use Rattle.std.proofs.Common.{take}
use Rattle.std.specs.List.{Contains}
use Rattle.ts_base.specs.Bytes.{Bytes}
use Rattle.ts_rules.specs.FirstSights.{Clear, Not}
use Rattle.ts_rules.specs.Names.{told}
use Rattle.ts_rules.proofs.names.first_undefined.Given as goal

abbrev pub invariant-loop-name : goal.invariant-loop-name
invariant-loop-name l = Clear (λ (n : Bytes). Not (Contains (told l.names.keys) n)) (told (take l.name-index l.used))
