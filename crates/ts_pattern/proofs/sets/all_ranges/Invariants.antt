use Rattle.std.proofs.Common.{take}
use Rattle.ts_pattern.specs.Sets.{InUnion}
use Rattle.ts_pattern.specs.Classify.{Have}
use Rattle.ts_pattern.proofs.sets.all_ranges.Given as goal

abbrev pub invariant-items : goal.invariant-items
invariant-items l = Have l.all.items (InUnion l.ignore_case (take l.i l.items))
