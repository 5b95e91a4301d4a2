use Rattle.std.proofs.Common.{◌≡◌, ◌++◌, length, take}
use Rattle.std.specs.List.{flat_map}
use Rattle.ts_langfile.specs.Spelling.{listed, number32, symbol}
use Rattle.ts_langfile.proofs.writer.put_sets.Given as goal

abbrev pub invariant-loop-set : goal.invariant-loop-set
invariant-loop-set l = l.out.items ≡ (l.fn.out.items ++ number32 (length l.sets)) ++ flat_map (listed symbol) (take l.set-index l.sets)
