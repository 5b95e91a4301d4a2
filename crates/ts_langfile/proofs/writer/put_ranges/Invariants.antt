use Rattle.std.proofs.Common.{◌≡◌, ◌++◌, length, take}
use Rattle.std.specs.List.{flat_map}
use Rattle.ts_langfile.specs.Spelling.{number32, range}
use Rattle.ts_langfile.proofs.writer.put_ranges.Given as goal

abbrev pub invariant-loop-low : goal.invariant-loop-low
invariant-loop-low l = l.out.items ≡ (l.fn.out.items ++ number32 (length l.ranges)) ++ flat_map range (take l.low-index l.ranges)
