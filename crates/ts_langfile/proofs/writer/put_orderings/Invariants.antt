use Rattle.std.proofs.Common.{◌≡◌, ◌++◌, length, take}
use Rattle.std.specs.List.{flat_map}
use Rattle.ts_langfile.specs.Spelling.{entry, listed, number32}
use Rattle.ts_langfile.proofs.writer.put_orderings.Given as goal

abbrev pub invariant-loop-entries : goal.invariant-loop-entries
invariant-loop-entries l = l.out.items ≡ (l.fn.out.items ++ number32 (length l.orderings)) ++ flat_map (listed entry) (take l.entries-index l.orderings)
