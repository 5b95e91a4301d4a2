use Rattle.std.proofs.Common.{◌≡◌, ◌++◌, length, take}
use Rattle.std.specs.List.{flat_map}
use Rattle.ts_langfile.specs.Spelling.{entry, number32}
use Rattle.ts_langfile.proofs.writer.put_ordering.Given as goal

abbrev pub invariant-loop-entry : goal.invariant-loop-entry
invariant-loop-entry l = l.out.items ≡ (l.fn.out.items ++ number32 (length l.entries)) ++ flat_map entry (take l.entry-index l.entries)
