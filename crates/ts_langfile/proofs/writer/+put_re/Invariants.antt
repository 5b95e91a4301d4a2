use Rattle.std.proofs.Common.{◌≡◌, ◌++◌, length, take}
use Rattle.std.specs.List.{flat_map}
use Rattle.ts_langfile.specs.Spelling.{number32, re}
use Rattle.ts_langfile.proofs.writer.+put_re.Given as goal

abbrev pub invariant-put_parts-loop-part : goal.invariant-put_parts-loop-part
invariant-put_parts-loop-part l = l.out.items ≡ (l.fn.out.items ++ number32 (length l.parts)) ++ flat_map re (take l.part-index l.parts)
