use Rattle.std.proofs.Common.{◌≡◌, ◌++◌, length, take}
use Rattle.std.specs.List.{flat_map}
use Rattle.ts_langfile.specs.Spelling.{number32, text}
use Rattle.ts_langfile.proofs.writer.put_texts.Given as goal

abbrev pub invariant-loop-text : goal.invariant-loop-text
invariant-loop-text l = l.out.items ≡ (l.fn.out.items ++ number32 (length l.texts)) ++ flat_map text (take l.text-index l.texts)
