use Rattle.std.proofs.Common.{◌≡◌, ◌++◌, length, take}
use Rattle.std.specs.List.{flat_map}
use Rattle.ts_langfile.specs.Spelling.{number32, rule}
use Rattle.ts_langfile.proofs.writer.put_rules.Given as goal

abbrev pub invariant-loop-rule : goal.invariant-loop-rule
invariant-loop-rule l = l.out.items ≡ (l.fn.out.items ++ number32 (length l.rules)) ++ flat_map rule (take l.rule-index l.rules)
