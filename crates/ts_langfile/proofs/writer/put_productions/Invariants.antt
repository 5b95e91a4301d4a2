use Rattle.std.proofs.Common.{◌≡◌, ◌++◌, length, take}
use Rattle.std.specs.List.{flat_map}
use Rattle.ts_langfile.specs.Spelling.{number32, production}
use Rattle.ts_langfile.proofs.writer.put_productions.Given as goal

abbrev pub invariant-loop-production : goal.invariant-loop-production
invariant-loop-production l = l.out.items ≡ (l.fn.out.items ++ number32 (length l.productions)) ++ flat_map production (take l.production-index l.productions)
