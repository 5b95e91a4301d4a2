use Rattle.std.proofs.Common.{◌≡◌, ◌++◌, length, take}
use Rattle.std.specs.List.{flat_map}
use Rattle.ts_langfile.specs.Spelling.{number32, symbol}
use Rattle.ts_langfile.proofs.writer.put_symbols.Given as goal

abbrev pub invariant-loop-symbol : goal.invariant-loop-symbol
invariant-loop-symbol l = l.out.items ≡ (l.fn.out.items ++ number32 (length l.symbols)) ++ flat_map symbol (take l.symbol-index l.symbols)
