use Rattle.std.proofs.Common.{◌≡◌, ℕ, length, take}
use Rattle.ts_lexer.specs.Marks.{AreMarks}
use Rattle.ts_lexer.proofs.marking.mark.Given as goal

abbrev pub invariant-loop-symbol : goal.invariant-loop-symbol
invariant-loop-symbol l = (n : ℕ) → length l.fn.marks.items ≡ n → AreMarks n (take l.symbol-index l.valid) l.marks.items
