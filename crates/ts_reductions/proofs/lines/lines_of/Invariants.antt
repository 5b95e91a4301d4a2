use Rattle.std.proofs.Common.{take}
use Rattle.spec_grammar.specs.Symbols.{count_productions}
use Rattle.ts_reductions.specs.Lines.{AreLinesUpTo}
use Rattle.ts_reductions.proofs.lines.lines_of.Given as goal

abbrev pub invariant-loop-r : goal.invariant-loop-r
invariant-loop-r l = AreLinesUpTo l.flat (count_productions (take l.r l.flat.rules)) l.lines
