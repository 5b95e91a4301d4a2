use Rattle.std.proofs.Common.{◌+◌, take}
use Rattle.spec_grammar.specs.Symbols.{count_productions}
use Rattle.ts_reductions.specs.Lines.{AreLinesUpTo}
use Rattle.ts_reductions.proofs.lines.add_rule.Given as goal

abbrev pub invariant-loop-i : goal.invariant-loop-i
invariant-loop-i l = AreLinesUpTo l.flat (count_productions (take l.r l.flat.rules) + l.i) l.lines
