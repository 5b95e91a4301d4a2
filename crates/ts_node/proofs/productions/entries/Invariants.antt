use Rattle.std.proofs.Common.{take}
use Rattle.spec_grammar.specs.Symbols.{count_productions}
use Rattle.ts_node.specs.Entries.{AreUpTo}
use Rattle.ts_node.proofs.productions.entries.Given as goal

abbrev pub invariant-loop-r : goal.invariant-loop-r
invariant-loop-r l = AreUpTo l.flat (count_productions (take l.r l.flat.rules)) l.entries
