use Rattle.std.proofs.Common.{◌+◌, take}
use Rattle.spec_grammar.specs.Symbols.{count_productions}
use Rattle.ts_reductions.specs.Ranking.{AreLedUp, rank_in}
use Rattle.ts_reductions.proofs.ranks.raise_rule.Given as goal

abbrev pub invariant-loop-i : goal.invariant-loop-i
invariant-loop-i l = AreLedUp l.flat (rank_in l.ranks) (count_productions (take l.r l.flat.rules) + l.i) l.all
