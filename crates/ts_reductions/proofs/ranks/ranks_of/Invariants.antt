use Rattle.ts_reductions.specs.Ranking.{AreRanksUpTo}
use Rattle.ts_reductions.proofs.ranks.ranks_of.Given as goal

abbrev pub invariant-loop : goal.invariant-loop
invariant-loop l = AreRanksUpTo l.flat l.counter l.ranks.items
