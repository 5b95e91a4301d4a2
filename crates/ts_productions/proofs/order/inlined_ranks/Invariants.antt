use Rattle.std.proofs.Common.{take}
use Rattle.ts_productions.specs.Orders.{AreRanksAmong, ArePlaced}
use Rattle.ts_productions.proofs.order.inlined_ranks.Given as goal

abbrev pub invariant-loop-at : goal.invariant-loop-at
invariant-loop-at l = record {
  ranks : AreRanksAmong l.grammar (take l.at l.grammar.rules) (take l.at l.ranks) l.found.items;
  placed : ArePlaced l.found.items;
}
