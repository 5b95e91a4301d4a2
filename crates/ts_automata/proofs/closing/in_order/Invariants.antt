use Rattle.std.proofs.Common.{◌≡◌, take}
use Rattle.ts_automata.proofs.closing.in_order.Given as goal

abbrev pub invariant-loop-at : goal.invariant-loop-at
invariant-loop-at l = l.nodes.items ≡ take l.at l.found.keys
