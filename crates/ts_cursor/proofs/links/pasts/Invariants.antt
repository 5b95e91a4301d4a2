use Rattle.std.proofs.Common.{◌-◌}
use Rattle.ts_cursor.specs.Linked.{ArePastsFrom}
use Rattle.ts_cursor.proofs.links.pasts.Given as goal

abbrev pub invariant-loop-i : goal.invariant-loop-i
invariant-loop-i l = ArePastsFrom l.nodes (l.count - l.i) l.pasts.items
