use Rattle.std.proofs.Common.{take}
use Rattle.ts_items.specs.Rows.{Puts, FromOne}
use Rattle.ts_items.specs.Edges.{IsFirstEdge}
use Rattle.ts_items.proofs.first.first_edges.Given as goal

abbrev pub invariant-loop-production : goal.invariant-loop-production
invariant-loop-production l = Puts (FromOne IsFirstEdge (take l.production-index l.productions)) l.initial.edges.items l.edges.items
