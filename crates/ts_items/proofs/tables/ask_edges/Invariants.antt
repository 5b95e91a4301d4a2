use Rattle.std.proofs.Common.{take}
use Rattle.ts_items.specs.Rows.{Puts, FromOne}
use Rattle.ts_items.specs.Edges.{IsAskEdge}
use Rattle.ts_items.proofs.tables.ask_edges.Given as goal

abbrev pub invariant-loop-production : goal.invariant-loop-production
invariant-loop-production l = Puts (FromOne IsAskEdge (take l.production-index l.productions)) l.initial.edges.items l.edges.items
