use Rattle.std.proofs.Common.{◌≡◌, take}
use Rattle.ts_items.specs.Rows.{Puts}
use Rattle.ts_items.specs.Tables.{IsLineOf}
use Rattle.ts_items.proofs.tables.lines_of.Given as goal

abbrev pub invariant-loop-production : goal.invariant-loop-production
invariant-loop-production l = record {
  line : l.line ≡ l.production-index;
  puts : Puts (IsLineOf (take l.production-index l.productions)) l.initial.lines.items l.lines.items;
}
