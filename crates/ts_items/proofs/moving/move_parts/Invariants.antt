use Rattle.std.proofs.Common.{◌≡◌, take, length}
use Rattle.ts_items.specs.Rows.{FromOne, Puts}
use Rattle.ts_items.specs.Numbers.{MovesTo}
use Rattle.ts_items.proofs.moving.move_parts.Given as goal

abbrev pub invariant-loop-part : goal.invariant-loop-part
invariant-loop-part l = record {
  count : length l.moved ≡ length l.initial.moved;
  moved : Puts (FromOne (MovesTo l.tabled.grammar) (take l.part-index l.parts)) l.initial.moved l.moved;
}
