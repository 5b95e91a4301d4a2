use Rattle.std.proofs.Common.{◌≡◌, ◌+◌, List, length, drop}
use Rattle.spec_graph.specs.declared.graph.Link.{Link}
use Rattle.ts_graph.specs.Ways.{AreAt}
use Rattle.ts_reductions.specs.Asking.{outer_of}
use Rattle.ts_reductions.proofs.gathering.lifted.Given as goal

abbrev pub invariant-loop-number : goal.invariant-loop-number
invariant-loop-number l = record {
  count_is : l.count ≡ l.number-index;
  lifted : (way : List Link) → AreAt l.graph.links l.numbers way → length (outer_of way) ≡ l.number-index + length (outer_of (drop l.number-index way));
}
