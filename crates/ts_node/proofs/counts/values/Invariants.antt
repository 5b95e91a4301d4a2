use Rattle.std.proofs.Common.{◌≡◌, ◌*◌, ◌≤◌, ◌^◌, drop}
use Rattle.std.specs.Int.RustNames.{unsigned_abs}
use lib.IntN.{◌+ℤ◌}
use Rattle.spec_trees.specs.Trees.{all_values}
use Rattle.ts_node.proofs.counts.values.Given as goal

abbrev pub invariant-loop-element : goal.invariant-loop-element
invariant-loop-element l = record {
  total : l.total +ℤ all_values (drop l.element-index l.elements) ≡ all_values l.elements;
  small : unsigned_abs l.total ≤ 2 ^ 31 * l.element-index;
}
