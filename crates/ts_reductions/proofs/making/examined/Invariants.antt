use Rattle.std.proofs.Common.{◌≡◌, ◌≤◌, ◌+◌, ℕ, drop}
use Rattle.spec_trees.specs.Trees.{all_spans}
use Rattle.spec_trees.specs.Made.{EndBy}
use Rattle.ts_reductions.proofs.making.examined.Given as goal

abbrev pub invariant-loop-node : goal.invariant-loop-node
invariant-loop-node l = record {
  place_is : l.place + all_spans (drop l.node-index l.nodes) ≡ l.from + all_spans l.nodes;
  covers : (end : ℕ) → l.end ≤ end → EndBy end l.place (drop l.node-index l.nodes) → EndBy end l.from l.nodes;
  least : l.least ≤ l.end;
  most : (start limit : ℕ) → EndBy limit (start + l.from) l.nodes → EndBy limit (start + l.place) (drop l.node-index l.nodes) × (start + l.least ≤ limit → start + l.end ≤ limit);
}
