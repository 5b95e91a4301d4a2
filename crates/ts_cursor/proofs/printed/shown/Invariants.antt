use Rattle.std.proofs.Common.{◌≡◌, map, take}
use Rattle.spec_trees.specs.Shown.{shown}
use Rattle.ts_cursor.proofs.printed.shown.Given as goal

abbrev pub invariant-loop-k : goal.invariant-loop-k
invariant-loop-k l = record {
  points : l.points ≡ l.text;
  all : l.all ≡ map (shown l.grammar l.text) (take l.k l.nodes);
}
