use Rattle.std.proofs.Common.{◌≡◌, drop}
use Rattle.json.specs.Written.{Written}
use Rattle.ts_print.specs.Written.{AddsTokens}
use Rattle.ts_print.proofs.WrittenLemmas.{nodes_left}
use Rattle.ts_print.proofs.tree.put_nodes.Given as goal

-- whatever ends it well from here ends it well from the start
abbrev pub invariant-loop-k : goal.invariant-loop-k
invariant-loop-k l = record {
  points : l.points ≡ l.text;
  ends : (end : Written) → AddsTokens (nodes_left l.grammar l.text (drop l.k l.cursor.nodes)) l.out end
      → AddsTokens (nodes_left l.grammar l.text l.cursor.nodes) l.initial.out end;
}
