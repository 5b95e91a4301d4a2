use Rattle.std.proofs.Common.{◌≤◌, length, sym, ◌∙◌, subst, arith}
use Rattle.std.proofs.lemmas.Result.{on_ok_weaker}
use Rattle.ts_base.specs.Bytes.{Bytes}
use Rattle.ts_print.specs.Written.{lent_node}
use Rattle.ts_print.proofs.WrittenLemmas.{token_added, joined, node_step, nodes_end, start_within}
use Rattle.ts_print.proofs.tree.put_nodes.Goals as goal

pub loop-k-init : goal.loop-k-init
loop-k-init c = record { points = c.new-points.ensures; ends = λ end rest. rest }

pub put_node-requires : goal.put_node-requires
put_node-requires c =
    subst (λ (w : Bytes). c.row_at.result.start ≤ length w) (sym c.loop-k.invariant.points)
    (start_within (length c.args.text.now) c.args.cursor.now.nodes c.loop-k.k (lent_node c.row_at.result) c.requires c.row_at.ensures)

pub loop-k-preserved : goal.loop-k-preserved
loop-k-preserved c = record {
  points = c.put_node.ensures.points ∙ c.loop-k.invariant.points;
  ends = λ end rest. c.loop-k.invariant.ends end
      (node_step c.args.grammar.now c.args.text.now c.loop-k.points c.args.cursor.now.nodes c.loop-k.k (lent_node c.row_at.result) _ _ end
      c.loop-k.invariant.points c.row_at.ensures c.in_ok-put_node.ensures.node rest);
}

pub returns : goal.returns
returns c = on_ok_weaker c.end_array.result (λ e.
    joined _ _ _ _ _ (token_added _ _ _ c.in_ok-begin_array.ensures)
    (c.loop-k.invariant.ends _
    (nodes_end c.args.grammar.now c.args.text.now c.args.cursor.now.nodes c.loop-k.k _ _ (omega (arith, c.loop-k-test.false))
    (record { tokens = e; before = c.end_array.ensures.room.0 })))) c.end_array.ensures.ok
