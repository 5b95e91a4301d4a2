use Rattle.std.proofs.Common.{◌≡◌, [], drop, Some, sym, subst, arith}
use Rattle.std.proofs.lemmas.List.{drop_all}
use Rattle.std.proofs.lemmas.Result.{on_ok_weaker}
use Rattle.serde.specs.Event.{Logs, seq_begins}
use Rattle.serde_json.specs.Events.{SendsItems}
use Rattle.spec_output.specs.Outcomes.{node_data, node_items}
use Rattle.ts_lines.proofs.OutcomeLemmas.{many, from_here}
use Rattle.ts_lines.proofs.outcome.send_nodes.Goals as goal

pub loop-node-preserved : goal.loop-node-preserved
loop-node-preserved g c = λ end rest.
    let old = g.S.Serializer.written c.loop-node.out in
    let mid = g.S.Serializer.written c.send_node.new.out in
    let here = from_here c.args.nodes.now c.loop-node.node-index c.node-item.result (omega (arith, c.loop-node-test.true)) c.node-item.is in
    c.loop-node.invariant end (subst (λ ys. SendsItems (node_items ys) old end) (sym here) (mid, c.in_ok-send_node.ensures, rest))

pub returns : goal.returns
returns g c =
    let xs = c.args.nodes.now in
    let first = g.S.Serializer.written c.begin_seq.new.self in
    let end = g.S.Serializer.written c.end_seq.new.self in
    let begun = subst (λ n. Logs (g.S.Serializer.written c.args.out.now) first (seq_begins (Some n))) (sym (many node_data xs)) c.in_ok-begin_seq.ensures in
    let none : drop c.loop-node.node-index xs ≡ [] = drop_all c.loop-node.node-index xs (omega arith) in
    on_ok_weaker c.end_seq.result (λ e. (
      first,
      begun,
      c.loop-node.invariant end (subst (λ ys. SendsItems (node_items ys) (g.S.Serializer.written c.loop-node.out) end) (sym none) e),
    )) c.end_seq.ensures
