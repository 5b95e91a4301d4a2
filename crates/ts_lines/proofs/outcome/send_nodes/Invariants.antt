use Rattle.std.proofs.Common.{drop}
use Rattle.serde.specs.Event.{Log}
use Rattle.serde_json.specs.Events.{SendsItems}
use Rattle.spec_output.specs.Outcomes.{node_items}
use Rattle.ts_lines.proofs.outcome.send_nodes.Given as goal

-- whatever ends it well from here ends it well from the start
abbrev pub invariant-loop-node : goal.invariant-loop-node
invariant-loop-node g l =
    (end : Log) → SendsItems (node_items (drop l.node-index l.nodes)) (g.S.Serializer.written l.out) end
    → SendsItems (node_items l.nodes) (g.S.Serializer.written l.initial.out) end
