use Rattle.std.proofs.Common.{drop, map}
use Rattle.serde.specs.Event.{Log}
use Rattle.serde_json.specs.Events.{SendsItems}
use Rattle.serde_json.specs.View.{items_of}
use Rattle.ts_replies.specs.Replies.{result_data}
use Rattle.ts_replies.proofs.result.send_results.Given as goal

-- whatever ends it well from here ends it well from the start
abbrev pub invariant-loop-asked : goal.invariant-loop-asked
invariant-loop-asked g l =
    (end : Log) → SendsItems (items_of (map result_data (drop l.asked-index l.results))) (g.S.Serializer.written l.out) end
    → SendsItems (items_of (map result_data l.results)) (g.S.Serializer.written l.initial.out) end
