use Rattle.std.proofs.Common.{drop, map}
use Rattle.serde.specs.Event.{Log}
use Rattle.serde_json.specs.Events.{SendsItems}
use Rattle.serde_json.specs.View.{items_of}
use Rattle.ts_replies.specs.Replies.{capture_data}
use Rattle.ts_replies.proofs.result.send_captures.Given as goal

-- whatever ends it well from here ends it well from the start
abbrev pub invariant-loop-capture : goal.invariant-loop-capture
invariant-loop-capture g l =
    (end : Log) → SendsItems (items_of (map capture_data (drop l.capture-index l.captures))) (g.S.Serializer.written l.out) end
    → SendsItems (items_of (map capture_data l.captures)) (g.S.Serializer.written l.initial.out) end
