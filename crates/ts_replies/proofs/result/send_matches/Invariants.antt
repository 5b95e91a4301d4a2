use Rattle.std.proofs.Common.{drop, map}
use Rattle.serde.specs.Event.{Log}
use Rattle.serde_json.specs.Events.{SendsItems}
use Rattle.serde_json.specs.View.{items_of}
use Rattle.ts_replies.specs.Replies.{match_data}
use Rattle.ts_replies.proofs.result.send_matches.Given as goal

-- whatever ends it well from here ends it well from the start
abbrev pub invariant-loop-found : goal.invariant-loop-found
invariant-loop-found g l =
    (end : Log) → SendsItems (items_of (map match_data (drop l.found-index l.matches))) (g.S.Serializer.written l.out) end
    → SendsItems (items_of (map match_data l.matches)) (g.S.Serializer.written l.initial.out) end
