use Rattle.std.proofs.Common.{drop, map}
use Rattle.serde.specs.Event.{Log}
use Rattle.serde_json.specs.Data.{string}
use Rattle.serde_json.specs.Events.{SendsItems}
use Rattle.serde_json.specs.View.{items_of}
use Rattle.ts_lines.proofs.outcome.send_texts.Given as goal

-- whatever ends it well from here ends it well from the start
abbrev pub invariant-loop-text : goal.invariant-loop-text
invariant-loop-text g l =
    (end : Log) → SendsItems (items_of (map string (drop l.text-index l.texts))) (g.S.Serializer.written l.out) end
    → SendsItems (items_of (map string l.texts)) (g.S.Serializer.written l.initial.out) end
