use Rattle.std.proofs.Common.{◌≡◌, [], map, drop, Some, sym, subst, arith}
use Rattle.std.proofs.lemmas.List.{drop_all}
use Rattle.std.proofs.lemmas.Result.{on_ok_weaker}
use Rattle.serde.specs.Event.{Logs, seq_begins}
use Rattle.serde_json.specs.Events.{SendsItems}
use Rattle.serde_json.specs.View.{items_of}
use Rattle.ts_replies.specs.Replies.{capture_data}
use Rattle.ts_replies.proofs.ReplyLemmas.{many, from_here}
use Rattle.ts_replies.proofs.result.send_captures.Goals as goal

pub loop-capture-preserved : goal.loop-capture-preserved
loop-capture-preserved g c = λ end rest.
    let old = g.S.Serializer.written c.loop-capture.out in
    let mid = g.S.Serializer.written c.send_capture.new.out in
    let here = from_here c.args.captures.now c.loop-capture.capture-index c.capture-item.result (omega (arith, c.loop-capture-test.true)) c.capture-item.is in
    c.loop-capture.invariant end (subst (λ ys. SendsItems (items_of (map capture_data ys)) old end) (sym here) (mid, c.in_ok-send_capture.ensures, rest))

pub returns : goal.returns
returns g c =
    let xs = c.args.captures.now in
    let first = g.S.Serializer.written c.begin_seq.new.self in
    let end = g.S.Serializer.written c.end_seq.new.self in
    let begun = subst (λ n. Logs (g.S.Serializer.written c.args.out.now) first (seq_begins (Some n))) (sym (many capture_data xs)) c.in_ok-begin_seq.ensures in
    let none : drop c.loop-capture.capture-index xs ≡ [] = drop_all c.loop-capture.capture-index xs (omega arith) in
    on_ok_weaker c.end_seq.result (λ e. (
      first,
      begun,
      c.loop-capture.invariant end (subst (λ ys. SendsItems (items_of (map capture_data ys)) (g.S.Serializer.written c.loop-capture.out) end) (sym none) e),
    )) c.end_seq.ensures
