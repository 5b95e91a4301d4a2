use Rattle.std.proofs.Common.{◌≡◌, [], map, drop, Some, sym, subst, arith}
use Rattle.std.proofs.lemmas.List.{drop_all}
use Rattle.std.proofs.lemmas.Result.{on_ok_weaker}
use Rattle.serde.specs.Event.{Logs, seq_begins}
use Rattle.serde_json.specs.Data.{string}
use Rattle.serde_json.specs.Events.{SendsItems}
use Rattle.serde_json.specs.View.{items_of}
use Rattle.ts_lines.proofs.OutcomeLemmas.{many}
use Rattle.ts_lines.proofs.outcome.send_texts.Goals as goal

pub returns : goal.returns
returns g c =
    let xs = c.args.texts.now in
    let first = g.S.Serializer.written c.begin_seq.new.self in
    let end = g.S.Serializer.written c.end_seq.new.self in
    let begun = subst (λ n. Logs (g.S.Serializer.written c.args.out.now) first (seq_begins (Some n))) (sym (many string xs)) c.in_ok-begin_seq.ensures in
    let none : drop c.loop-text.text-index xs ≡ [] = drop_all c.loop-text.text-index xs (omega arith) in
    on_ok_weaker c.end_seq.result (λ e. (
      first,
      begun,
      c.loop-text.invariant end (subst (λ ys. SendsItems (items_of (map string ys)) (g.S.Serializer.written c.loop-text.out) end) (sym none) e),
    )) c.end_seq.ensures
