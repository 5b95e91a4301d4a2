use Rattle.std.proofs.Common.{◌≡◌, [], map, drop, Some, sym, subst, arith}
use Rattle.std.proofs.lemmas.List.{drop_all}
use Rattle.std.proofs.lemmas.Result.{on_ok_weaker}
use Rattle.serde.specs.Event.{Logs, seq_begins}
use Rattle.serde_json.specs.Events.{SendsItems}
use Rattle.serde_json.specs.View.{items_of}
use Rattle.ts_replies.specs.Replies.{match_data}
use Rattle.ts_replies.proofs.ReplyLemmas.{many, from_here}
use Rattle.ts_replies.proofs.result.send_matches.Goals as goal

pub loop-found-preserved : goal.loop-found-preserved
loop-found-preserved g c = λ end rest.
    let old = g.S.Serializer.written c.loop-found.out in
    let mid = g.S.Serializer.written c.send_match.new.out in
    let here = from_here c.args.matches.now c.loop-found.found-index c.found-item.result (omega (arith, c.loop-found-test.true)) c.found-item.is in
    c.loop-found.invariant end (subst (λ ys. SendsItems (items_of (map match_data ys)) old end) (sym here) (mid, c.in_ok-send_match.ensures, rest))

pub returns : goal.returns
returns g c =
    let xs = c.args.matches.now in
    let first = g.S.Serializer.written c.begin_seq.new.self in
    let end = g.S.Serializer.written c.end_seq.new.self in
    let begun = subst (λ n. Logs (g.S.Serializer.written c.args.out.now) first (seq_begins (Some n))) (sym (many match_data xs)) c.in_ok-begin_seq.ensures in
    let none : drop c.loop-found.found-index xs ≡ [] = drop_all c.loop-found.found-index xs (omega arith) in
    on_ok_weaker c.end_seq.result (λ e. (
      first,
      begun,
      c.loop-found.invariant end (subst (λ ys. SendsItems (items_of (map match_data ys)) (g.S.Serializer.written c.loop-found.out) end) (sym none) e),
    )) c.end_seq.ensures
