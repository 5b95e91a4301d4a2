use Rattle.std.proofs.Common.{codes, map}
use Rattle.serde_json.specs.Data.{array, member}
use Rattle.serde_json.specs.View.{items_of}
use Rattle.ts_replies.specs.Replies.{result_data, step_members}
use Rattle.ts_replies.proofs.told.with_results.Goals as goal

pub returns : goal.returns
returns g c end rest =
    let named = g.S.Serializer.written c.key.new.self in
    let sent = g.S.Serializer.written c.send_results.new.out in
    c.in_ok-send_word.ensures (member (codes "results") (array (items_of (map result_data c.args.results.now))) (step_members c.args.step c.args.version)) end
    (named, sent, c.in_ok-key.ensures, c.in_ok-send_results.ensures, c.in_ok-send_step.ensures end rest)
