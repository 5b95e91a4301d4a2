use Rattle.std.proofs.Common.{Some, subst}
use Rattle.std.proofs.lemmas.Result.{on_ok_weaker}
use Rattle.serde.specs.Event.{Logs, map_begins}
use Rattle.ts_replies.specs.Replies.{reply_members}
use Rattle.ts_replies.proofs.told.ToldSerialize.serialize.Goals as goal

pub returns : goal.returns
returns g c =
    let first = g.S.Serializer.written c.begin_map.new.self in
    let end = g.S.Serializer.written c.end_map.new.self in
    let told = reply_members c.args.self.now.step c.args.self.now.reply.now in
    let begun = subst (λ n. Logs (g.S.Serializer.written c.args.out.now) first (map_begins (Some n))) (c.members_of.ensures c.args.self.now.client c.args.self.now.step) c.in_ok-begin_map.ensures in
    on_ok_weaker c.end_map.result (λ e. (first, begun, c.in_ok-send_short.ensures told end (c.in_ok-send_reply.ensures end e))) c.end_map.ensures
