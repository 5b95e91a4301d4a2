use Rattle.std.proofs.Common.{subst}
use Rattle.std.proofs.lemmas.Result.{on_ok_weaker}
use Rattle.serde.specs.Event.{Logs, unsigned}
use Rattle.ts_replies.proofs.member.send_short.Goals as goal

pub returns : goal.returns
returns g c =
    let named = g.S.Serializer.written c.key.new.self in
    let told = g.S.Serializer.written c.u64.new.self in
    on_ok_weaker c.u64.result (λ place after end rest.
    let number = subst (λ n. Logs named told (unsigned n)) c.from.ensures place in
    (named, told, c.in_ok-key.ensures, number, rest)) c.u64.ensures
