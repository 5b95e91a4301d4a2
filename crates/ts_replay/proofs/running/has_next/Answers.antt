use Rattle.std.proofs.Common.{◌<◌, refl, length, rules}
use Rattle.std.proofs.lemmas.Option.{slice_get_read}
use Rattle.ts_replay.proofs.LoopLemmas.{next_told, none_told}
use Rattle.ts_replay.proofs.running.has_next.Goals as goal

pub returns-then-client-len : goal.returns-then-client-len
returns-then-client-len c =
    let there : c.args.client < length c.args.clients.now.items = search rules in
    next_told c.args.clients.now.items c.args.client c.index.result.now c.index-then-client-len.result.now c.len-then-client-len.result
    (slice_get_read c.args.clients.now.items (length c.args.clients.now.items) c.args.client c.index.result.now refl there c.index.ensures)
    (slice_get_read c.args.clients.now.items (length c.args.clients.now.items) c.args.client c.index-then-client-len.result.now refl there c.index-then-client-len.ensures)
    (search rules)

pub returns-else-client-len : goal.returns-else-client-len
returns-else-client-len c = none_told c.args.clients.now.items c.args.client c.len.result (search rules) c.if-client-len.false
