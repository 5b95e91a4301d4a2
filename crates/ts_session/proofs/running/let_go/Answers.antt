use denote.Param.Send.{sendable}
use Rattle.std.proofs.Crossing.{crosses}
use Rattle.ts_session.proofs.SendLemmas.{book_send}
use Rattle.ts_session.proofs.running.let_go.Goals as goal

pub with_min_len-requires-send-Self : goal.with_min_len-requires-send-Self
with_min_len-requires-send-Self g c κs = search (book_send, sendable, crosses) depth 40 fits 5000

pub with_min_len-requires-send-Self-Item : goal.with_min_len-requires-send-Self-Item
with_min_len-requires-send-Self-Item g c κs = search (book_send, sendable, crosses) depth 40 fits 5000

pub for_each-requires-send-Self : goal.for_each-requires-send-Self
for_each-requires-send-Self g c κs within = search (book_send, sendable, crosses) depth 40 fits 5000

pub for_each-requires-send-Self-Item : goal.for_each-requires-send-Self-Item
for_each-requires-send-Self-Item g c κs within = search (book_send, sendable, crosses) depth 40 fits 5000
