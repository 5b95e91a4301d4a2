use Rattle.std.proofs.Common.{◌≡◌, ◌∙◌, ◌+◌, ◌≤◌, length, vec_len, rules, arith}
use Rattle.std.proofs.lemmas.List.{length-append}
use Rattle.ts_text.specs.Text.{most_bytes}
use Rattle.ts_text.specs.Written.{pending_of, written}
use Rattle.ts_text.proofs.WriterLemmas.{put_room}
use Rattle.ts_text.proofs.writing.Writer.put.Goals as goal

pub overflow_add-len : goal.overflow_add-len
overflow_add-len c =
    let room : length (written c.loop-rest.self) + length c.loop-rest.rest.now ≤ most_bytes =
    put_room (written c.loop-rest.self) c.loop-rest.rest.now (written c.args.self.now) c.args.text.now c.loop-rest.invariant.1 c.requires in
    let size : length (written c.loop-rest.self) ≡ length c.loop-rest.self.text + length (pending_of c.loop-rest.self) =
    length-append c.loop-rest.self.text (pending_of c.loop-rest.self) in
    let inner : vec_len c.loop-rest.self.pending.bytes ≡ length c.loop-rest.self.pending.bytes.items = search rules in
    let count : c.len.result ≡ length (pending_of c.loop-rest.self) = c.len.ensures ∙ inner in
    record { fits = omega arith }
