use Rattle.std.proofs.Common.{string_bytes, codes}
use Rattle.serde_json.specs.Data.{object}
use Rattle.serde_json.proofs.FreeTexts.{text_of_value}
use Rattle.ts_replies.specs.Replies.{with_number, reply_members}
use Rattle.ts_replies.proofs.ReplyLemmas.{reply_has_none}
use Rattle.ts_replies.proofs.told.object_text.Goals as goal

pub returns-in-Ok : goal.returns-in-Ok
returns-in-Ok c =
    let told = c.args.reply.now in
    let sent = c.in-Ok.ensures.events in
    text_of_value (object (with_number (codes "client") c.args.client (reply_members c.args.step told))) sent.0 (string_bytes c.in-Ok.text) sent.1 sent.2 (reply_has_none c.args.step told)
