use Rattle.std.proofs.Common.{codes}
use Rattle.serde_json.specs.Data.{no_members}
use Rattle.ts_replies.specs.Replies.{with_number}
use Rattle.ts_transcript.proofs.version.put_turn.Goals as goal

pub returns : goal.returns
returns c end rest =
    c.in_ok-put_short.ensures (with_number (codes "turn") c.args.turn (with_number (codes "version") c.args.version no_members)) end
    (c.in_ok-put_number.ensures (with_number (codes "version") c.args.version no_members) end
    (c.in_ok-put_short-2.ensures no_members end rest))
