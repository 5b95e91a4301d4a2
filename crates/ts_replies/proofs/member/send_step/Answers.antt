use Rattle.std.proofs.Common.{codes}
use Rattle.serde_json.specs.Data.{no_members}
use Rattle.ts_replies.specs.Replies.{with_number}
use Rattle.ts_replies.proofs.member.send_step.Goals as goal

pub returns : goal.returns
returns g c end rest =
    c.in_ok-send_short.ensures (with_number (codes "version") c.args.version no_members) end
    (c.in_ok-send_short-2.ensures no_members end rest)
