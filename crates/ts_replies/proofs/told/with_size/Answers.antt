use Rattle.std.proofs.Common.{codes}
use Rattle.ts_replies.specs.Replies.{with_number, step_members}
use Rattle.ts_replies.proofs.told.with_size.Goals as goal

pub returns : goal.returns
returns g c end rest =
    c.in_ok-send_word.ensures (with_number (codes "size") c.args.size (step_members c.args.step c.args.version)) end
    (c.in_ok-send_number.ensures (step_members c.args.step c.args.version) end (c.in_ok-send_step.ensures end rest))
