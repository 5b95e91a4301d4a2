use Rattle.ts_replies.specs.Replies.{step_members}
use Rattle.ts_replies.proofs.told.at_once.Goals as goal

pub returns : goal.returns
returns g c end rest =
    c.in_ok-send_word.ensures (step_members c.args.step c.args.version) end (c.in_ok-send_step.ensures end rest)
