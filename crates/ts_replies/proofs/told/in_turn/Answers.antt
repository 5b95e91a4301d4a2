use Rattle.ts_replies.specs.Replies.{turn_members}
use Rattle.ts_replies.proofs.told.in_turn.Goals as goal

pub returns : goal.returns
returns g c end rest =
    c.in_ok-send_word.ensures (turn_members c.args.step c.args.turn c.args.version) end (c.in_ok-send_turn.ensures end rest)
