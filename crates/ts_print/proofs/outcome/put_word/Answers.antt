use Rattle.std.proofs.Common.{codes}
use Rattle.std.proofs.lemmas.Result.{on_ok_weaker}
use Rattle.serde_json.specs.Data.{string}
use Rattle.ts_print.proofs.WrittenLemmas.{token_added, member_added}
use Rattle.ts_print.proofs.outcome.put_word.Goals as goal

pub returns : goal.returns
returns c = on_ok_weaker c.string.result (λ e.
    member_added (codes "outcome") (string c.args.word.now) _ _ _ (token_added _ _ _ c.in_ok-key.ensures)
    (record { tokens = e; before = c.string.ensures.room.0 })) c.string.ensures.ok
