use Rattle.std.proofs.Common.{ℕ, subst}
use Rattle.std.proofs.lemmas.Result.{on_ok_weaker}
use Rattle.spec_output.specs.Lines.{numeral}
use Rattle.ts_print.specs.Written.{AddsBefore}
use Rattle.ts_replies.specs.Replies.{with_number}
use Rattle.ts_print.proofs.WrittenLemmas.{token_added, member_added}
use Rattle.ts_transcript.proofs.version.put_short.Goals as goal

pub returns : goal.returns
returns c = on_ok_weaker c.u64.result (λ e after.
    subst (λ (n : ℕ). AddsBefore after (with_number c.args.name.now n after) c.args.out.now c.u64.new.self) c.from.ensures
    (member_added c.args.name.now (numeral c.from.result) _ _ _ (token_added _ _ _ c.in_ok-key.ensures)
    (record { tokens = e; before = c.u64.ensures.room.0 }) after)) c.u64.ensures.ok
