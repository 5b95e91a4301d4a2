use Rattle.std.proofs.lemmas.Result.{on_ok_weaker}
use Rattle.spec_output.specs.Lines.{numeral}
use Rattle.ts_print.proofs.WrittenLemmas.{token_added, member_added}
use Rattle.ts_transcript.proofs.version.put_number.Goals as goal

pub returns : goal.returns
returns c = on_ok_weaker c.u64.result (λ e.
    member_added c.args.name.now (numeral c.args.number) _ _ _ (token_added _ _ _ c.in_ok-key.ensures)
    (record { tokens = e; before = c.u64.ensures.room.0 })) c.u64.ensures.ok
