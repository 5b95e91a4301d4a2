use Rattle.std.proofs.Common.{codes}
use Rattle.std.proofs.lemmas.Result.{on_ok_weaker}
use Rattle.serde_json.specs.Data.{member}
use Rattle.spec_output.specs.Lines.{numeral}
use Rattle.ts_print.proofs.WrittenLemmas.{token_added, member_added}
use Rattle.ts_print.proofs.outcome.put_stuck.Goals as goal

pub returns : goal.returns
returns c = on_ok_weaker c.put_number.result (λ added after end rest.
    c.in_ok-put_word.ensures (member (codes "place") (numeral c.args.place) after) end
    (member_added (codes "place") (numeral c.args.place) _ _ _ (token_added _ _ _ c.in_ok-key.ensures) added after end rest)) c.put_number.ensures
