use Rattle.std.proofs.Common.{◌≡◌, Ok, sym, ap, ◌∙◌, List, ℕ}
use Rattle.ts_langfile.specs.declared.flaw.Stop.{Stop}
use Rattle.ts_langfile.specs.Reader.{StopsWith}
use Rattle.ts_langfile.specs.Parts.{text_at}
use Rattle.ts_langfile.proofs.TextLemmas.{text_right, text_wrong}
use Rattle.ts_langfile.proofs.part.text.Goals as goal

pub returns-in_ok-from_text-in-Ok : goal.returns-in_ok-from_text-in-Ok
returns-in_ok-from_text-in-Ok c =
    let cases = c.in-Ok.ensures.cases in
    let same : c.in_ok-from_text-in-Ok.field-0 ≡ c.in_ok-text.text.now = c.in_ok-from_text-in-Ok.ensures ∙ cases.0 in
    rw same (text_right c.args.bytes.now c.in_ok-count.start.now c.in_ok-text.text.now c.in_ok-text.rest.now c.in_ok-count.count c.in_ok-count.ensures c.in_ok-text.ensures cases.1)

pub returns-in-Err : goal.returns-in-Err
returns-in-Err c =
    let cases = c.in-Err.ensures.cases in
    rw c.wrong.ensures (text_wrong c.args.bytes.now c.in_ok-count.start.now c.in_ok-text.text.now c.in_ok-text.rest.now c.in_ok-count.count c.in_ok-count.ensures c.in_ok-text.ensures cases.0)
