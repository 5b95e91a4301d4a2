use Rattle.std.proofs.Common.{◌∙◌}
use Rattle.std.proofs.lemmas.Result.{IfOk-weaker}
use Rattle.ts_glr.specs.Outcomes.{value_of_outcome}
use Rattle.ts_print.specs.Printed.{shown_outcome}
use Rattle.ts_print.proofs.WrittenLemmas.{token_added, object_added, line_is}
use Rattle.ts_replies.specs.Replies.{head_members}
use Rattle.ts_transcript.proofs.version.outcome_bytes.Goals as goal

pub ended-requires : goal.ended-requires
ended-requires c =
    let shown = shown_outcome c.args.grammar.now c.args.text.now (value_of_outcome c.args.outcome.now) in
    let object = object_added (head_members c.args.head shown) _ _ _ _ (token_added _ _ _ c.in_ok-begin_object.ensures)
    c.in_ok-put_members.ensures (token_added _ _ _ c.in_ok-end_object.ensures) in
    object.before ∙ c.new-out.ensures.before ∙ c.new-bytes.ensures.items

pub returns : goal.returns
returns c =
    let shown = shown_outcome c.args.grammar.now c.args.text.now (value_of_outcome c.args.outcome.now) in
    let object = object_added (head_members c.args.head shown) _ _ _ _ (token_added _ _ _ c.in_ok-begin_object.ensures)
    c.in_ok-put_members.ensures (token_added _ _ _ c.in_ok-end_object.ensures) in
    IfOk-weaker c.ended.result _ _ (λ line ends.
    line_is (head_members c.args.head shown) _ _ _ c.new-out.ensures.tokens object.tokens ends) c.ended.ensures
