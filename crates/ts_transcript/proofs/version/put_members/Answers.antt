use Rattle.std.proofs.Common.{sym, subst, codes}
use Rattle.serde_json.specs.Data.{no_members}
use Rattle.spec_output.specs.Outcomes.{outcome_members}
use Rattle.ts_glr.specs.Outcomes.{value_of_outcome}
use Rattle.ts_print.specs.Printed.{shown_outcome}
use Rattle.ts_print.specs.Written.{AddsTokens, tokens_of_members}
use Rattle.ts_replies.specs.declared.reply.Head.{Head}
use Rattle.ts_replies.specs.Replies.{with_number, turn_members, head_members}
use Rattle.ts_transcript.proofs.version.put_members.Goals as goal

pub returns-in_ok-put_short-in-Opening-2 : goal.returns-in_ok-put_short-in-Opening-2
returns-in_ok-put_short-in-Opening-2 c end rest =
    let shown = shown_outcome c.args.grammar.now c.args.text.now (value_of_outcome c.args.outcome.now) in
    let version = with_number (codes "version") 0 no_members in
    subst (λ (h : Head). AddsTokens (tokens_of_members (head_members h shown)) c.args.out.now end) (sym c.in-Opening.is)
    (c.in_ok-put_short-in-Opening.ensures (outcome_members shown version) end
    (c.in_ok-put_outcome-in-Opening.ensures.members version end (c.in_ok-put_short-in-Opening-2.ensures no_members end rest)))

pub returns-in_ok-put_turn-in-Accepted : goal.returns-in_ok-put_turn-in-Accepted
returns-in_ok-put_turn-in-Accepted c end rest =
    let shown = shown_outcome c.args.grammar.now c.args.text.now (value_of_outcome c.args.outcome.now) in
    let behind = turn_members c.in-Accepted.step c.in-Accepted.turn c.in-Accepted.version in
    let document = with_number (codes "document") c.in-Accepted.document (outcome_members shown behind) in
    subst (λ (h : Head). AddsTokens (tokens_of_members (head_members h shown)) c.args.out.now end) (sym c.in-Accepted.is)
    (c.in_ok-put_short-in-Accepted.ensures document end
    (c.in_ok-put_short-in-Accepted-2.ensures (outcome_members shown behind) end
    (c.in_ok-put_outcome-in-Accepted.ensures.members behind end (c.in_ok-put_turn-in-Accepted.ensures end rest))))
