use Rattle.std.proofs.lemmas.Result.{err_from_is_err_and}
use Rattle.ts_grammar_json.proofs.FileLemmas.{next_rule, rules_stop}
use Rattle.ts_grammar_json.proofs.file.named.Goals as goal

pub returns-in_err-named_rule : goal.returns-in_err-named_rule
returns-in_err-named_rule c =
    let p = err_from_is_err_and c.from_residual.result c.from_residual.ensures.1 in
    rw (p.1, p.2) (λ other. rules_stop c.args.members.now c.loop-member.member-index c.member-item.result c.loop-member.rules c.in_err-named_rule.field-0.0
    c.loop-member-test.true c.member-item.is (c.in_err-named_rule.ensures other) c.loop-member.invariant)

pub loop-member-preserved : goal.loop-member-preserved
loop-member-preserved c =
    let read = c.in_ok-named_rule.ensures in
    rw c.in_ok-push.ensures.ok
    (next_rule c.args.members.now c.loop-member.member-index c.member-item.result c.loop-member.rules c.in_ok-named_rule.field-0
    c.loop-member-test.true c.member-item.is read.0 read.1 c.loop-member.invariant)
