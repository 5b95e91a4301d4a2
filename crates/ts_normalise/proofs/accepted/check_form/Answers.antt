use Rattle.std.proofs.lemmas.Result.{err_from_is_err_and}
use Rattle.ts_normalise.proofs.FormLemmas.{form_tells_none, by_empty_token, by_empty_rule, by_cycle}
use Rattle.ts_normalise.proofs.accepted.check_form.Goals as goal

pub returns-clause-none : goal.returns-clause-none
returns-clause-none c = form_tells_none c.args.form.now c.in_ok-check_tokens.ensures.none c.in_ok-check_rules.ensures.none c.in_ok-check_cycles.ensures.none

pub returns-in_err-check_rules-clause-refused : goal.returns-in_err-check_rules-clause-refused
returns-in_err-check_rules-clause-refused c =
    let p = err_from_is_err_and c.from_residual-in_err-check_rules.result c.from_residual-in_err-check_rules.ensures.1 in
    rw (p.1, p.2) (by_empty_rule c.args.form.now c.in_err-check_rules.field-0.0 c.in_ok-check_tokens.ensures.none c.in_err-check_rules.ensures.refused)

pub returns-in_err-check_cycles-clause-refused : goal.returns-in_err-check_cycles-clause-refused
returns-in_err-check_cycles-clause-refused c =
    let p = err_from_is_err_and c.from_residual-in_err-check_cycles.result c.from_residual-in_err-check_cycles.ensures.1 in
    rw (p.1, p.2) (by_cycle c.args.form.now c.in_err-check_cycles.field-0.0 c.in_ok-check_tokens.ensures.none c.in_ok-check_rules.ensures.none c.in_err-check_cycles.ensures.refused)

pub returns-in_err-check_tokens-clause-refused : goal.returns-in_err-check_tokens-clause-refused
returns-in_err-check_tokens-clause-refused c =
    let p = err_from_is_err_and c.from_residual.result c.from_residual.ensures.1 in
    rw (p.1, p.2) (by_empty_token c.args.form.now c.in_err-check_tokens.field-0.0 c.in_err-check_tokens.ensures.refused)
