use Rattle.std.proofs.lemmas.Result.{err_from_is_err_and}
use Rattle.ts_normalise.specs.Faults.{inline_told}
use Rattle.ts_normalise.proofs.CheckLemmas.{inline_none, inline_found, rules_none, by_inline, by_words}
use Rattle.ts_normalise.proofs.trees.check_rules.Goals as goal

pub returns-in_err-ranks-clause-refused : goal.returns-in_err-ranks-clause-refused
returns-in_err-ranks-clause-refused c =
    let p = err_from_is_err_and c.from_residual-in_err-ranks.result c.from_residual-in_err-ranks.ensures.1 in
    rw (p.1, p.2) (by_inline c.args.grammar.now (inline_told c.in_err-ranks.field-0.0) (inline_found c.args.grammar.now c.in_err-ranks.field-0.0 c.in_err-ranks.ensures.refused))

pub returns-in_err-check_words-clause-refused : goal.returns-in_err-check_words-clause-refused
returns-in_err-check_words-clause-refused c =
    let p = err_from_is_err_and c.from_residual-in_err-check_words.result c.from_residual-in_err-check_words.ensures.1 in
    rw (p.1, p.2) (by_words c.args.grammar.now c.in_err-check_words.field-0.0 (inline_none c.args.grammar.now c.in_ok-ranks.ensures.none_bad) c.in_err-check_words.ensures.refused)

pub returns-clause-none : goal.returns-clause-none
returns-clause-none c = rules_none c.args.grammar.now (inline_none c.args.grammar.now c.in_ok-ranks.ensures.none_bad) c.in_ok-check_words.ensures.none
