use Rattle.std.proofs.lemmas.Result.{err_from_is_err_and}
use Rattle.ts_normalise.proofs.CheckLemmas.{words_none, by_extras}
use Rattle.ts_normalise.proofs.trees.check_words.Goals as goal

pub returns-clause-none : goal.returns-clause-none
returns-clause-none c = words_none c.args.grammar.now c.in_ok-check_word.ensures.none c.in_ok-check_extras.ensures.none

pub returns-in_err-check_extras-clause-refused : goal.returns-in_err-check_extras-clause-refused
returns-in_err-check_extras-clause-refused c =
    let p = err_from_is_err_and c.from_residual-in_err-check_extras.result c.from_residual-in_err-check_extras.ensures.1 in
    rw (p.1, p.2) (by_extras c.args.grammar.now c.in_err-check_extras.field-0.0 c.in_ok-check_word.ensures.none c.in_err-check_extras.ensures.refused)
