use Rattle.std.proofs.lemmas.Result.{err_from_is_err_and}
use Rattle.ts_normalise.proofs.CheckLemmas.{trees_none, by_rules}
use Rattle.ts_normalise.proofs.trees.trees_of.Goals as goal

pub returns-in_err-check_walk-clause-refused : goal.returns-in_err-check_walk-clause-refused
returns-in_err-check_walk-clause-refused c =
    let p = err_from_is_err_and c.from_residual-in_err-check_walk.result c.from_residual-in_err-check_walk.ensures.1 in
    rw (p.1, p.2) c.in_err-check_walk.ensures.refused

pub returns-in_err-ranks-clause-refused : goal.returns-in_err-ranks-clause-refused
returns-in_err-ranks-clause-refused c =
    let p = err_from_is_err_and c.from_residual-in_err-ranks.result c.from_residual-in_err-ranks.ensures.1 in
    rw (p.1, p.2) (by_rules c.args.grammar.now c.in_err-ranks.field-0.0 c.in_ok-check_walk.ensures.names c.in_ok-check_walk.ensures.tokens c.in_err-ranks.ensures.refused)

pub returns-clause-none : goal.returns-clause-none
returns-clause-none c = trees_none c.args.grammar.now c.in_ok-check_walk.ensures.names c.in_ok-check_walk.ensures.tokens c.in_ok-ranks.ensures.none
