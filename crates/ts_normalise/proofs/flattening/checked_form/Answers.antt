use Rattle.std.proofs.lemmas.Result.{err_from_is_err_and}
use Rattle.ts_normalise.specs.Faults.{pattern_told}
use Rattle.ts_tokens.specs.Patterns.{meaning}
use Rattle.ts_normalise.proofs.CheckLemmas.{pattern_found}
use Rattle.ts_normalise.proofs.WholeLemmas.{IsOnly, all_defined, by_trees, by_pattern, by_limit, by_form, flattened, pattern_none, form_symbols, form_owners}
use Rattle.ts_normalise.proofs.flattening.checked_form.Goals as goal

pub returns-in_err-trees-clause-refused : goal.returns-in_err-trees-clause-refused
returns-in_err-trees-clause-refused c =
    let p = err_from_is_err_and c.from_residual.result c.from_residual.ensures.1 in
    rw (p.1, p.2) (by_trees c.args.grammar.now c.in_err-trees.field-0.0 c.in_err-trees.ensures.refused)

pub returns-in_err-patterns-clause-refused : goal.returns-in_err-patterns-clause-refused
returns-in_err-patterns-clause-refused c =
    let p = err_from_is_err_and c.from_residual-in_err-patterns.result c.from_residual-in_err-patterns.ensures.1 in
    rw (p.1, p.2) (by_pattern c.args.grammar.now (pattern_told c.in_err-patterns.field-0.0) c.in_ok-trees.ensures.none (pattern_found c.args.grammar.now c.in_err-patterns.field-0.0 c.in_err-patterns.ensures.refused))

pub returns-in_err-form-clause-refused : goal.returns-in_err-form-clause-refused
returns-in_err-form-clause-refused c =
    let p = err_from_is_err_and c.from_residual-in_err-form.result c.from_residual-in_err-form.ensures.1 in
    rw (p.1, p.2) (by_limit c.args.grammar.now c.in_err-form.field-0.0 c.in_ok-trees.ensures.none (pattern_none c.args.grammar.now (meaning c.in_ok-patterns.patterns) c.in_ok-patterns.ensures.read) c.in_err-form.ensures.refused)

pub check_form-requires-clause-few_symbols : goal.check_form-requires-clause-few_symbols
check_form-requires-clause-few_symbols c = form_symbols c.args.grammar.now c.in_ok-form.form c.in_ok-form.ensures.normal c.in_ok-form.ensures.none

pub check_form-requires-clause-owners : goal.check_form-requires-clause-owners
check_form-requires-clause-owners c = form_owners c.args.grammar.now c.in_ok-form.form c.requires.file c.in_ok-form.ensures.normal c.in_ok-trees.ensures.none

pub returns-in_err-check_form-clause-refused : goal.returns-in_err-check_form-clause-refused
returns-in_err-check_form-clause-refused c =
    let only : IsOnly c.args.grammar.now c.in_ok-form.form = λ h normal. c.one_normal_form.ensures.normal c.args.grammar.now h c.in_ok-form.form (all_defined c.args.grammar.now c.in_ok-trees.ensures.none) normal c.in_ok-form.ensures.normal in
    let p = err_from_is_err_and c.from_residual-in_err-check_form.result c.from_residual-in_err-check_form.ensures.1 in
    rw (p.1, p.2) (by_form c.args.grammar.now c.in_ok-form.form c.in_err-check_form.field-0.0 c.in_ok-trees.ensures.none (pattern_none c.args.grammar.now (meaning c.in_ok-patterns.patterns) c.in_ok-patterns.ensures.read) c.in_ok-form.ensures.none c.in_ok-form.ensures.normal only c.in_err-check_form.ensures.refused)

pub returns-clause-normal : goal.returns-clause-normal
returns-clause-normal c =
    let only : IsOnly c.args.grammar.now c.in_ok-form.form = λ h normal. c.one_normal_form.ensures.normal c.args.grammar.now h c.in_ok-form.form (all_defined c.args.grammar.now c.in_ok-trees.ensures.none) normal c.in_ok-form.ensures.normal in
    flattened c.args.grammar.now c.in_ok-form.form c.in_ok-trees.ensures.none (pattern_none c.args.grammar.now (meaning c.in_ok-patterns.patterns) c.in_ok-patterns.ensures.read) c.in_ok-form.ensures.none c.in_ok-form.ensures.normal only c.in_ok-check_form.ensures.none

pub returns-clause-fit : goal.returns-clause-fit
returns-clause-fit c =
    let only : IsOnly c.args.grammar.now c.in_ok-form.form = λ h normal. c.one_normal_form.ensures.normal c.args.grammar.now h c.in_ok-form.form (all_defined c.args.grammar.now c.in_ok-trees.ensures.none) normal c.in_ok-form.ensures.normal in
    c.normal_forms_are_fit.ensures c.args.grammar.now c.in_ok-form.form c.requires.file c.in_ok-trees.ensures.texts
    (flattened c.args.grammar.now c.in_ok-form.form c.in_ok-trees.ensures.none (pattern_none c.args.grammar.now (meaning c.in_ok-patterns.patterns) c.in_ok-patterns.ensures.read) c.in_ok-form.ensures.none c.in_ok-form.ensures.normal only c.in_ok-check_form.ensures.none)
