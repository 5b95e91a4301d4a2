use Rattle.std.proofs.lemmas.Result.{err_from_is_err_and}
use Rattle.ts_normalise.proofs.WholeLemmas.{all_defined, all_inlined, good_word, many_none, many_found}
use Rattle.ts_normalise.proofs.formed.form_of.Goals as goal

pub normal_form-requires-clause-names : goal.normal_form-requires-clause-names
normal_form-requires-clause-names c = all_defined c.args.grammar.now c.requires.trees

pub normal_form-requires-clause-inline : goal.normal_form-requires-clause-inline
normal_form-requires-clause-inline c = all_inlined c.args.grammar.now c.requires.trees

pub normal_form-requires-clause-word : goal.normal_form-requires-clause-word
normal_form-requires-clause-word c = good_word c.args.grammar.now c.requires.trees

pub returns-in_err-form-clause-refused : goal.returns-in_err-form-clause-refused
returns-in_err-form-clause-refused c =
    let p = err_from_is_err_and c.from_residual.result c.from_residual.ensures.1 in
    rw (p.1, p.2) (many_found c.args.grammar.now c.in_err-form.field-0.0 c.in_err-form.ensures.refused)

pub returns-clause-none : goal.returns-clause-none
returns-clause-none c = many_none c.args.grammar.now c.in_ok-form.ensures.within
