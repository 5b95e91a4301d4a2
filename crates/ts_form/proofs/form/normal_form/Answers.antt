use Rattle.std.proofs.lemmas.Result.{err_from_is_err_and}
use Rattle.ts_form.proofs.FormLemmas.{positions_refused}
use Rattle.ts_form.proofs.form.normal_form.Goals as goal

pub returns-in_err-rules-clause-refused : goal.returns-in_err-rules-clause-refused
returns-in_err-rules-clause-refused c =
    let p = err_from_is_err_and c.from_residual-in_err-rules.result c.from_residual-in_err-rules.ensures.1 in
    rw (p.1, p.2) c.in_err-rules.ensures.refused

pub returns-in_err-whole-clause-refused : goal.returns-in_err-whole-clause-refused
returns-in_err-whole-clause-refused c =
    let p = err_from_is_err_and c.from_residual-in_err-whole.result c.from_residual-in_err-whole.ensures.1 in
    rw (p.1, p.2) tt

pub returns-in_err-form-clause-refused : goal.returns-in_err-form-clause-refused
returns-in_err-form-clause-refused c =
    let p = err_from_is_err_and c.from_residual-in_err-form.result c.from_residual-in_err-form.ensures.1 in
    rw (p.1, p.2) (positions_refused c.args.grammar.now c.in_err-form.field-0.0 c.in_ok-numbering.ensures.fits c.in_ok-rules.ensures.fits
    (c.in_err-form.ensures.refused c.args.grammar.now c.in_ok-whole.ensures))

pub returns-clause-within : goal.returns-clause-within
returns-clause-within c =
    let numbers = c.in_ok-numbering.ensures.fits in
    let rules = c.in_ok-rules.ensures.fits in
    record {
      symbols = numbers.0;
      names = numbers.1;
      productions = rules.0;
      steps = rules.1;
      positions = c.in_ok-form.ensures.fits c.args.grammar.now c.requires.names c.in_ok-whole.ensures;
    }
