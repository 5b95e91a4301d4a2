use Rattle.std.proofs.Common.{◌≡◌, ◌∙◌, sym, ap, inl, inr, Err}
use Rattle.std.proofs.lemmas.Result.{err_from_is_err_and}
use Rattle.ts_core.specs.declared.flat.FlatGrammar.{FlatGrammar}
use Rattle.ts_front.specs.Grammars.{no_fit}
use Rattle.ts_front.proofs.RefusalLemmas.{fields_refuse, is_misfit, found_is}
use Rattle.ts_front.proofs.grammar.language_form.Goals as goal

pub returns-in_err-grammar-clause-refused : goal.returns-in_err-grammar-clause-refused
returns-in_err-grammar-clause-refused c =
    let p = err_from_is_err_and c.from_residual.result c.from_residual.ensures.1 in
    rw (p.1, p.2) (fields_refuse c.args.bytes.now c.in_err-grammar.field-0.0 c.requires.begins c.in_err-grammar.ensures.unasked c.in_err-grammar.ensures.refused)

pub returns-in-Some-clause-refused : goal.returns-in-Some-clause-refused
returns-in-Some-clause-refused c =
    inr (no_fit c.in_ok-grammar.grammar c.in-Some.cause c.requires.begins c.in_ok-grammar.ensures.ok (is_misfit c.args.bytes.now c.in_ok-grammar.grammar c.in-Some.cause c.in_ok-grammar.ensures.exact (found_is c.in_ok-cause.field-0 c.in_ok-grammar.grammar c.in-Some.cause c.in_ok-cause.ensures.some c.in-Some.is)))
