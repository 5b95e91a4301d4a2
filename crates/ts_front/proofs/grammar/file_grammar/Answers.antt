use Rattle.std.proofs.Common.{inr, arith}
use Rattle.std.proofs.lemmas.Result.{err_from_is_err_and}
use Rattle.ts_front.specs.Grammars.{too_large}
use Rattle.ts_front.proofs.RefusalLemmas.{json_refuses, form_refuses}
use Rattle.ts_front.proofs.grammar.file_grammar.Goals as goal

pub returns-then-bytes-gt-MOST_GRAMMAR_BYTES-clause-refused :
    goal.returns-then-bytes-gt-MOST_GRAMMAR_BYTES-clause-refused
returns-then-bytes-gt-MOST_GRAMMAR_BYTES-clause-refused c = inr (too_large c.requires (grind arith))

pub returns-in_err-value-clause-refused : goal.returns-in_err-value-clause-refused
returns-in_err-value-clause-refused c =
    let p = err_from_is_err_and c.from_residual.result c.from_residual.ensures.1 in
    rw (p.1, p.2) (json_refuses c.args.bytes.now c.in_err-value.field-0.0 (record { other = c.requires; small = grind arith }) c.in_err-value.ensures.refused)

pub returns-in_err-grammar-clause-refused : goal.returns-in_err-grammar-clause-refused
returns-in_err-grammar-clause-refused c =
    let p = err_from_is_err_and c.from_residual-in_err-grammar.result c.from_residual-in_err-grammar.ensures.1 in
    rw (p.1, p.2) (form_refuses c.args.bytes.now c.in_ok-value.value c.in_err-grammar.field-0.0 (record { other = c.requires; small = grind arith }) c.in_ok-value.ensures.ok c.in_err-grammar.ensures.refused)
