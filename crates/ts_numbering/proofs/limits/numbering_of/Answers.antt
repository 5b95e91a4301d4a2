use Rattle.std.proofs.Common.{◌≡◌, Err, Ok}
use Rattle.std.proofs.lemmas.Result.{err_from_is_err_and}
use Rattle.ts_rules.specs.Names.{told}
use Rattle.ts_numbering.specs.Keys.{rules_told, aliases_told}
use Rattle.ts_numbering.specs.Numberings.{lists_with}
use Rattle.ts_numbering.specs.declared.limits.NumberFault.{NumberFault}
use Rattle.ts_numbering.proofs.GrammarLemmas.{are_numbers}
use Rattle.ts_numbering.proofs.LimitLemmas.{lists_are, neither, same_error, few_symbols, few_names}
use Rattle.ts_numbering.proofs.limits.numbering_of.Goals as goal

pub returns-in_err-fields-clause-symbols : goal.returns-in_err-fields-clause-symbols
returns-in_err-fields-clause-symbols c = let p = err_from_is_err_and c.from_residual.result c.from_residual.ensures.1 in
    let s = c.in_err-fields.ensures.symbols in rw (p.1, p.2) (λ e. s.0 (same_error _ _ e), λ m. same_error _ _ (s.1 m))

pub returns-in_err-fields-clause-names : goal.returns-in_err-fields-clause-names
returns-in_err-fields-clause-names c = let p = err_from_is_err_and c.from_residual.result c.from_residual.ensures.1 in
    let s = c.in_err-fields.ensures.names in rw (p.1, p.2) (λ e. s (same_error _ _ e))

pub invariant_of-result : goal.invariant_of-result
invariant_of-result c =
    let are = lists_are c.args.grammar.now c.args.survey (told c.in_ok-fields.field-0.fields.keys) (told c.in_ok-fields.field-0.precs.keys) c.requires.survey c.in_ok-fields.ensures.fields c.in_ok-fields.ensures.precs in
    let names = few_names c.args.grammar.now c.args.survey c.in_ok-fields.field-0.fields.keys c.in_ok-fields.field-0.precs.keys are c.in_ok-fields.ensures.fits.1 in
    record {
      few_symbols = few_symbols c.args.grammar.now c.args.survey (told c.in_ok-fields.field-0.fields.keys) (told c.in_ok-fields.field-0.precs.keys) c.requires.file c.requires.survey are c.in_ok-fields.ensures.fits.0;
      few_fields = names.0;
      few_precs = names.1;
    }

pub returns-clause-lists : goal.returns-clause-lists
returns-clause-lists c =
    lists_are c.args.grammar.now c.args.survey (told c.in_ok-fields.field-0.fields.keys) (told c.in_ok-fields.field-0.precs.keys) c.requires.survey c.in_ok-fields.ensures.fields c.in_ok-fields.ensures.precs

pub returns-clause-numbers : goal.returns-clause-numbers
returns-clause-numbers c =
    let are = lists_are c.args.grammar.now c.args.survey (told c.in_ok-fields.field-0.fields.keys) (told c.in_ok-fields.field-0.precs.keys) c.requires.survey c.in_ok-fields.ensures.fields c.in_ok-fields.ensures.precs in
    are_numbers c.args.grammar.now c.requires.file (lists_with c.args.survey (told c.in_ok-fields.field-0.fields.keys) (told c.in_ok-fields.field-0.precs.keys)) are (rules_told c.args.survey.named.entries) (aliases_told c.in_ok-fields.field-0.aliases.keys) c.requires.survey.named c.in_ok-fields.ensures.aliases

pub returns-clause-symbols : goal.returns-clause-symbols
returns-clause-symbols c = neither _ _ (λ e. let f : Ok _ ≡ Err NumberFault.Symbols = e in cc) c.in_ok-fields.ensures.fits.0

pub returns-clause-fits : goal.returns-clause-fits
returns-clause-fits c = c.in_ok-fields.ensures.fits
