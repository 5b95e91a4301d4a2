use Rattle.std.proofs.Common.{◌≡◌, refl, Err, Ok}
use Rattle.ts_rules.specs.Names.{told}
use Rattle.ts_numbering.specs.Limits.{HasManySymbols, HasManyNames}
use Rattle.ts_numbering.specs.Numberings.{lists_with}
use Rattle.ts_numbering.specs.declared.limits.NumberFault.{NumberFault}
use Rattle.ts_numbering.proofs.LimitLemmas.{lists_are, symbols_test, names_test, none_where, neither, other_fault}
use Rattle.ts_numbering.proofs.limits.names_within.Goals as goal

pub returns-then-has_many_symbols-clause-symbols : goal.returns-then-has_many_symbols-clause-symbols
returns-then-has_many_symbols-clause-symbols c =
    let test = symbols_test c.args.grammar.now c.args.survey.now c.has_many_symbols.result c.requires.survey c.has_many_symbols.ensures in (λ _. test.0 c.if-has_many_symbols.true, λ _. refl)

pub returns-in_err-names-clause-symbols : goal.returns-in_err-names-clause-symbols
returns-in_err-names-clause-symbols c =
    let test = symbols_test c.args.grammar.now c.args.survey.now c.has_many_symbols.result c.requires.survey c.has_many_symbols.ensures in
    neither _ _ (other_fault c.from_residual.result c.from_residual.ensures.1) (none_where (HasManySymbols c.args.grammar.now) c.has_many_symbols.result test c.if-has_many_symbols.false)

pub returns-then-are_many_names-clause-symbols : goal.returns-then-are_many_names-clause-symbols
returns-then-are_many_names-clause-symbols c =
    let test = symbols_test c.args.grammar.now c.args.survey.now c.has_many_symbols.result c.requires.survey c.has_many_symbols.ensures in
    neither _ _ (λ e. let f : Err NumberFault.Names ≡ Err NumberFault.Symbols = e in cc) (none_where (HasManySymbols c.args.grammar.now) c.has_many_symbols.result test c.if-has_many_symbols.false)

pub returns-then-are_many_names-clause-names : goal.returns-then-are_many_names-clause-names
returns-then-are_many_names-clause-names c e =
    let symbols = symbols_test c.args.grammar.now c.args.survey.now c.has_many_symbols.result c.requires.survey c.has_many_symbols.ensures in
    let are = lists_are c.args.grammar.now c.args.survey.now (told c.in_ok-names.names.fields.keys) (told c.in_ok-names.names.precs.keys) c.requires.survey c.in_ok-names.ensures.fields c.in_ok-names.ensures.precs in
    let names = names_test c.args.grammar.now (lists_with c.args.survey.now (told c.in_ok-names.names.fields.keys) (told c.in_ok-names.names.precs.keys)) c.in_ok-names.names.fields.keys c.in_ok-names.names.precs.keys c.are_many_names.result are refl refl c.are_many_names.ensures in
    (none_where (HasManySymbols c.args.grammar.now) c.has_many_symbols.result symbols c.if-has_many_symbols.false, names.0 c.if-are_many_names.true)

pub returns-clause-symbols : goal.returns-clause-symbols
returns-clause-symbols c =
    let test = symbols_test c.args.grammar.now c.args.survey.now c.has_many_symbols.result c.requires.survey c.has_many_symbols.ensures in
    neither _ _ (λ e. let f : Ok _ ≡ Err NumberFault.Symbols = e in cc) (none_where (HasManySymbols c.args.grammar.now) c.has_many_symbols.result test c.if-has_many_symbols.false)

pub returns-clause-fits : goal.returns-clause-fits
returns-clause-fits c =
    let symbols = symbols_test c.args.grammar.now c.args.survey.now c.has_many_symbols.result c.requires.survey c.has_many_symbols.ensures in
    let are = lists_are c.args.grammar.now c.args.survey.now (told c.in_ok-names.names.fields.keys) (told c.in_ok-names.names.precs.keys) c.requires.survey c.in_ok-names.ensures.fields c.in_ok-names.ensures.precs in
    let names = names_test c.args.grammar.now (lists_with c.args.survey.now (told c.in_ok-names.names.fields.keys) (told c.in_ok-names.names.precs.keys)) c.in_ok-names.names.fields.keys c.in_ok-names.names.precs.keys c.are_many_names.result are refl refl c.are_many_names.ensures in (
      none_where (HasManySymbols c.args.grammar.now) c.has_many_symbols.result symbols c.if-has_many_symbols.false,
      none_where (HasManyNames c.args.grammar.now) c.are_many_names.result names c.if-are_many_names.false,
    )
