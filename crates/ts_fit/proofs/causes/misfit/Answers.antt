use Rattle.std.proofs.Common.{arith, subst, sym, refl, ℕ, Option, None, true≢false, ◌∙◌}
use Rattle.std.proofs.lemmas.Option.{slice_get_within}
use Rattle.ts_core.specs.declared.limits.Unfit.{Unfit}
use Rattle.ts_core.specs.declared.symbol.Symbol.{Symbol}
use Rattle.ts_fit.specs.Misfits.{FindsFirst, HasNoMisfit, Misfits, repetition, empty_token, empty_rule, cyclic, too_many}
use Rattle.spec_tables.specs.Fit.{IsCyclic}
use Rattle.ts_fit.proofs.CauseLemmas.{not_fit, is_fit}
use Rattle.ts_fit.proofs.CyclicLemmas.{cyclic_within}
use Rattle.ts_fit.proofs.causes.misfit.Goals as goal

pub returns-in-Some-clause-some : goal.returns-in-Some-clause-some
returns-in-Some-clause-some c =
    subst (λ (s : Symbol). Misfits c.args.grammar.now (Unfit.Repetition s)) (sym c.rule_at.ensures) (repetition c.in-Some.place c.in-Some.ensures.some)

pub token_at-requires : goal.token_at-requires
token_at-requires c =
    let h = c.in-Some-first_empty_token.ensures.holds in
    let lt = slice_get_within c.args.grammar.now.tokens c.in-Some-first_empty_token.place h.0 h.1 in
    omega (arith, lt, c.requires.few_symbols)

pub returns-in-Some-first_empty_token-clause-some : goal.returns-in-Some-first_empty_token-clause-some
returns-in-Some-first_empty_token-clause-some c =
    subst (λ (s : Symbol). Misfits c.args.grammar.now (Unfit.EmptyToken s)) (sym c.token_at.ensures) (empty_token c.in-Some-first_empty_token.place c.in_default.ensures.none c.in-Some-first_empty_token.ensures)

pub returns-in-Some-first_empty_token-clause-fit : goal.returns-in-Some-first_empty_token-clause-fit
returns-in-Some-first_empty_token-clause-fit c formed =
    not_fit c.args.grammar.now (Unfit.EmptyToken c.token_at.result) (returns-in-Some-first_empty_token-clause-some c)

pub rule_at-requires-in-Some-first_empty_rule-clause-there : goal.rule_at-requires-in-Some-first_empty_rule-clause-there
rule_at-requires-in-Some-first_empty_rule-clause-there c =
    let h = c.in-Some-first_empty_rule.ensures.holds in slice_get_within c.args.grammar.now.rules c.in-Some-first_empty_rule.place h.0 h.1

pub returns-in-Some-first_empty_rule-clause-some : goal.returns-in-Some-first_empty_rule-clause-some
returns-in-Some-first_empty_rule-clause-some c =
    subst (λ (s : Symbol). Misfits c.args.grammar.now (Unfit.EmptyRule s)) (sym c.rule_at-in-Some-first_empty_rule.ensures)
    (empty_rule c.in-Some-first_empty_rule.place c.in_default.ensures.none c.in_default-first_empty_token.ensures c.in-Some-first_empty_rule.ensures)

pub returns-in-Some-first_empty_rule-clause-fit : goal.returns-in-Some-first_empty_rule-clause-fit
returns-in-Some-first_empty_rule-clause-fit c formed =
    not_fit c.args.grammar.now (Unfit.EmptyRule c.rule_at-in-Some-first_empty_rule.result) (returns-in-Some-first_empty_rule-clause-some c)

pub rule_at-requires-in-Some-2-clause-there : goal.rule_at-requires-in-Some-2-clause-there
rule_at-requires-in-Some-2-clause-there c =
    let h = subst (λ (p : Option ℕ). FindsFirst (IsCyclic c.args.grammar.now) p) c.in-Some-2.is c.in_ok-place.ensures in
    cyclic_within c.args.grammar.now c.in-Some-2.place h.holds

pub returns-in-Some-2-clause-some : goal.returns-in-Some-2-clause-some
returns-in-Some-2-clause-some c =
    let h = subst (λ (p : Option ℕ). FindsFirst (IsCyclic c.args.grammar.now) p) c.in-Some-2.is c.in_ok-place.ensures in
    subst (λ (s : Symbol). Misfits c.args.grammar.now (Unfit.Cyclic s)) (sym c.rule_at-in-Some-2.ensures)
    (cyclic c.in-Some-2.place c.in_default.ensures.none c.in_default-first_empty_token.ensures c.in_default-first_empty_rule.ensures h)

pub returns-in-Some-2-clause-fit : goal.returns-in-Some-2-clause-fit
returns-in-Some-2-clause-fit c formed =
    not_fit c.args.grammar.now (Unfit.Cyclic c.rule_at-in-Some-2.result) (returns-in-Some-2-clause-some c)

pub returns-then-has_few_positions-clause-fit : goal.returns-then-has_few_positions-clause-fit
returns-then-has_few_positions-clause-fit c formed =
    let straight = subst (λ (p : Option ℕ). FindsFirst (IsCyclic c.args.grammar.now) p) c.in_default-2.is c.in_ok-place.ensures in
    let none : HasNoMisfit c.args.grammar.now = record {
      repetitions = c.in_default.ensures.none;
      tokens = c.in_default-first_empty_token.ensures;
      rules = c.in_default-first_empty_rule.ensures;
      straight = straight;
      few_positions = c.has_few_positions.ensures.0 c.if-has_few_positions.true;
    } in
    is_fit c.args.grammar.now None refl none formed

pub returns-else-has_few_positions-clause-some : goal.returns-else-has_few_positions-clause-some
returns-else-has_few_positions-clause-some c =
    let straight = subst (λ (p : Option ℕ). FindsFirst (IsCyclic c.args.grammar.now) p) c.in_default-2.is c.in_ok-place.ensures in
    too_many c.in_default.ensures.none c.in_default-first_empty_token.ensures c.in_default-first_empty_rule.ensures straight (λ few. true≢false (sym (c.has_few_positions.ensures.1 few) ∙ c.if-has_few_positions.false))
