-- The normal form of a grammar that is not refused is fit.
use Rattle.std.proofs.Common.{◌≡◌, ◌∙◌, ap, ◌+◌, List, [], length, arith}
use Rattle.std.proofs.lemmas.List.{length-append}
use Rattle.ts_core.specs.declared.flat.FlatGrammar.{FlatGrammar}
use Rattle.ts_core.specs.declared.flat.FlatRule.{FlatRule}
use Rattle.ts_core.specs.declared.rule.Grammar.{Grammar}
use Rattle.spec_tables.specs.Fit.{Fit, Never}
use Rattle.ts_pattern.specs.Reads.{Reads}
use Rattle.ts_rules.specs.FileGrammar.{IsFileGrammar}
use Rattle.ts_rules.specs.Normal.{IsNormal}
use Rattle.ts_normalise.specs.Texts.{HasFitTexts}
use Rattle.ts_normalise.proofs.FitLimitLemmas.{few_symbols, few_fields, few_precs, few_productions, few_positions_in_all}
use Rattle.ts_normalise.proofs.FitListLemmas.{fit_extras, fit_word, fit_conflicts, fit_precedences, fit_supertypes}
use Rattle.ts_normalise.proofs.FitNameLemmas.{name_short, fields_short, precs_short}
use Rattle.ts_normalise.proofs.FitPatternLemmas.{SpellingLaw}
use Rattle.ts_normalise.proofs.FitPlaceLemmas.{some_own}
use Rattle.ts_normalise.proofs.FitRefusalLemmas.{IsUnrefused}
use Rattle.ts_normalise.proofs.FitRuleLemmas.{fit_rule}
use Rattle.ts_normalise.proofs.FitTokenLemmas.{fit_separators, fit_tokens}

module _ (g : Grammar) (f : FlatGrammar) (normal : IsNormal Reads g f) (file : IsFileGrammar g) (sane : IsUnrefused g) where
  some_rule : Never (f.rules ≡ [])
  some_rule none =
      let some = some_own g f normal file sane in
      let count : length f.rules ≡ length normal.own + length normal.repetitions = ap (λ (rs : List FlatRule). length rs) normal.rules ∙ length-append normal.own normal.repetitions in
      let empty : length f.rules ≡ 0 = ap (λ (rs : List FlatRule). length rs) none in
      let z : ⊥ = omega (arith, some, count, empty) in
      z

  pub fit : SpellingLaw → HasFitTexts g → Fit f
  fit law texts = record {
    name = name_short g f normal file;
    some_rule = some_rule;
    few_symbols = few_symbols g f normal sane;
    few_fields = few_fields g f normal sane;
    few_precs = few_precs g f normal sane;
    few_productions = few_productions g f normal sane;
    few_positions = few_positions_in_all g f normal sane;
    tokens = fit_tokens law g f normal file texts sane;
    rules = fit_rule g f normal file sane;
    separators = fit_separators law g f normal file texts;
    extras = fit_extras g f normal sane file;
    word = fit_word g f normal sane;
    fields = fields_short g f normal file sane;
    precs = precs_short g f normal file sane;
    conflicts = fit_conflicts g f normal sane file;
    precedences = fit_precedences g f normal sane file;
    supertypes = (fit_supertypes g f normal sane, normal.supertypes_rise);
  }
