use Rattle.std.proofs.Common.{◌∙◌, sym, ap, refl, ◌++◌, Bool}
use Rattle.ts_numbering.specs.Keys.{rules_told}
use Rattle.ts_numbering.specs.Surveys.{kept_if}
use Rattle.ts_numbering.proofs.SurveyLemmas.{rules_new}
use Rattle.ts_numbering.proofs.survey.put.Goals as goal

pub returns-in_ok-insert : goal.returns-in_ok-insert
returns-in_ok-insert c absent =
    rules_new c.args.rules.now.entries c.insert.new.self.entries _ _ c.args.rule.now c.in_ok-insert.ensures.entries refl absent
    ∙ ap (λ (b : Bool). rules_told c.args.rules.now.entries ++ kept_if b c.args.rule.now) (sym c.if-wanted.true)
