use Rattle.std.proofs.Common.{◌∙◌}
use Rattle.ts_numbering.proofs.NumberLemmas.{rules_place, or_none, or_some}
use Rattle.ts_numbering.proofs.trees.rule_number.Goals as goal

pub returns-in-Some : goal.returns-in-Some
returns-in-Some c = or_some _ _ _ _ _ c.rules_from.ensures (c.in-Some.ensures.index ∙ rules_place c.args.numbering.now.survey.rules.entries c.args.name.now)

pub returns-in-None : goal.returns-in-None
returns-in-None c = or_none _ _ _ _ c.other_rule_number.ensures (c.in-None.ensures.index ∙ rules_place c.args.numbering.now.survey.rules.entries c.args.name.now)
