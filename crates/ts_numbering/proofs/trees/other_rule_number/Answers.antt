use Rattle.std.proofs.Common.{◌∙◌}
use Rattle.ts_numbering.proofs.NumberLemmas.{rules_place, or_none, or_some}
use Rattle.ts_numbering.proofs.trees.other_rule_number.Goals as goal

pub returns-in-Some : goal.returns-in-Some
returns-in-Some c = or_some _ _ _ _ _ c.inlined_from.ensures (c.in-Some.ensures.index ∙ rules_place c.args.numbering.now.survey.inlined.entries c.args.name.now)

pub returns-in-None : goal.returns-in-None
returns-in-None c = or_none _ _ _ _ c.named_token_number.ensures (c.in-None.ensures.index ∙ rules_place c.args.numbering.now.survey.inlined.entries c.args.name.now)
