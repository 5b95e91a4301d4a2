use Rattle.std.proofs.Common.{Option, ℕ, subst}
use Rattle.ts_fit.specs.Searches.{IsRuleAt}
use Rattle.ts_fit.proofs.RepeatLemmas.{no_owner}
use Rattle.ts_fit.proofs.repetitions.has_owner.Goals as goal

pub returns-in-None : goal.returns-in-None
returns-in-None c =
    no_owner c.args.grammar.now c.args.rule.now (subst (λ (p : Option ℕ). IsRuleAt c.args.grammar.now c.args.rule.now.owner p) c.in-None.is c.rule_place.ensures)
