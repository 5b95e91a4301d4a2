use Rattle.ts_core.specs.declared.rule.Rule.TheVariants as rule
use Rattle.ts_rules.proofs.SightLemmas.{nothing_below, below_blank, below_literal, below_pattern, below_symbol}
use Rattle.ts_rules.proofs.sights.+see.Goals as goal

pub see_below-returns-in-Blank : goal.see_below-returns-in-Blank
see_below-returns-in-Blank t c = nothing_below _ rule.Blank _ _ c.in-Blank.is (below_blank _)

pub see_below-returns-in-Literal : goal.see_below-returns-in-Literal
see_below-returns-in-Literal t c = nothing_below _ (rule.Literal _) _ _ c.in-Literal.is (below_literal _ _)

pub see_below-returns-in-Pattern : goal.see_below-returns-in-Pattern
see_below-returns-in-Pattern t c = nothing_below _ (rule.Pattern _ _) _ _ c.in-Pattern.is (below_pattern _ _ _)

pub see_below-returns-in-Symbol : goal.see_below-returns-in-Symbol
see_below-returns-in-Symbol t c = nothing_below _ (rule.Symbol _) _ _ c.in-Symbol.is (below_symbol _ _)
