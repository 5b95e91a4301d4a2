use Rattle.ts_rules.specs.Names.{told}
use Rattle.ts_tokens.specs.Inlining.{IsRuleGraph}
use Rattle.ts_tokens.specs.Paths.{graph_of}
use Rattle.ts_tokens.proofs.inlining.rows_of.Given as goal

abbrev pub invariant-loop-rule : goal.invariant-loop-rule
invariant-loop-rule l = IsRuleGraph l.rules (told l.inline.keys) l.rule-index (graph_of l.rows.items)
