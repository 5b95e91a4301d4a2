use Rattle.ts_glr.specs.Outcomes.{value_of_outcome}
use Rattle.ts_top.proofs.JudgeLemmas.{line_told}
use Rattle.ts_top.proofs.outcome.line_of.Goals as goal

pub outcome_line-requires : goal.outcome_line-requires
outcome_line-requires c = record { lies = c.fresh_trees_lie_in_the_text.ensures c.args.table.now.grammar c.args.text.now (value_of_outcome c.in_ok-outcome.outcome) c.in_ok-outcome.ensures }

pub returns : goal.returns
returns c = line_told c.args.table.now.grammar c.grammar.result.now c.args.text.now (value_of_outcome c.in_ok-outcome.outcome) c.in_ok-line.line c.grammar.ensures c.in_ok-outcome.ensures c.in_ok-line.ensures.line
