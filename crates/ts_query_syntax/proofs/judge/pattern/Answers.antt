use Rattle.std.proofs.Common.{◌∙◌, ap}
use Rattle.ts_query_names.specs.Given.{names_told}
use Rattle.ts_query_names.specs.Lent.{mentions_told}
use Rattle.ts_query_names.specs.LentNames.{told}
use Rattle.ts_query_syntax.proofs.JudgeLemmas.{out_at_once, pattern_runs, pattern_is}
use Rattle.ts_query_syntax.proofs.judge.pattern.Goals as goal

pub returns-in_err-level-clause-runs : goal.returns-in_err-level-clause-runs
returns-in_err-level-clause-runs g c = out_at_once _ _ _ c.from_residual.ensures.1

pub returns-in_err-mentions-clause-runs : goal.returns-in_err-mentions-clause-runs
returns-in_err-mentions-clause-runs g c = out_at_once _ _ _ c.from_residual-in_err-mentions.ensures.1

pub returns-in_err-own-clause-runs : goal.returns-in_err-own-clause-runs
returns-in_err-own-clause-runs g c = out_at_once _ _ _ c.from_residual-in_err-own.ensures.1

pub returns-clause-runs : goal.returns-clause-runs
returns-clause-runs g c =
    pattern_runs c.args.scope.now.flat.now c.args.scope.now.hosts.now c.args.part.now (told c.in_ok-own.own.keys) (mentions_told c.as_slice-2.result.now) (mentions_told c.as_slice.result.now) _ _ _
    (ap mentions_told c.as_slice-2.ensures.value ∙ c.in_ok-mentions.ensures) (ap mentions_told c.as_slice.ensures.value ∙ c.in_ok-mentions.ensures) c.in_ok-own.ensures c.in_ok-predicates.ensures.runs

pub returns-clause-is : goal.returns-clause-is
returns-clause-is g c =
    pattern_is c.args.scope.now.hosts.now (names_told c.args.numbers.now) c.args.part.now c.in_ok-level.level c.is_closed-closed.result (mentions_told c.as_slice-2.result.now) c.in_ok-predicates.predicates
    c.in_ok-level.ensures c.is_closed-closed.ensures (ap mentions_told c.as_slice-2.ensures.value ∙ c.in_ok-mentions.ensures) c.in_ok-predicates.ensures.is
