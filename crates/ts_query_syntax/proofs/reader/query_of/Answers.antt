use Rattle.std.proofs.Common.{◌∙◌}
use Rattle.ts_query_syntax.proofs.JudgeLemmas.{at_fault, out_at_once, query_runs}
use Rattle.ts_query_syntax.proofs.reader.query_of.Goals as goal

pub returns-in_err-numbers-clause-runs : goal.returns-in_err-numbers-clause-runs
returns-in_err-numbers-clause-runs g c = out_at_once _ _ _ c.from_residual.ensures.1

pub returns-in_err-scope-clause-runs : goal.returns-in_err-scope-clause-runs
returns-in_err-scope-clause-runs g c = out_at_once _ _ _ c.from_residual-in_err-scope.ensures.1

pub returns-in_err-captures-clause-runs : goal.returns-in_err-captures-clause-runs
returns-in_err-captures-clause-runs g c = out_at_once _ _ _ c.from_residual-in_err-captures.ensures.1

pub returns-in_err-kinds-clause-runs : goal.returns-in_err-kinds-clause-runs
returns-in_err-kinds-clause-runs g c = out_at_once _ _ _ c.from_residual-in_err-kinds.ensures.1

pub returns-in_err-patterns-clause-runs : goal.returns-in_err-patterns-clause-runs
returns-in_err-patterns-clause-runs g c =
    at_fault _ _ _ c.in_err-patterns.field-0.0 _ c.from_residual-in_err-patterns.ensures.1
    (query_runs _ _ _ _ _ _ _ _ _ c.in_ok-scope.ensures.flat (c.in_ok-scope.ensures.hosts ∙ c.as_slice-2.ensures) c.as_slice-3.ensures c.in_err-patterns.ensures.runs)
