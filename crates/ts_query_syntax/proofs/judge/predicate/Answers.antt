use Rattle.ts_query_syntax.proofs.JudgeLemmas.{flawed}
use Rattle.ts_query_syntax.proofs.judge.predicate.Goals as goal

pub returns-in_err-wanted-clause-runs : goal.returns-in_err-wanted-clause-runs
returns-in_err-wanted-clause-runs g c = flawed _ _ c.in_err-wanted.field-0.0 _ c.from_residual.ensures.1 c.in_err-wanted.ensures.refused
