use Rattle.std.proofs.Common.{◌∙◌, ap, Err}
use Rattle.ts_query_syntax.specs.declared.patterns.BuildFault.{BuildFault}
use Rattle.ts_query_syntax.proofs.BuiltLemmas.{built_ok, built_refused, built_memory}
use Rattle.ts_query_syntax.proofs.asked.built.Goals as goal

pub returns-in-Ok-clause-runs : goal.returns-in-Ok-clause-runs
returns-in-Ok-clause-runs g c = built_ok c.args.text.now c.text.result.now _ _ c.build.result c.text.ensures c.build.ensures.added c.build.ensures.same c.build.ensures.later c.build.ensures.refused _ c.in-Ok.is

pub returns-in-Err-Refused-clause-runs : goal.returns-in-Err-Refused-clause-runs
returns-in-Err-Refused-clause-runs g c = built_refused c.args.text.now c.text.result.now _ _ c.build.result c.text.ensures c.build.ensures.added c.build.ensures.same c.build.ensures.later c.build.ensures.refused (c.in-Err-Refused.is ∙ ap (λ (e : BuildFault). Err e) c.in-Err-Refused.field-0-is)

pub returns-in-Err-Memory-clause-runs : goal.returns-in-Err-Memory-clause-runs
returns-in-Err-Memory-clause-runs g c = built_memory c.args.text.now c.text.result.now _ _ c.build.result c.text.ensures c.build.ensures.added c.build.ensures.same c.build.ensures.later c.build.ensures.refused (c.in-Err-Memory.is ∙ ap (λ (e : BuildFault). Err e) c.in-Err-Memory.field-0-is)
