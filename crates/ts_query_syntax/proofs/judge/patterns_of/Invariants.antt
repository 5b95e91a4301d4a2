use Rattle.std.proofs.Common.{take}
use Rattle.std.specs.Prelude.{None}
use Rattle.ts_query_names.specs.Checks.{checks}
use Rattle.ts_query_names.specs.Given.{names_told}
use Rattle.ts_query_syntax.specs.Judging.{Runs, kept}
use Rattle.ts_query_syntax.specs.Queries.{ArePatterns}
use Rattle.ts_query_syntax.proofs.judge.patterns_of.Given as goal

abbrev pub invariant-loop-part : goal.invariant-loop-part
invariant-loop-part g l =
    Runs (checks l.scope.flat.now l.scope.hosts.now (take l.part-index l.parts))
    (kept (g.P.Patterns.sources l.fn.patterns) (g.P.Patterns.refusals l.fn.patterns)) (kept (g.P.Patterns.sources l.patterns) (g.P.Patterns.refusals l.patterns)) None
    × ArePatterns l.scope.hosts.now (names_told l.numbers) (take l.part-index l.parts) l.found
