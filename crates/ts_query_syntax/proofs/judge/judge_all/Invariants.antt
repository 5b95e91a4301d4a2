use Rattle.std.proofs.Common.{take}
use Rattle.std.specs.Prelude.{None}
use Rattle.std.specs.List.{flat_map}
use Rattle.ts_query_names.specs.declared.mention.Mention.{Mention as Lent}
use Rattle.ts_query_names.specs.Checks.{mention_checks}
use Rattle.ts_query_names.specs.Given.{names_told}
use Rattle.ts_query_names.specs.Lent.{mention_told, mentions_told}
use Rattle.ts_query_names.specs.LentNames.{told}
use Rattle.ts_query_syntax.specs.Judging.{Runs, kept}
use Rattle.ts_query_syntax.specs.Queries.{ArePredicates}
use Rattle.ts_query_syntax.proofs.judge.judge_all.Given as goal

abbrev pub invariant-loop-mention : goal.invariant-loop-mention
invariant-loop-mention g l =
    Runs (flat_map (λ (m : Lent). mention_checks l.scope.flat.now l.scope.hosts.now (told l.own.keys) (mention_told m)) (take l.mention-index l.mentions))
    (kept (g.P.Patterns.sources l.fn.patterns) (g.P.Patterns.refusals l.fn.patterns)) (kept (g.P.Patterns.sources l.patterns) (g.P.Patterns.refusals l.patterns)) None
    × ArePredicates l.scope.hosts.now (names_told l.numbers) (mentions_told (take l.mention-index l.mentions)) l.found
