use Rattle.std.proofs.Common.{◌≤◌}
use Rattle.ts_loading.specs.Reading.{AreLoadedAs}
use Rattle.ts_loading.proofs.loading.read_all.Given as goal

abbrev pub invariant-loop-number : goal.invariant-loop-number
invariant-loop-number g l = (g.P.Patterns.refusals l.initial.patterns ≤ g.P.Patterns.refusals l.patterns)
    × AreLoadedAs l.grammar l.hosts l.texts l.number l.queries (g.P.Patterns.sources l.initial.patterns) (g.P.Patterns.sources l.patterns)
