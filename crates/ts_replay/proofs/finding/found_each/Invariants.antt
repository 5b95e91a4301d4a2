use Rattle.std.proofs.Common.{take}
use Rattle.ts_replay.proofs.FindLemmas.{Belong}
use Rattle.ts_replay.proofs.finding.found_each.Given as goal

abbrev pub invariant-loop-number : goal.invariant-loop-number
invariant-loop-number g l = Belong (g.F.Finder.finds_one l.finder l.text l.tree) (take l.number-index l.numbers) l.results
