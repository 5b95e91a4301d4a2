use Rattle.std.proofs.Common.{◌≡◌, map, take}
use Rattle.ts_tokens.specs.Paths.{rank_of}
use Rattle.ts_tokens.proofs.paths.ranks_in.Given as goal

abbrev pub invariant-loop-mark : goal.invariant-loop-mark
invariant-loop-mark l = l.ranks.items ≡ map rank_of (take l.mark-index l.marks)
