use Rattle.std.proofs.Common.{length}
use Rattle.ts_gss.specs.Stacks.{IsOneStack}
use Rattle.ts_crossing.proofs.LeftLemmas.{Pushed}
use Rattle.ts_crossing.proofs.leaving.push_all.Given as goal

abbrev pub invariant-loop-piece : goal.invariant-loop-piece
invariant-loop-piece l = record {
  one : IsOneStack l.stacks l.top;
  stack : Pushed l.fn.pieces.items l.fn.stacks l.fn.below l.left.items l.stacks l.top;
}

abbrev pub decreases-loop-piece : goal.decreases-loop-piece
decreases-loop-piece l = length l.left.items
