use Rattle.std.proofs.Common.{◌≡◌, ◌<◌, ◌≤◌, ℕ, length}
use Rattle.ts_gss.specs.Stacks.{stack_at}
use Rattle.ts_gss.specs.Paths.{Taking, AreDepthsOf, depths_of}
use Rattle.ts_gss.proofs.graph.Graph.take_off.Given as goal

abbrev pub invariant-loop-wanting : goal.invariant-loop-wanting
invariant-loop-wanting l = record {
  within : l.at < length l.self;
  low : l.at ≤ l.head;
  same : (k : ℕ) → k ≤ l.at → stack_at l.self k ≡ stack_at l.fn.self k;
  taking : Taking (stack_at l.fn.self l.head) l.count l.taken.items (stack_at l.fn.self l.at) l.wanting;
  depths : AreDepthsOf (depths_of (length l.taken.items) (stack_at l.fn.self l.head)) l.first l.others;
}

abbrev pub decreases-loop-wanting : goal.decreases-loop-wanting
decreases-loop-wanting l = l.at
