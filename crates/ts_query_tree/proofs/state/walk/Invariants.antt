use Rattle.std.proofs.Common.{◌-◌, length}
use Rattle.ts_query_tree.specs.States.{IsState}
use Rattle.ts_query_tree.proofs.state.walk.Given as goal

abbrev pub invariant-signs : goal.invariant-signs
invariant-signs l = IsState l.text l.state

abbrev pub decreases-signs : goal.decreases-signs
decreases-signs l = length l.text - l.state.at
