use Rattle.std.proofs.Common.{◌-◌, length}
use Rattle.ts_pattern.specs.States.{IsState}
use Rattle.ts_pattern.proofs.state.read.Given as goal

abbrev pub invariant-signs : goal.invariant-signs
invariant-signs l = IsState l.ignore_case l.text l.state

abbrev pub decreases-signs : goal.decreases-signs
decreases-signs l = length l.text - l.state.at
