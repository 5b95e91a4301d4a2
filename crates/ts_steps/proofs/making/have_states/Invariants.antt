use Rattle.std.proofs.Common.{◌↔◌, drop}
use Rattle.spec_forced.specs.Sound.{EachHasState}
use Rattle.ts_steps.proofs.making.have_states.Given as goal

abbrev pub invariant-loop-node : goal.invariant-loop-node
invariant-loop-node l = EachHasState l.nodes ↔ EachHasState (drop l.node-index l.nodes)
