use Rattle.std.proofs.Common.{take}
use Rattle.std.specs.List.{Contains}
use Rattle.ts_automata.specs.Sets.{Adds}
use Rattle.ts_tokens.proofs.paths.add_row.Given as goal

abbrev pub invariant-loop-node : goal.invariant-loop-node
invariant-loop-node l = Adds (Contains (take l.node-index l.row)) l.initial.found.keys l.found.keys
