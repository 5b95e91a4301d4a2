use Rattle.std.proofs.Common.{take, ◌∷◌, []}
use Rattle.ts_automata.specs.Classes.{HasBounds, OfNodes}
use Rattle.ts_automata.proofs.classes.bounds_of.Given as goal

abbrev pub invariant-loop-node : goal.invariant-loop-node
invariant-loop-node l = HasBounds (OfNodes (take l.node-index l.nodes)) (0 ∷ []) l.all.items
