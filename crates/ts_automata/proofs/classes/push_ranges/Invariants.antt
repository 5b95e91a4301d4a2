use Rattle.std.proofs.Common.{take}
use Rattle.std.specs.List.{Contains}
use Rattle.ts_automata.specs.Classes.{HasBounds}
use Rattle.ts_automata.proofs.classes.push_ranges.Given as goal

abbrev pub invariant-loop-range : goal.invariant-loop-range
invariant-loop-range l = HasBounds (Contains (take l.range-index l.ranges)) l.initial.all.items l.all.items
