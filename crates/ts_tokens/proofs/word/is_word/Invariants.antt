use Rattle.std.proofs.Common.{◌≡◌}
use Rattle.ts_automata.specs.Walks.{HasCome, walk_room}
use Rattle.ts_tokens.specs.Keywords.{HasRoomFor}
use Rattle.ts_tokens.proofs.word.is_word.Given as goal

abbrev pub invariant-loop-c : goal.invariant-loop-c
invariant-loop-c l = (walk_room l.walk ≡ walk_room l.fn.walk) × (HasRoomFor l.automaton l.fn.walk → HasCome l.automaton l.yielded l.walk)
