use Rattle.std.proofs.Common.{◌+◌, ◌≡◌, ◌++◌, List, length}
use Rattle.std.specs.Str.Iter.{chars_rest}
use Rattle.ts_base.specs.Bytes.{Bytes}
use Rattle.ts_core.specs.declared.flat.FlatGrammar.{FlatGrammar}
use Rattle.ts_core.specs.declared.symbol.Symbol.{Symbol}
use Rattle.ts_automata.specs.Walks.{HasCome, walk_room}
use Rattle.ts_lexer.specs.Runs.{Running}
use Rattle.ts_lexer.specs.Views.{IsView}
use Rattle.ts_lexer.specs.Ways.{AreNodesOf}
use Rattle.ts_lexer.proofs.walking.read_by_walk.Given as goal

abbrev pub invariant-loop-c : goal.invariant-loop-c
invariant-loop-c l = record {
  room : walk_room l.walk ≡ walk_room l.fn.walk;
  fits : l.size + length (chars_rest l.c-iterator) ≡ l.run.size + length l.piece;
  running : (g : FlatGrammar) (valid : List Symbol) (rest tail : Bytes) → AreNodesOf g l.nodes (walk_room l.fn.walk) → IsView g valid l.view
      → Running (λ w. HasCome l.nodes.automaton w l.fn.walk) g valid l.first rest (l.piece ++ tail) l.run.size l.run.progress
      → Running (λ w. HasCome l.nodes.automaton w l.walk) g valid l.first rest (chars_rest l.c-iterator ++ tail) l.size l.progress;
}
