use Rattle.std.proofs.Common.{◌<◌, ◌+◌, ◌≡◌, ◌++◌, List, length}
use Rattle.std.specs.Str.Iter.{chars_rest}
use Rattle.ts_base.specs.Bytes.{Bytes}
use Rattle.ts_core.specs.declared.flat.FlatGrammar.{FlatGrammar}
use Rattle.ts_core.specs.declared.symbol.Symbol.{Symbol}
use Rattle.ts_automata.specs.Automata.{IsAutomaton}
use Rattle.ts_automata.specs.Machine.{HasRead, state_count}
use Rattle.ts_lexer.specs.Rules.{IsRules}
use Rattle.ts_lexer.specs.Runs.{Running}
use Rattle.ts_lexer.specs.Views.{IsView}
use Rattle.ts_lexer.proofs.scanning.read_by_nodes.Given as goal

abbrev pub invariant-loop-c : goal.invariant-loop-c
invariant-loop-c l = record {
  within : l.state < state_count l.machine;
  fits : l.size + length (chars_rest l.c-iterator) ≡ l.run.size + length l.piece;
  running : (g : FlatGrammar) (valid : List Symbol) (rest tail : Bytes) → IsRules g l.rules → IsView g valid l.view → IsAutomaton g l.machine.automaton
      → Running (λ w. HasRead l.machine w l.run.state) g valid l.first rest (l.piece ++ tail) l.run.size l.run.progress
      → Running (λ w. HasRead l.machine w l.state) g valid l.first rest (chars_rest l.c-iterator ++ tail) l.size l.progress;
}
