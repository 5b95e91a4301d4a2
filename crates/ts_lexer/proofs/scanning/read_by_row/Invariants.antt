use Rattle.std.proofs.Common.{◌<◌, ◌≤◌, ◌-◌, ◌+◌, ◌++◌, Bool, List, length, drop}
use Rattle.std.specs.Str.{IsUtf8}
use Rattle.ts_base.specs.Bytes.{Bytes}
use Rattle.ts_core.specs.declared.flat.FlatGrammar.{FlatGrammar}
use Rattle.ts_core.specs.declared.symbol.Symbol.{Symbol}
use Rattle.ts_automata.specs.Automata.{IsAutomaton}
use Rattle.ts_automata.specs.Machine.{HasRead, state_count}
use Rattle.ts_lexer.specs.Rules.{IsRules}
use Rattle.ts_lexer.specs.Runs.{Running}
use Rattle.ts_lexer.specs.Ahead.{AreVerdicts}
use Rattle.ts_lexer.proofs.scanning.read_by_row.Given as goal

abbrev pub invariant-reading : goal.invariant-reading
invariant-reading l = record {
  set : l.state < state_count l.machine;
  within : l.place ≤ length l.piece;
  utf8 : IsUtf8 (drop l.place l.piece);
  running : (g : FlatGrammar) (valid : List Symbol) (first : Bool) (rest tail : Bytes) → IsRules g l.rules → AreVerdicts g valid first l.machine l.row → IsAutomaton g l.machine.automaton
      → Running (λ w. HasRead l.machine w l.run.state) g valid first rest (l.piece ++ tail) l.run.size l.run.progress
      → Running (λ w. HasRead l.machine w l.state) g valid first rest (drop l.place l.piece ++ tail) (l.run.size + l.place) l.progress;
}

abbrev pub decreases-reading : goal.decreases-reading
decreases-reading l = length l.piece - l.place
