use Rattle.std.proofs.Common.{◌<◌, ◌≤◌, ◌-◌, ◌++◌, Bool, List, length, drop}
use Rattle.std.specs.Str.{IsUtf8}
use Rattle.ts_base.specs.Bytes.{Bytes}
use Rattle.ts_core.specs.declared.flat.FlatGrammar.{FlatGrammar}
use Rattle.ts_core.specs.declared.symbol.Symbol.{Symbol}
use Rattle.ts_automata.specs.Automata.{IsAutomaton}
use Rattle.ts_automata.specs.Machine.{HasRead, state_count}
use Rattle.ts_lexer.specs.Ahead.{AreVerdicts}
use Rattle.ts_lexer.specs.Rules.{IsRules}
use Rattle.ts_lexer.specs.Runs.{Running}
use Rattle.ts_lexer.specs.Scanned.{Turns}
use Rattle.ts_lexer.proofs.within.scan_within.Given as goal

abbrev pub invariant-reading : goal.invariant-reading
invariant-reading l = record {
  set : l.state < state_count l.machine;
  rises : l.from ≤ l.here.place;
  within : l.here.place < length l.piece;
  utf8 : IsUtf8 (drop l.here.place l.piece);
  turns : Turns l.machine l.state (drop l.here.place l.piece) l.here.turn;
  running : (g : FlatGrammar) (valid : List Symbol) (first : Bool) (tail : Bytes) → IsRules g l.rules → AreVerdicts g valid first l.machine l.row → IsAutomaton g l.machine.automaton → IsUtf8 tail
      → Running (λ w. HasRead l.machine w l.state) g valid first (drop l.from l.piece ++ tail) (drop l.here.place l.piece ++ tail) (l.here.place - l.from) l.progress;
}

abbrev pub decreases-reading : goal.decreases-reading
decreases-reading l = length l.piece - l.here.place
