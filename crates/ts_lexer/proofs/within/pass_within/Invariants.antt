use Rattle.std.proofs.Common.{◌≡◌, ◌≤◌, ◌-◌, ◌+◌, ◌++◌, Bool, List, length, drop}
use Rattle.std.specs.Str.{IsUtf8}
use Rattle.ts_base.specs.Bytes.{Bytes}
use Rattle.ts_core.specs.declared.flat.FlatGrammar.{FlatGrammar}
use Rattle.ts_core.specs.declared.symbol.Symbol.{Symbol}
use Rattle.ts_automata.specs.Machine.{state_count}
use Rattle.ts_lexer.specs.Ahead.{AreVerdicts, HasPair}
use Rattle.ts_lexer.specs.Ways.{AreTablesOf}
use Rattle.ts_lexer.proofs.PassLemmas.{Passing}
use Rattle.ts_lexer.proofs.within.pass_within.Given as goal

abbrev pub invariant-passing : goal.invariant-passing
invariant-passing l = record {
  count : length l.row ≡ state_count l.tables.machine;
  within : l.pad ≤ length l.piece;
  utf8 : IsUtf8 (drop l.pad l.piece);
  near : l.extent ≤ length l.piece + 1;
  passing : (g : FlatGrammar) (valid : List Symbol) (tail : Bytes) → AreTablesOf g l.tables → HasPair g valid l.tables l.pair → IsUtf8 tail
      → (first : Bool) × AreVerdicts g valid first l.tables.machine l.row × Passing g valid (l.piece ++ tail) (drop l.pad l.piece ++ tail) first l.pad l.extent;
}

abbrev pub decreases-passing : goal.decreases-passing
decreases-passing l = length l.piece - l.pad
