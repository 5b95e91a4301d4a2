use Rattle.std.proofs.Common.{◌+◌, ◌≡◌, List, length}
use Rattle.ts_base.specs.Bytes.{Bytes}
use Rattle.ts_core.specs.declared.flat.FlatGrammar.{FlatGrammar}
use Rattle.ts_core.specs.declared.symbol.Symbol.{Symbol}
use Rattle.ts_automata.specs.Walks.{walk_room}
use Rattle.ts_lexer.specs.Runs.{IsRun}
use Rattle.ts_lexer.specs.Ways.{IsReadyFor, IsSetOn, LeadsOn}
use Rattle.ts_lexer.proofs.walking.read_on.Given as goal

abbrev pub invariant-pieces : goal.invariant-pieces
invariant-pieces l = record {
  set : IsSetOn l.way l.run.state;
  fits : l.run.size + length l.rest ≡ l.from.size + length l.left;
  room : walk_room l.walk ≡ walk_room l.fn.walk;
  running : (g : FlatGrammar) (valid : List Symbol) (whole : Bytes) → IsReadyFor g valid l.way l.view l.pair (walk_room l.fn.walk) → IsRun (LeadsOn l.way l.fn.walk) g valid l.first whole l.left l.from
      → IsRun (LeadsOn l.way l.walk) g valid l.first whole l.rest l.run;
}

abbrev pub decreases-pieces : goal.decreases-pieces
decreases-pieces l = length l.rest
