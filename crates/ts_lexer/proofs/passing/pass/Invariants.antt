use Rattle.std.proofs.Common.{◌≡◌, ◌+◌, ◌≤◌, length}
use Rattle.std.specs.Str.{IsUtf8}
use Rattle.ts_core.specs.declared.flat.FlatGrammar.{FlatGrammar}
use Rattle.ts_automata.specs.Walks.{walk_room}
use Rattle.ts_lexer.specs.Ways.{IsReadyFor}
use Rattle.ts_lexer.proofs.PassLemmas.{Passing}
use Rattle.ts_lexer.proofs.passing.pass.Given as goal

abbrev pub invariant-passing : goal.invariant-passing
invariant-passing l = record {
  whole : l.pad + length l.rest ≡ length l.text;
  utf8 : IsUtf8 l.rest;
  near : l.extent ≤ length l.text + 1;
  room : walk_room l.walk ≡ walk_room l.fn.walk;
  passing : (g : FlatGrammar) → IsReadyFor g l.valid l.way l.view l.pair (walk_room l.fn.walk) → Passing g l.valid l.text l.rest l.first l.pad l.extent;
}

abbrev pub decreases-passing : goal.decreases-passing
decreases-passing l = length l.rest
