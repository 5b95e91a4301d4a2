use Rattle.std.proofs.Common.{◌≡◌, ◌-◌}
use Rattle.ts_langfile.specs.Reader.{in_turn}
use Rattle.ts_langfile.specs.Parts.{supertype_at, behind_symbol}
use Rattle.ts_langfile.proofs.LoopLemmas.{with_front}
use Rattle.ts_langfile.proofs.symbols.supertypes.Given as goal

abbrev pub invariant-loop : goal.invariant-loop
invariant-loop l = with_front l.symbols (in_turn (supertype_at l.tokens l.rules) behind_symbol (l.count - l.counter) l.least l.rest) ≡ in_turn (supertype_at l.tokens l.rules) behind_symbol l.count l.initial.least l.initial.rest
