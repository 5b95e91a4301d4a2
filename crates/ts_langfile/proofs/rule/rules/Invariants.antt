use Rattle.std.proofs.Common.{◌≡◌, ◌-◌, length}
use Rattle.ts_langfile.specs.Reader.{in_turn}
use Rattle.ts_langfile.specs.Parts.{rule_at, left_after}
use Rattle.ts_langfile.proofs.LoopLemmas.{with_front}
use Rattle.ts_langfile.proofs.rule.rules.Given as goal

abbrev pub invariant-loop : goal.invariant-loop
invariant-loop l = (with_front l.rules (in_turn (rule_at l.symbols l.known) left_after (l.count - l.counter) l.left l.rest) ≡ in_turn (rule_at l.symbols l.known) left_after l.count l.initial.left l.initial.rest) × (length l.rules ≡ l.counter)
