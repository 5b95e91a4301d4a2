use Rattle.std.proofs.Common.{◌≡◌, ◌-◌}
use Rattle.ts_langfile.specs.Reader.{times}
use Rattle.ts_langfile.specs.Parts.{step_at}
use Rattle.ts_langfile.proofs.LoopLemmas.{with_front}
use Rattle.ts_langfile.proofs.rule.steps.Given as goal

abbrev pub invariant-loop : goal.invariant-loop
invariant-loop l = with_front l.steps (times (l.count - l.counter) (step_at l.symbols l.known) l.rest) ≡ times l.count (step_at l.symbols l.known) l.initial.rest
