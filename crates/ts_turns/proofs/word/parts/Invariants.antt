use Rattle.std.proofs.Common.{map, Bor}
use Rattle.ts_base.specs.Bytes.{Bytes}
use Rattle.ts_turns.proofs.TurnsLemmas.{AreNamed}
use Rattle.ts_turns.proofs.word.parts.Given as goal

abbrev pub invariant-loop-part : goal.invariant-loop-part
invariant-loop-part l = AreNamed (map (λ (p : Bor Bytes). p.now) l.yielded) l.order.items
