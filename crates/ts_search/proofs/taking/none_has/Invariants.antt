use Rattle.std.proofs.Common.{take, ℕ}
use Rattle.std.specs.List.{Contains}
use Rattle.ts_search.specs.Ways.{HasOne}
use Rattle.ts_search.proofs.taking.none_has.Given as goal

abbrev pub invariant-loop-n : goal.invariant-loop-n
invariant-loop-n l = (n : ℕ) → Contains (take l.n-index l.numbers) n → HasOne l.sight.nodes l.without n → ⊥
