use Rattle.std.proofs.Common.{take, ℕ}
use Rattle.std.specs.List.{Contains}
use Rattle.ts_search.proofs.taking.meet.Given as goal

abbrev pub invariant-loop-field : goal.invariant-loop-field
invariant-loop-field l = (f : ℕ) → Contains (take l.field-index l.without) f → Contains l.fields f → ⊥
