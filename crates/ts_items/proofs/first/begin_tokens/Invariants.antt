use Rattle.std.proofs.Common.{ℕ, ◌<◌, ◌≤◌, ◌⊎◌, ◌↔◌}
use Rattle.std.specs.List.{Contains}
use Rattle.ts_items.specs.Sets.{GainsTokens}
use Rattle.ts_items.proofs.GainLemmas.{Selves}
use Rattle.ts_items.proofs.first.begin_tokens.Given as goal

abbrev pub invariant-loop-token : goal.invariant-loop-token
invariant-loop-token l = record {
  gains : GainsTokens (Selves l.token) l.initial.sets l.sets;
  queue : (y : ℕ) → Contains l.queue.items y ↔ (Contains l.initial.queue.items y ⊎ ((0 < y) × (y ≤ l.token)));
}
