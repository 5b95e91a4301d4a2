use Rattle.std.proofs.Common.{◌≡◌}
use Rattle.ts_offer.specs.Ways.{IsWay, weight}
use Rattle.ts_offer.proofs.way.Way.go_to.Given as goal

abbrev pub invariant-loop-turn : goal.invariant-loop-turn
invariant-loop-turn l = record {
  way : IsWay l.self l.place;
  root : l.self.root.now ≡ l.initial.self.root.now;
}

abbrev pub decreases-loop-turn : goal.decreases-loop-turn
decreases-loop-turn l = weight l.self.turns.items
