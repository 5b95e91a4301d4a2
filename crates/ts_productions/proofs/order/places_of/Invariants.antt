use Rattle.std.proofs.Common.{◌≡◌, map, take}
use Rattle.ts_productions.specs.Orders.{place_of}
use Rattle.ts_productions.proofs.order.places_of.Given as goal

abbrev pub invariant-loop-rule : goal.invariant-loop-rule
invariant-loop-rule l = l.places.items ≡ map place_of (take l.rule-index l.rules)
