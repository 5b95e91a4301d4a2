use Rattle.std.proofs.Common.{◌≡◌}
use Rattle.ts_text.proofs.tests.gives_the_point_of_every_place.Given as goal

abbrev pub invariant-loop-place : goal.invariant-loop-place
invariant-loop-place g l = l.walk ≡ l.initial.walk

abbrev pub invariant-loop-place-2 : goal.invariant-loop-place-2
invariant-loop-place-2 g l = l.leaps ≡ l.initial.leaps
