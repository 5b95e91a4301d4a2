use Rattle.std.proofs.Common.{refl}
use Rattle.ts_places.proofs.TurnLemmas.{none_late, up_to}
use Rattle.ts_places.proofs.turns.latest.Goals as goal

pub returns-then-below-own : goal.returns-then-below-own
returns-then-below-own c = none_late c.args.below c.args.rank c.if-below-own.true

pub returns : goal.returns
returns c = up_to c.args.below c.args.rank _ c.if-below-own.false refl
