use Rattle.std.proofs.Common.{refl}
use Rattle.ts_places.proofs.choosing.stick.Goals as goal

pub returns-then-goes_past-clause-others : goal.returns-then-goes_past-clause-others
returns-then-goes_past-clause-others c q past = (c.args.place, refl, c.if-goes_past.ensures.yes refl q past)
