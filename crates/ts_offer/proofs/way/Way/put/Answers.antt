use Rattle.std.proofs.Common.{refl}
use Rattle.ts_offer.proofs.way.Way.put.Goals as goal

pub returns : goal.returns
returns c = record {
  root = refl;
  turns = c.in-Ok.ensures.items;
  room = c.push.ensures.capacity;
}
