use Rattle.ts_reductions.proofs.AgainLemmas.{led_nothing}
use Rattle.ts_reductions.proofs.room.Room.forget.Goals as goal

pub returns : goal.returns
returns c = led_nothing _ c.clear.ensures.items
