use Rattle.std.proofs.Common.{subst, refl, List}
use Rattle.std.specs.List.{Contains}
use Rattle.ts_reductions.specs.declared.made.Made.{Made}
use Rattle.ts_reductions.proofs.AddLemmas.{item_in}
use Rattle.ts_reductions.proofs.room.Room.led_to.Goals as goal

pub returns-then-made-state : goal.returns-then-made-state
returns-then-made-state c = record {
  made = c.made-item.result;
  there = subst (λ (l : List Made). Contains l c.made-item.result) c.as_slice-made-items.ensures.value (item_in c.as_slice-made-items.result.now c.as_slice-made-items.result.now c.loop-made.made-index c.made-item.result c.loop-made-test.true c.made-item.is refl);
  state_is = c.if-made-state.true;
  top_is = refl;
}
