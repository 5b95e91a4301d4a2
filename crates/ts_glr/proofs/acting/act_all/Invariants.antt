use Rattle.std.proofs.Common.{◌≡◌, take, length}
use Rattle.ts_base.specs.Bytes.{Bytes}
use Rattle.ts_gss.specs.Stacks.{stack_at, trees_on}
use Rattle.ts_steps.specs.LiveHeads.{config_of, packed_of, GainsStacks}
use Rattle.ts_steps.specs.Looking.{IsTokenAhead}
use Rattle.ts_glr.specs.Steps.{HasForm}
use Rattle.ts_glr.specs.Search.{Acting}
use Rattle.ts_glr.proofs.acting.act_all.Given as goal

abbrev pub invariant-loop-action : goal.invariant-loop-action
invariant-loop-action l = record {
  grows : GainsStacks l.initial.readings.graph l.readings.graph;
  form : HasForm l.table.grammar l.readings.best;
  stuck : l.readings.stuck ≡ l.initial.readings.stuck;
  acting : (text : Bytes) → length text ≡ l.setting.size → IsTokenAhead l.table text l.initial.readings.graph l.head l.found
      → Acting l.table text (trees_on (stack_at l.initial.readings.graph l.head.top)) l.readings.graph (config_of l.initial.readings.graph l.head) (packed_of l.initial.readings.graph l.head) l.found (take l.action-index l.actions) l.initial.readings.live.items l.readings.live.items l.initial.readings.best l.readings.best;
}
