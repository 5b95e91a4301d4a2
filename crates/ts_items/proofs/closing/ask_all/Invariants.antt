use Rattle.std.proofs.Common.{take}
use Rattle.ts_items.specs.Rows.{FromOne}
use Rattle.ts_items.specs.Sets.{GainsTokens, QueuesGains}
use Rattle.ts_items.specs.Closing.{AskedBy}
use Rattle.ts_items.proofs.closing.ask_all.Given as goal

abbrev pub invariant-loop-part : goal.invariant-loop-part
invariant-loop-part l = record {
  gains : GainsTokens (FromOne (AskedBy l.tabled.grammar l.pool.keys) (take l.part-index l.kernel)) l.initial.asked l.asked;
  tells : QueuesGains l.initial.asked l.asked l.initial.queue.items l.queue.items;
}
