use Rattle.std.proofs.Common.{◌∙◌}
use Rattle.std.proofs.lemmas.List.Elements.{Contains-get_or}
use Rattle.ts_items.specs.Closing.{AskedBy}
use Rattle.ts_items.proofs.GainLemmas.{gains_begin, gains_more, tells_none, tells_both}
use Rattle.ts_items.proofs.closing.ask_all.Goals as goal

pub loop-part-init : goal.loop-part-init
loop-part-init c = record {
  gains = gains_begin (AskedBy c.args.tabled.now.grammar c.args.pool.now.keys) c.args.kernel.now c.args.asked.now;
  tells = tells_none c.args.asked.now c.args.queue.now.items;
}

pub ask-requires-clause-part : goal.ask-requires-clause-part
ask-requires-clause-part c = c.requires.parts _ (Contains-get_or c.args.kernel.now c.loop-part.part-index _ c.loop-part-test.true)

pub ask-requires-clause-count : goal.ask-requires-clause-count
ask-requires-clause-count c = c.loop-part.invariant.gains.count ∙ c.requires.count

pub ask-requires-clause-wide : goal.ask-requires-clause-wide
ask-requires-clause-wide c = c.loop-part.invariant.gains.wide c.args.tabled.now.tables.width c.requires.wide

pub loop-part-preserved : goal.loop-part-preserved
loop-part-preserved c = record {
  gains = gains_more (AskedBy c.args.tabled.now.grammar c.args.pool.now.keys) c.args.kernel.now c.loop-part.part-index _ c.args.asked.now c.loop-part.asked c.ask.new.asked c.loop-part-test.true c.loop-part.invariant.gains c.in_ok-ask.ensures.gains;
  tells = tells_both c.args.asked.now c.loop-part.asked c.ask.new.asked c.args.queue.now.items c.loop-part.queue.items c.ask.new.queue.items c.loop-part.invariant.gains.count c.loop-part.invariant.tells c.in_ok-ask.ensures.tells;
}
