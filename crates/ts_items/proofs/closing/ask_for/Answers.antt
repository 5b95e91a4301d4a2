use Rattle.std.proofs.Common.{◌∙◌, length, subst, sym, List}
use Rattle.std.specs.Global.{Vec}
use Rattle.ts_bits.specs.declared.set.BitSet.{BitSet}
use Rattle.ts_items.specs.declared.flow.Edge.{Edge}
use Rattle.ts_items.specs.Flow.{Spreads}
use Rattle.ts_items.specs.Sets.{AreWide}
use Rattle.ts_items.proofs.TableLemmas.{tells_queued}
use Rattle.ts_items.proofs.AskLemmas.{net_of, asked_are}
use Rattle.ts_items.proofs.closing.ask_for.Goals as goal

pub ask_all-requires-clause-wide : goal.ask_all-requires-clause-wide
ask_all-requires-clause-wide c = c.clear_all.ensures.wide c.args.tabled.now.tables.width c.requires.wide

pub flow-requires-clause-net : goal.flow-requires-clause-net
flow-requires-clause-net c =
    let gains = c.in_ok-ask_all.ensures.gains in
    net_of c.args.tabled.now.grammar c.args.tabled.now.tables c.edges.result.now c.firsts.result.now (length c.ask_all.new.asked) c.stands.ensures c.edges.ensures c.firsts.ensures (gains.count ∙ c.clear_all.ensures.count ∙ c.requires.count)

pub flow-requires-clause-wide : goal.flow-requires-clause-wide
flow-requires-clause-wide c =
    let gains = c.in_ok-ask_all.ensures.gains in
    (c.args.tabled.now.tables.width, c.stands.ensures.narrow, gains.wide c.args.tabled.now.tables.width (c.clear_all.ensures.wide c.args.tabled.now.tables.width c.requires.wide), subst (AreWide c.args.tabled.now.tables.width) (sym c.firsts.ensures) c.stands.ensures.firsts.wide)

pub flow-requires-clause-queue : goal.flow-requires-clause-queue
flow-requires-clause-queue c =
    let gains = c.in_ok-ask_all.ensures.gains in
    tells_queued c.clear_all.new.sets c.ask_all.new.asked c.new-queue.result.items c.ask_all.new.queue.items c.clear_all.ensures.empty c.new-queue.ensures.items gains.count c.in_ok-ask_all.ensures.tells

pub returns-clause-count : goal.returns-clause-count
returns-clause-count c =
    let gains = c.in_ok-ask_all.ensures.gains in
    c.in_ok-flow.ensures.count ∙ gains.count ∙ c.clear_all.ensures.count

pub returns-clause-wide : goal.returns-clause-wide
returns-clause-wide c =
    let gains = c.in_ok-ask_all.ensures.gains in
    c.in_ok-flow.ensures.wide c.args.tabled.now.tables.width (gains.wide c.args.tabled.now.tables.width (c.clear_all.ensures.wide c.args.tabled.now.tables.width c.requires.wide))

pub returns-clause-asked : goal.returns-clause-asked
returns-clause-asked c =
    let spreads = subst (λ (l : List BitSet). Spreads c.args.tabled.now.tables.edges.items l c.ask_all.new.asked c.flow.new.sets) c.firsts.ensures (subst (λ (l : List (Vec Edge)). Spreads l c.firsts.result.now c.ask_all.new.asked c.flow.new.sets) c.edges.ensures c.in_ok-flow.ensures) in
    asked_are c.args.tabled.now.grammar c.args.tabled.now.tables c.args.pool.now.keys c.args.kernel.now c.clear_all.new.sets c.ask_all.new.asked c.flow.new.sets c.stands.ensures c.requires.parts (c.clear_all.ensures.count ∙ c.requires.count) c.clear_all.ensures.empty c.in_ok-ask_all.ensures.gains spreads
