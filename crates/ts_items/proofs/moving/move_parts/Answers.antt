use Rattle.std.proofs.Common.{◌∙◌, refl}
use Rattle.std.proofs.lemmas.List.{take_all}
use Rattle.std.proofs.lemmas.List.Elements.{Contains-get_or}
use Rattle.ts_items.specs.Numbers.{MovesTo}
use Rattle.ts_items.proofs.EachLemmas.{puts_begin, puts_more, puts_all}
use Rattle.ts_items.proofs.moving.move_parts.Goals as goal

pub loop-part-init : goal.loop-part-init
loop-part-init c = record { count = refl; moved = puts_begin (MovesTo c.args.tabled.now.grammar) c.args.parts.now c.args.moved.now }

pub move_part-requires-clause-line : goal.move_part-requires-clause-line
move_part-requires-clause-line c = c.requires.lines _ (Contains-get_or c.args.parts.now c.loop-part.part-index _ c.loop-part-test.true)

pub loop-part-preserved : goal.loop-part-preserved
loop-part-preserved c = record {
  count = c.in_ok-move_part.ensures.count ∙ c.loop-part.invariant.count;
  moved = puts_more (MovesTo c.args.tabled.now.grammar) c.args.parts.now c.loop-part.part-index _ c.args.moved.now c.loop-part.moved c.move_part.new.moved c.loop-part-test.true c.loop-part.invariant.moved c.in_ok-move_part.ensures;
}

pub returns-clause-moved : goal.returns-clause-moved
returns-clause-moved c = puts_all (MovesTo c.args.tabled.now.grammar) c.args.parts.now c.loop-part.part-index c.args.moved.now c.loop-part.moved (take_all _ _ c.loop-part-test.false) c.loop-part.invariant.moved
