use Rattle.ts_text.specs.Edit.{IsPartOf}
use Rattle.ts_text.proofs.PartLemmas.{within_more, within_all}
use Rattle.ts_text.proofs.edit.are_within.Goals as goal

pub loop-part-preserved : goal.loop-part-preserved
loop-part-preserved c =
    let part : IsPartOf c.args.text.now c.part-item.result = c.is_part_of.ensures.0 (cc) in
    within_more c.args.text.now c.args.parts.now c.loop-part.part-index c.part-item.result c.loop-part-test.true c.part-item.is part c.loop-part.invariant

pub returns : goal.returns
returns c = (λ ok. within_all c.args.text.now c.args.parts.now c.loop-part.part-index c.loop-part-test.false c.loop-part.invariant, λ all. cc)
