use Rattle.ts_text.specs.Written.{written}
use Rattle.ts_text.proofs.PartLemmas.{rewritten_more}
use Rattle.ts_text.proofs.edit.rewritten.Goals as goal

pub loop-part-preserved : goal.loop-part-preserved
loop-part-preserved c =
    rewritten_more c.args.text.now c.args.parts.now c.loop-part.part-index c.loop-part.place c.len.result c.part-item.result
    (written c.loop-part.writer) (written c.put_range.new.self) (written c.put_range-in-loop-part.new.self)
    c.requires.within c.requires.apart c.loop-part-test.true c.part-item.is c.loop-part.invariant
    c.in_ok-put_range.ensures c.len.ensures.count c.in_ok-put_range-2.ensures
