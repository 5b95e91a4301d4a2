use Rattle.std.proofs.lemmas.List.{take_all}
use Rattle.ts_items.proofs.PartLemmas.{lines_step, lines_end}
use Rattle.ts_items.proofs.closing.add_lines.Goals as goal

pub loop-line-preserved : goal.loop-line-preserved
loop-line-preserved c = lines_step c.args.lines.now c.loop-line.line-index _ c.args.tokens c.args.parts.now.items c.loop-line.parts.items c.push.new.self.items c.loop-line-test.true c.in_ok-push.ensures.items c.loop-line.invariant

pub returns : goal.returns
returns c = lines_end c.args.lines.now c.loop-line.line-index c.args.tokens c.args.parts.now.items c.loop-line.parts.items (take_all _ _ c.loop-line-test.false) c.loop-line.invariant
