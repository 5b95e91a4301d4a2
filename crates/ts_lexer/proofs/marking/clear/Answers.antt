use Rattle.std.proofs.Common.{◌≤◌, ◌<◌, length, arith}
use Rattle.ts_lexer.proofs.MarkLemmas.{cleared_none, cleared_more, marks_none}
use Rattle.ts_lexer.proofs.marking.clear.Goals as goal

pub loop-k-init : goal.loop-k-init
loop-k-init c = cleared_none _

pub loop-k-preserved : goal.loop-k-preserved
loop-k-preserved c =
    let below : c.loop-k.k < length c.loop-k.marks.items = omega (arith, c.loop-k-test.true, c.len-k-end.ensures, c.args.marks.now.ok.0, c.loop-k.invariant.size) in
    cleared_more _ _ c.loop-k.k below c.loop-k.invariant

pub returns : goal.returns
returns c n size =
    let past : length c.loop-k.marks.items ≤ c.loop-k.k = omega (arith, c.loop-k-test.false, c.len-k-end.ensures, c.args.marks.now.ok.0, c.loop-k.invariant.size) in
    marks_none n c.loop-k.k _ _ size past c.loop-k.invariant
