use Rattle.ts_lexer.proofs.MarkLemmas.{marks_more, marks_all}
use Rattle.ts_lexer.proofs.marking.mark.Goals as goal

pub loop-symbol-preserved : goal.loop-symbol-preserved
loop-symbol-preserved c n size = marks_more n _ _ _ _ _ c.loop-symbol-test.true (c.mark_one.ensures n _) (c.loop-symbol.invariant n size)

pub returns : goal.returns
returns c n size = marks_all n _ _ _ c.loop-symbol-test.false (c.loop-symbol.invariant n size)
