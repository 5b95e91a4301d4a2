use Rattle.std.proofs.Common.{length}
use Rattle.ts_lexer.proofs.marking.look.Goals as goal

pub returns-clause-view : goal.returns-clause-view
returns-clause-view c g is size =
    let marks = c.mark.ensures (length g.tokens) size in
    record { size = marks.size; marks = marks.marked; keyworded = c.has_keyword-view.ensures g c.args.valid.now is (rw c.as_slice.ensures.value marks) }
