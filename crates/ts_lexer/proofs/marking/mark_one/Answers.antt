use Rattle.std.proofs.Common.{◌≡◌, ◌-◌, ◌<◌, suc, length, arith}
use Rattle.ts_lexer.proofs.MarkLemmas.{marks_one, marks_other}
use Rattle.ts_lexer.proofs.marking.mark_one.Goals as goal

pub returns-then-symbol-eq0 : goal.returns-then-symbol-eq0
returns-then-symbol-eq0 c n seen m = marks_other n seen c.args.symbol _ (λ k e lt. (let z = c.if-symbol-eq0.true in omega arith)) m

pub returns-then-part-len : goal.returns-then-part-len
returns-then-part-len c n seen m =
    let number : c.args.symbol.0 ≡ suc (c.args.symbol.0 - 1) = (let z = c.if-symbol-eq0.false in omega arith) in
    let below : c.args.symbol.0 - 1 < length c.args.marks.now.items = omega (arith, c.if-part-len.true, c.len.ensures, c.args.marks.now.ok.0) in
    marks_one n seen c.args.symbol (c.args.symbol.0 - 1) c.args.marks.now.items number below m

pub returns-else-part-len : goal.returns-else-part-len
returns-else-part-len c n seen m =
    marks_other n seen c.args.symbol _ (λ k e lt. (let s = m.size in omega (arith, c.if-part-len.false, c.len.ensures, c.args.marks.now.ok.0))) m
