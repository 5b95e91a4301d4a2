use Rattle.std.proofs.Common.{arith}
use Rattle.ts_lexer.proofs.RoleLemmas.{kind_within, kind_read}
use Rattle.ts_lexer.proofs.judging.kind_at.Goals as goal

pub returns-then-symbol-eq0 : goal.returns-then-symbol-eq0
returns-then-symbol-eq0 c g part token rules x = absurd (let n = x.number in let z = c.if-symbol-eq0.true in omega arith)

pub returns-then-part-len : goal.returns-then-part-len
returns-then-part-len c g part token rules x =
    kind_read g c.args.rules.now part c.args.symbol token _ rules x (kind_within g c.args.rules.now part c.args.symbol token rules x) c.index.ensures

pub returns : goal.returns
returns c g part token rules x =
    absurd (let w = kind_within g c.args.rules.now part c.args.symbol token rules x in omega (arith, c.if-part-len.false, c.len.ensures, c.args.rules.now.kinds.ok.0))
