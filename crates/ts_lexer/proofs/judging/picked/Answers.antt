use Rattle.std.proofs.Common.{◌∙◌, sym}
use Rattle.ts_lexer.proofs.JudgeLemmas.{picked_more, few_parts}
use Rattle.ts_lexer.proofs.judging.picked.Goals as goal

pub returns-in-Some-clause-more : goal.returns-in-Some-clause-more
returns-in-Some-clause-more c g j s t a b offered old rules x y =
    picked_more g j c.args.part s c.in-Some.symbol t c.symbol_of.result c.better.result a b (sym c.in-Some.is ∙ old) (c.symbol_of.ensures (few_parts g c.args.part t b rules.few y)) x y
    (λ p q. c.better.ensures g j c.args.part a b rules p q)
