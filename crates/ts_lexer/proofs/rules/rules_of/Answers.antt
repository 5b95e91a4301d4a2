use Rattle.ts_lexer.proofs.KindLemmas.{kinds_more}
use Rattle.ts_lexer.proofs.rules.rules_of.Goals as goal

pub loop-token-preserved : goal.loop-token-preserved
loop-token-preserved c =
    kinds_more _ c.loop-token.token-index c.token-item.result _ _ _ c.loop-token-test.true c.token-item.is c.of_token.ensures c.loop-token.invariant c.in_ok-push.ensures.items
