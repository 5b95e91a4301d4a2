use Rattle.spec_reuse.proofs.TokenLemmas.{moves}
use Rattle.spec_reuse.proofs.laws.no_new_tokens.Goals as goal

pub returns : goal.returns
returns c g fit number left t p earlier at move = moves g (c.empty_rules_are_unused.ensures.unused g fit) number left p at earlier t move
