use Rattle.ts_lexer.proofs.ListLemmas.{valid_list}
use Rattle.ts_lexer.proofs.laws.tokens_of_states.Goals as goal

pub returns : goal.returns
returns c = valid_list
