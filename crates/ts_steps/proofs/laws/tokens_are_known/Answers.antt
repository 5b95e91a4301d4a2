use Rattle.ts_steps.proofs.TableLemmas.{valid_tokens}
use Rattle.ts_steps.proofs.laws.tokens_are_known.Goals as goal

pub returns : goal.returns
returns c t read state valid table st are = valid_tokens c.laws_hold.ensures t read state valid table st are
