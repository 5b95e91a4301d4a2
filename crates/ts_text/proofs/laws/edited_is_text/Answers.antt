use Rattle.ts_text.proofs.EditLemmas.{apply_of_is_text}
use Rattle.ts_text.proofs.laws.edited_is_text.Goals as goal

pub returns : goal.returns
returns c = apply_of_is_text
