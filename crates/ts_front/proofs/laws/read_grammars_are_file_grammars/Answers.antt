use Rattle.ts_front.proofs.FileLemmas.{file_grammar}
use Rattle.ts_front.proofs.laws.read_grammars_are_file_grammars.Goals as goal

pub returns : goal.returns
returns c = file_grammar c.grammars_are_well_formed.ensures c.grammars_have_parts_within.ensures
