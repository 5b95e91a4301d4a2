use Rattle.ts_node.proofs.LengthenLemmas.{part_of}
use Rattle.ts_node.proofs.laws.sections_stand.Goals as goal

pub returns : goal.returns
returns c = part_of
