use Rattle.spec_packing.proofs.PackedLemmas.{join_stands, join_leads, join_met}
use Rattle.spec_packing.proofs.laws.packed_stacks_join.Goals as goal

pub returns-clause-stands : goal.returns-clause-stands
returns-clause-stands c = join_stands

pub returns-clause-leads : goal.returns-clause-leads
returns-clause-leads c = join_leads

pub returns-clause-met : goal.returns-clause-met
returns-clause-met c = join_met
