use Rattle.ts_steps.proofs.WeightLemmas.{light_step}
use Rattle.ts_steps.proofs.laws.steps_fall.Goals as goal

pub returns : goal.returns
returns c g fit text at to within step = light_step c.laws_hold.ensures g fit (c.unit_ranks.ensures g fit) text at to within step
