use Rattle.ts_steps.proofs.laws.only_laws_hold.Goals as goal

pub returns : goal.returns
returns c = record {
  shifted = c.one_move_is_one_step.ensures.shifted;
  passed = c.one_move_is_one_step.ensures.passed;
  reduced = c.one_move_is_one_step.ensures.reduced;
}
