use Rattle.ts_steps.proofs.laws.sound_laws_hold.Goals as goal

pub returns : goal.returns
returns c = record {
  lists = c.lexings_are_decided.ensures.lists;
  leaf = c.leaves_stand.ensures.leaf;
  extra = c.leaves_stand.ensures.extra;
  childless = c.stacks_stay_sound.ensures.childless;
  in_turn = c.stacks_stay_sound.ensures.in_turn;
  put = c.stacks_stay_sound.ensures.reduced;
  root = c.stacks_stay_sound.ensures.accepted;
  told = c.states_tell.ensures.told;
  after = c.states_tell.ensures.after;
  tokens = c.tokens_of_states.ensures;
}
