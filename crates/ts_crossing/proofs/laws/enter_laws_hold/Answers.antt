use Rattle.ts_crossing.proofs.laws.enter_laws_hold.Goals as goal

pub returns : goal.returns
returns c = record {
  keeps = c.bare_trees.ensures.keeps;
  through = c.trees_replace.ensures.through;
  moves = c.items_decide.ensures.moves;
  tokens = c.tokens_of_states.ensures;
  known = c.tokens_are_known.ensures;
  only_accepts = c.unused_symbols_end.ensures;
  named = c.states_are_named.ensures.after;
  told = c.states_tell.ensures.told;
  own_laid = c.stacks_are_laid.ensures.own;
  deep_laid = c.stacks_are_laid.ensures.deepest;
  begins = c.whole_to_the_next.ensures.begins;
}
