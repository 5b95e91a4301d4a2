use Rattle.ts_reductions.proofs.laws.own_laws_hold.Goals as goal

pub returns : goal.returns
returns c = record {
  keeps = c.bare_trees.ensures.keeps;
  once = c.bare_trees.ensures.once;
  extra = c.bare_trees.ensures.extra;
  reduced_bare = c.bare_trees.ensures.reduced;
  accepted_bare = c.bare_trees.ensures.accepted;
  one_sight = c.one_sight.ensures;
  one_reduction = c.one_reduction.ensures;
  shifts = c.moves_have_their_place.ensures.shift;
  reduces = c.moves_have_their_place.ensures.reduce;
  nothing = c.moves_have_their_place.ensures.nothing;
  accepts = c.moves_have_their_place.ensures.accept;
  empty_start = c.empty_rules_are_unused.ensures.start;
  unused = c.empty_rules_are_unused.ensures.unused;
  repeats = c.repetitions_repeat.ensures;
  start_rule = c.start_is_no_repetition.ensures;
  token_seen = c.token_within.ensures.seen;
  token_within = c.token_within.ensures.text;
  begins_within = c.beginnings.ensures.within;
}
