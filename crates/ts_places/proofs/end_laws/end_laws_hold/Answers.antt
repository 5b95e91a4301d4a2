use Rattle.ts_places.proofs.end_laws.end_laws_hold.Goals as goal

pub returns : goal.returns
returns c = record {
  graphs = record {
    runs = record {
      keeps = c.bare_trees.ensures.keeps;
      extra = c.bare_trees.ensures.extra;
      shifts = c.moves_have_their_place.ensures.shift;
      reduces = c.moves_have_their_place.ensures.reduce;
      accepts = c.moves_have_their_place.ensures.accept;
      empty_start = c.empty_rules_are_unused.ensures.start;
      unused = c.empty_rules_are_unused.ensures.unused;
      repeats = c.repetitions_repeat.ensures;
      start_rule = c.start_is_no_repetition.ensures;
    };
    nothing = c.moves_have_their_place.ensures.nothing;
    one_answer = c.one_answer.ensures.lex;
    fewer_tokens = c.fewer_tokens.ensures;
    within = c.token_within.ensures.text;
    some_move = c.some_move_stays.ensures;
    no_new_tokens = c.no_new_tokens.ensures;
  };
  bared = c.bare_trees.ensures.accepted;
  node = c.accepted_is_node.ensures;
  form = c.made_nodes_are_in_form.ensures.accepted;
}
