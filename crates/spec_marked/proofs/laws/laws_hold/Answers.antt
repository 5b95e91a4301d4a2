use Rattle.spec_marked.proofs.laws.laws_hold.Goals as goal

pub returns : goal.returns
returns c = record {
  was_clear = c.settled_nodes_were_clear.ensures;
  bytes_stay = c.clear_bytes_stay.ensures;
  stands_again = c.forced_nodes_stand.ensures.again;
  behind_again = c.elements_stand_behind.ensures.again;
  honest = c.sound_trees_offer_honestly.ensures;
  edited_text = c.edited_is_text.ensures;
}
