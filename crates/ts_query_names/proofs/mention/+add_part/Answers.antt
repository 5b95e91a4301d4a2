use Rattle.ts_query_names.proofs.MentionLemmas.{item_put}
use Rattle.ts_query_names.proofs.mention.+add_part.Goals as goal

pub add_part-returns-in_ok-add_captures-in-Item : goal.add_part-returns-in_ok-add_captures-in-Item
add_part-returns-in_ok-add_captures-in-Item t c =
    item_put _ _ _ _ _ _ _ _ _ _ _ _ _ _ _ _ c.in-Item.is c.is_round.ensures c.as_slice.ensures c.as_slice-in-Item.ensures
    c.in_ok-add_field-in-Item.ensures c.in_ok-add_head-in-Item.ensures c.in_ok-add_parts-in-Item.ensures c.in_ok-add_mark-in-Item.ensures c.in_ok-add_captures-in-Item.ensures
