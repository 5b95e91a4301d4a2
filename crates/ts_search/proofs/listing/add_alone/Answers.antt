use Rattle.ts_search.proofs.NodeLemmas.{has_item, item_alone}
use Rattle.ts_search.proofs.listing.add_alone.Goals as goal

pub get-item-requires : goal.get-item-requires
get-item-requires g c = has_item c.args.pattern.now c.requires.alone

pub add_node-requires : goal.add_node-requires
add_node-requires g c = record { alone = item_alone c.args.pattern.now c.get-item.result.now c.requires.alone c.get-item.ensures }
