use Rattle.std.proofs.Common.{get_or}
use Rattle.std.proofs.lemmas.Option.{slice_get-get_or}
use Rattle.ts_items.proofs.EachLemmas.{puts_at}
use Rattle.ts_items.proofs.rows.put.Goals as goal

pub returns : goal.returns
returns c d = puts_at d.args.rows.now d.args.at (get_or d.args.rows.now d.args.at d.index-rows-at.result) d.push.new.self d.args.item d.requires (slice_get-get_or d.args.rows.now d.args.at d.index-rows-at.result d.requires) d.in_ok-push.ensures.items
