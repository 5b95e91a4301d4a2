use Rattle.ts_search.proofs.OnceLemmas.{bare_members}
use Rattle.ts_search.proofs.once.bare.Goals as goal

pub returns : goal.returns
returns c = bare_members c.args.found.items c.in_ok-lists.lists.items c.once_each-kept.result.items c.add_placed.new.out.items c.in_ok-lists.ensures c.once_each-kept.ensures
    (rw c.new-out.ensures.items at (rw c.as_slice.ensures.value at c.in_ok-add_placed.ensures))
