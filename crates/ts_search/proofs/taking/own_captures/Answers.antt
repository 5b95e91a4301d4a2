use Rattle.ts_search.proofs.taking.own_captures.Goals as goal

pub returns : goal.returns
returns c = rw c.in_ok-all.ensures at (rw c.from_vec.ensures at c.in_order.ensures.members)
