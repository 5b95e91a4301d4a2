use Rattle.ts_search.proofs.index.put.Goals as goal

pub add-requires : goal.add-requires
add-requires c = rw c.as_slice.ensures.value at c.in-Some.ensures
