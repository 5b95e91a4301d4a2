use Rattle.std.proofs.Common.{false}
use Rattle.ts_search.proofs.NextLemmas.{next_is}
use Rattle.ts_search.proofs.siblings.next_taken.Goals as goal

pub returns : goal.returns
returns c = next_is c.args.siblings.now.table false c.args.siblings.now.taken c.args.siblings.now.passed c.args.k c.args.place c.next_at.result (rw c.as_slice.ensures at c.next_at.ensures)
