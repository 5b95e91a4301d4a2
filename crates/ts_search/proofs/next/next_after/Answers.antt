use Rattle.ts_search.specs.Next.{TakesIn}
use Rattle.ts_search.proofs.NextLemmas.{passes_later}
use Rattle.ts_search.proofs.next.next_after.Goals as goal

pub returns : goal.returns
returns c = passes_later (TakesIn c.args.row.now c.args.capturing) c.requires.0 c.args.place c.args.known c.requires.1 c.if-known-place.false c.requires.2
