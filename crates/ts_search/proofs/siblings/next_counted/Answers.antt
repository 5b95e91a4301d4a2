use Rattle.std.proofs.Common.{Bool, sym, subst, true}
use Rattle.ts_search.specs.Next.{Passes, TakesFirst}
use Rattle.ts_search.proofs.NextLemmas.{next_is}
use Rattle.ts_search.proofs.siblings.next_counted.Goals as goal

pub returns-then-capturing : goal.returns-then-capturing
returns-then-capturing c =
    subst (λ (b : Bool). Passes (TakesFirst c.args.siblings.now.table b c.args.k) c.args.place c.next_at.result) (sym c.if-capturing.true)
    (next_is c.args.siblings.now.table true c.args.siblings.now.capturing c.args.siblings.now.quiet c.args.k c.args.place c.next_at.result (rw c.as_slice.ensures at c.next_at.ensures))

pub returns : goal.returns
returns c = subst (λ (b : Bool). Passes (TakesFirst c.args.siblings.now.table b c.args.k) c.args.place c.next_taken.result) (sym c.if-capturing.false) c.next_taken.ensures
