use Rattle.ts_search.specs.Sets.{SameMembers}
use Rattle.ts_search.specs.Steps.{Before}
use Rattle.ts_search.proofs.SetLemmas.{before_like, same_through}
use Rattle.ts_search.proofs.YieldLemmas.{are_like}
use Rattle.ts_search.proofs.taking.with_own.Goals as goal

pub returns-then-is_choice : goal.returns-then-is_choice
returns-then-is_choice c =
    are_like SameMembers same_through (Before c.args.inner.items c.args.own) c.in_ok-ways.ways.items c.in_ok-kept.kept.items (before_like c.args.inner.items c.in_ok-ways.ways.items c.args.own c.in_ok-ways.ensures) c.in_ok-kept.ensures

pub returns : goal.returns
returns c = before_like c.args.inner.items c.in_ok-ways.ways.items c.args.own c.in_ok-ways.ensures
