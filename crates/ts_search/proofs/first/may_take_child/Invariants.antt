use Rattle.std.proofs.Common.{◌-◌}
use Rattle.ts_cursor.specs.Linked.{IsPast}
use Rattle.ts_search.proofs.FirstLemmas.{Untaken}
use Rattle.ts_search.proofs.first.may_take_child.Given as goal

pub record invariant-loop-m (l : goal.Live-loop-m) : Type 0 where
  pub ends : IsPast l.sight.nodes l.fn.n l.past
  pub untaken : Untaken l.sight l.item l.fn.n l.past ends l.m

abbrev pub decreases-loop-m : goal.decreases-loop-m
decreases-loop-m l = l.past - l.m
