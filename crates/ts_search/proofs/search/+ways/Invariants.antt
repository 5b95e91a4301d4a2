use Rattle.std.proofs.Common.{◌*◌, ◌+◌, ◌-◌, ◌≤◌, length, []}
use Rattle.std.specs.HashMap.{get}
use Rattle.ts_search.specs.Adding.{Gains}
use Rattle.ts_search.specs.Memory.{IsMemo, key_eq}
use Rattle.ts_search.proofs.HeadLemmas.{HeadBelow, TakenUpTo}
use Rattle.ts_search.proofs.CountedLemmas.{Counted}
use Rattle.ts_search.proofs.search.+ways.Given as goal

abbrev pub decreases-add_at : goal.decreases-add_at
decreases-add_at l = 10 * length l.rest.now + 5

abbrev pub decreases-add_last : goal.decreases-add_last
decreases-add_last l = 10 * length l.rest.now + 6

abbrev pub decreases-runs_from : goal.decreases-runs_from
decreases-runs_from l = 10 * length l.rest.now + 7

abbrev pub decreases-add_first : goal.decreases-add_first
decreases-add_first l = 10 * length l.rest.now + 8

abbrev pub decreases-add_nothing : goal.decreases-add_nothing
decreases-add_nothing l = 10 * length l.rest.now + 5

abbrev pub decreases-made : goal.decreases-made
decreases-made l = 10 * length l.slots.now

abbrev pub decreases-made_counted : goal.decreases-made_counted
decreases-made_counted l = 10 * length l.rest.now + 9

abbrev pub decreases-made_captures : goal.decreases-made_captures
decreases-made_captures l = 10 * length l.slots.now + 1

abbrev pub decreases-told : goal.decreases-told
decreases-told l = 10 * length l.slots.now + 2

abbrev pub decreases-fill : goal.decreases-fill
decreases-fill l = 10 * (length l.all.now - l.key.number) + 4

pub record invariant-runs_from-loop-last (l : goal.Live-runs_from-loop-last) : Type 0 where
  pub adds : Gains (TakenUpTo l.siblings l.rest l.at l.first l.last) l.fn.limit.cut l.limit.cut [] l.out.items
  pub memo : IsMemo l.siblings l.all l.limit.cut (get key_eq l.memo)

pub record invariant-made-loop-first (l : goal.Live-made-loop-first) : Type 0 where
  pub low : l.fn.lo ≤ l.first
  pub adds : Gains (HeadBelow l.siblings l.rest l.at l.here l.first) l.fn.limit.cut l.limit.cut [] l.out.items
  pub memo : IsMemo l.siblings l.all l.limit.cut (get key_eq l.memo)

abbrev pub decreases-made-loop-first : goal.decreases-made-loop-first
decreases-made-loop-first l = l.end - l.first

pub record invariant-made_counted-loop-first (l : goal.Live-made_counted-loop-first) : Type 0 where
  pub counted : Counted l.siblings l.rest l.at l.silent l.first l.fn.limit.cut l.limit.cut l.out.items
  pub memo : IsMemo l.siblings l.all l.limit.cut (get key_eq l.memo)

abbrev pub decreases-made_counted-loop-first : goal.decreases-made_counted-loop-first
decreases-made_counted-loop-first l = length l.siblings.named - l.first
