use Rattle.std.proofs.Common.{take, List, ◌≡◌, ◌≤◌, ◌⊎◌}
use Rattle.spec_matches.specs.declared.found.Capture.{Capture}
use Rattle.ts_query_syntax.specs.declared.read_query.Item.{Item}
use Rattle.ts_search.specs.Adding.{OfSome, Yields}
use Rattle.ts_search.specs.Lone.{FirstTakes}
use Rattle.ts_search.specs.Sets.{SameMembers}
use Rattle.ts_search.specs.Ways.{HasRow, HasTable, ItemTakes}
use Rattle.ts_search.proofs.PairLemmas.{HasFirst}
use Rattle.ts_search.proofs.taking.+taking.Given as goal

abbrev pub invariant-choices-loop-branch : goal.invariant-choices-loop-branch
invariant-choices-loop-branch l = Yields SameMembers (OfSome (λ (i : Item) (c : List Capture). ItemTakes l.sight i 0 l.n c) (take l.branch-index l.branches)) l.fn.limit.cut l.limit.cut l.out.items

abbrev pub invariant-row-loop-n : goal.invariant-row-loop-n
invariant-row-loop-n l = HasRow l.sight l.item l.at (take l.n-index l.siblings) l.fn.limit.cut l.limit.cut l.out.items

abbrev pub invariant-rows-loop-at : goal.invariant-rows-loop-at
invariant-rows-loop-at l = HasFirst l.sight l.siblings l.item l.at l.fn.limit.cut l.limit.cut l.out.items

abbrev pub invariant-table-loop-item : goal.invariant-table-loop-item
invariant-table-loop-item l = HasTable l.sight l.siblings (take l.item-index l.items) l.fn.limit.cut l.limit.cut l.out.items

pub record invariant-first_ways-loop-place (l : goal.Live-first_ways-loop-place) : Type 0 where
  pub yields : Yields SameMembers (FirstTakes l.sight l.items l.siblings l.from l.place) l.fn.limit.cut l.limit.cut l.out.items
  pub low : l.from ≤ l.place
  pub inside : (l.place ≡ l.from) ⊎ (l.place ≤ l.to)
