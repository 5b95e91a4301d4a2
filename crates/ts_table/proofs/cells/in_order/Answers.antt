use Rattle.std.proofs.lemmas.List.Filters.{dedup_is}
use Rattle.std.proofs.lemmas.List.Kept.{IsStrictlySortedBy-dedup}
use Rattle.ts_table.proofs.SortLemmas.{action_eq, action_equiv, same_action, action_total, action_ties, same_members, once_in_order}
use Rattle.ts_table.proofs.cells.in_order.Goals as goal

pub returns-clause-members : goal.returns-clause-members
returns-clause-members c = same_members action_eq action_equiv same_action c.args.actions.items c.sort_unstable.new.self.items c.dedup.new.self.items c.sort_unstable.ensures.permutation (dedup_is action_eq _ _ c.dedup.ensures.filtered)

pub returns-clause-once : goal.returns-clause-once
returns-clause-once c = once_in_order c.dedup.new.self.items (rw (dedup_is action_eq _ _ c.dedup.ensures.filtered) (IsStrictlySortedBy-dedup action_total action_ties _ c.sort_unstable.ensures.sorted))
