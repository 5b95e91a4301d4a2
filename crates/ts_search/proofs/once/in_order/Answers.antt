use Rattle.std.proofs.lemmas.List.Filters.{dedup_is}
use Rattle.std.proofs.lemmas.List.Kept.{IsStrictlySortedBy-dedup}
use Rattle.spec_matches.specs.Matches.{capture_eq}
use Rattle.ts_search.proofs.OrderLemmas.{same_members, capture_equiv, capture_total, capture_ties}
use Rattle.ts_search.proofs.once.in_order.Goals as goal

pub returns-clause-members : goal.returns-clause-members
returns-clause-members c = rw c.from_vec.ensures (same_members capture_eq c.one_order.ensures.one_capture capture_equiv c.args.captures c.into_vec-items.result.items c.sort_unstable.new.self.items c.dedup.new.self.items
    c.into_vec-items.ensures c.sort_unstable.ensures.permutation (dedup_is capture_eq _ _ c.dedup.ensures.filtered))

pub returns-clause-order : goal.returns-clause-order
returns-clause-order c = rw (c.from_vec.ensures, dedup_is capture_eq _ _ c.dedup.ensures.filtered) (IsStrictlySortedBy-dedup capture_total capture_ties _ c.sort_unstable.ensures.sorted)
