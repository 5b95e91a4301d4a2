use Rattle.std.proofs.lemmas.List.Filters.{dedup_is}
use Rattle.ts_search.proofs.OnceLemmas.{marks_eq, once_members}
use Rattle.ts_search.proofs.once.once_each.Goals as goal

pub returns : goal.returns
returns c = once_members c.args.lists.items c.sort_unstable.new.self.items c.dedup.new.self.items c.sort_unstable.ensures.permutation (dedup_is marks_eq _ _ c.dedup.ensures.filtered)
