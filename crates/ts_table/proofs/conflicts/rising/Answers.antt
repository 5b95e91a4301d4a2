use Rattle.std.proofs.lemmas.List.Filters.{dedup_is}
use Rattle.std.proofs.lemmas.List.Kept.{IsStrictlySortedBy-dedup}
use Rattle.ts_table.proofs.SortLemmas.{symbol_eq, symbol_total, symbol_ties, risen}
use Rattle.ts_table.proofs.conflicts.rising.Goals as goal

pub returns : goal.returns
returns c = risen c.args.symbols.items c.sort_unstable.new.self.items c.dedup.new.self.items c.sort_unstable.ensures.permutation (dedup_is symbol_eq _ _ c.dedup.ensures.filtered)
    (rw (dedup_is symbol_eq _ _ c.dedup.ensures.filtered) (IsStrictlySortedBy-dedup symbol_total symbol_ties _ c.sort_unstable.ensures.sorted))
