use Rattle.std.proofs.Common.{◌∙◌, ◌++◌, ap, List}
use Rattle.std.proofs.lemmas.List.Filters.{dedup_is}
use Rattle.std.proofs.lemmas.List.Kept.{IsStrictlySortedBy-dedup}
use Rattle.ts_items.specs.declared.part.Part.{Part}
use Rattle.ts_items.proofs.OrderLemmas.{part_eq, part_total, part_ties, ordered}
use Rattle.ts_items.proofs.moving.in_order.Goals as goal

pub returns : goal.returns
returns c =
    let all = c.in_ok-extend_from_slice.ensures.items ∙ ap (λ (l : List Part). l ++ c.args.parts.now) c.new-ordered.ensures.items in
    ordered c.args.parts.now c.extend_from_slice.new.self.items c.sort_unstable.new.self.items c.dedup.new.self.items all c.sort_unstable.ensures.permutation (dedup_is part_eq _ _ c.dedup.ensures.filtered)
    (rw (dedup_is part_eq _ _ c.dedup.ensures.filtered) (IsStrictlySortedBy-dedup part_total part_ties _ c.sort_unstable.ensures.sorted))
