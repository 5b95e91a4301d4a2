use Rattle.std.proofs.Common.{◌≡◌, ℕ, List, sym, subst}
use Rattle.ts_pattern.specs.declared.item.Item.{Item}
use Rattle.ts_pattern.specs.Sets.{InUnion, InSet, AreRangesOf}
use Rattle.ts_pattern.specs.Classify.{Have}
use Rattle.ts_pattern.proofs.SetLemmas.{set_is}
use Rattle.ts_pattern.proofs.sets.ranges.Goals as goal

pub returns : goal.returns
returns c =
    let same : c.from_vec.result ≡ c.in_ok-ranges.field-0.ranges.items = cc in
    let all = subst (λ (xs : List Item). Have c.in_ok-all.all.items (InUnion c.args.ignore_case xs)) c.as_slice.ensures c.in_ok-all.ensures in
    let made = set_is c.args.ignore_case c.args.set.now c.in_ok-all.all.items c.in_ok-new.field-0.ranges.items c.in_ok-class.class.ranges.items c.in_ok-class-2.class.ranges.items c.in_ok-ranges.field-0.ranges.items
    c.in_ok-new.field-0.canonical c.in_ok-ranges.field-0.canonical all c.in_ok-new.ensures c.in_ok-class.ensures c.in_ok-class-2.ensures c.in_ok-ranges.ensures in
    subst (λ (rs : List (ℕ × ℕ)). AreRangesOf rs (InSet c.args.ignore_case c.args.set.now)) (sym same) made
