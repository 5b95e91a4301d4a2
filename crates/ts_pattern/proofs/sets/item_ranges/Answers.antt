use Rattle.std.proofs.Common.{◌≡◌, ℕ, List, true, sym, subst, ◌∙◌}
use Rattle.std.proofs.lemmas.Result.{IfOk-weaker}
use Rattle.ts_pattern.specs.Sets.{in_base, InItem}
use Rattle.ts_pattern.specs.Classify.{Have}
use Rattle.ts_pattern.proofs.SetLemmas.{lacking_item}
use Rattle.ts_pattern.proofs.sets.item_ranges.Goals as goal

pub returns : goal.returns
returns c =
    let lack : c.args.item.lacking ≡ true = cc in
    let made = lacking_item c.args.ignore_case c.args.item.lacking c.in_ok-ranges.ranges.items c.in_ok-new.field-0.ranges.items c.in_ok-folded.field-0.ranges.items c.in_ok-others.others.ranges.items
    (λ x. in_base c.args.item.base x ≡ true) lack c.in_ok-new.field-0.canonical c.in_ok-new.ensures c.in_ok-folded.ensures c.in_ok-others.ensures c.in_ok-ranges.ensures in
    IfOk-weaker c.from_slice.result _ _ (λ v e. subst (λ (rs : List (ℕ × ℕ)). Have rs (λ x. InItem c.args.ignore_case x c.args.item)) (sym (e ∙ c.deref.ensures.value)) made) c.from_slice.ensures.items
