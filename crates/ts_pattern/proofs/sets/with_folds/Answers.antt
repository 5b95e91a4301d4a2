use Rattle.std.proofs.Common.{◌||◌, sym, ap₂, subst, ◌∙◌}
use Rattle.regex_class.specs.Ranges.{in_ranges, in_image, KeysRise}
use Rattle.ts_pattern.proofs.SetLemmas.{KeysRise-fold_pairs, HasExactly-along}
use Rattle.ts_pattern.proofs.sets.with_folds.Goals as goal

pub append_image-requires : goal.append_image-requires
append_image-requires c = subst KeysRise (sym c.fold_pairs.ensures.table) KeysRise-fold_pairs

pub returns : goal.returns
returns c =
    let rs = c.args.class.now.ranges.items in
    let copied = c.in_ok-ranges.ensures.items ∙ c.deref.ensures.value in
    HasExactly-along _ _ _ (λ x. c.in_ok-append_image.ensures.members x
    ∙ ap₂ (λ l ps. in_ranges l x || in_image ps rs x) copied c.fold_pairs.ensures.table) c.new.ensures
