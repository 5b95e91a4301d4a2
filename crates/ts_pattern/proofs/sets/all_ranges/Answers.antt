use Rattle.std.proofs.Common.{ℕ, ◌+◌, ◌<◌, List, [], ◌++◌, take, length, sym, ap, subst, ◌∙◌, arith}
use Rattle.std.proofs.lemmas.List.{take_more}
use Rattle.ts_pattern.specs.declared.item.Item.{Item}
use Rattle.ts_pattern.specs.Sets.{InUnion}
use Rattle.ts_pattern.specs.Classify.{Have}
use Rattle.ts_pattern.proofs.SetLemmas.{have_none, have_more}
use Rattle.ts_pattern.proofs.sets.all_ranges.Goals as goal

pub items-init : goal.items-init
items-init c = subst (λ (rs : List (ℕ × ℕ)). Have rs (InUnion c.args.ignore_case [])) (sym c.new-all.ensures.items) (have_none c.args.ignore_case)

pub items-preserved : goal.items-preserved
items-preserved c =
    let inside : c.items.i < length c.args.items.now = omega arith in
    let more = c.in_ok-extend_from_slice.ensures.items ∙ ap (λ (rs : List (ℕ × ℕ)). c.items.all.items ++ rs) c.deref.ensures.value in
    let grown = have_more c.items.all.items c.in_ok-ranges.ranges.items c.args.ignore_case (take c.items.i c.args.items.now) _ c.items.invariant c.in_ok-ranges.ensures in
    subst (λ (rs : List (ℕ × ℕ)). Have rs (InUnion c.args.ignore_case (take (c.items.i + 1) c.args.items.now))) (sym more)
    (subst (λ (xs : List Item). Have (c.items.all.items ++ c.in_ok-ranges.ranges.items) (InUnion c.args.ignore_case xs)) (sym (take_more c.args.items.now c.items.i _ inside)) grown)
