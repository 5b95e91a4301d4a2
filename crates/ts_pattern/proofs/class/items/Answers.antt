use Rattle.std.proofs.Common.{Bool, true, List, sym, ap, subst, ◌∙◌, arith}
use Rattle.ts_pattern.specs.declared.sight.Sight.{Sight}
use Rattle.ts_pattern.specs.declared.item.Item.{Item}
use Rattle.ts_pattern.specs.Characters.{IsSightWithin}
use Rattle.ts_pattern.specs.Classes.{AreClassItems, item, opens_after}
use Rattle.ts_pattern.proofs.ClassLemmas.{items_push, opens_push, class_wrong}
use Rattle.ts_pattern.proofs.class.items.Goals as goal

pub items-preserved : goal.items-preserved
items-preserved c =
    let w = c.args.text.now in
    let x = c.in-Sees.item in
    let seen = ap (λ (o : Bool). item w o c.items.next) (sym c.items.invariant.opens) ∙ sym c.in_ok-item.ensures.value ∙ c.in-Sees.is in
    let ends = subst (λ (s : Sight Item). IsSightWithin w c.items.next s) c.in-Sees.is c.in_ok-item.ensures.within in
    let pushed = c.in_ok-push-in-Sees.ensures.ok in
    let more = items_push w c.items.items true c.args.start c.items.next c.in-Sees.after x c.items.invariant.items (λ e. omega (arith, c.peek.ensures.value, e)) seen in
    record {
      items = subst (λ (xs : List Item). AreClassItems w true c.args.start xs c.in-Sees.after) (sym pushed) more;
      opens = c.is_class-opens.ensures ∙ sym (opens_push true c.items.items x) ∙ ap (opens_after true) (sym pushed);
      within = ends.1;
      after = omega (arith, c.items.invariant.after, ends.0);
    }

pub returns-in-Wrong-clause-value : goal.returns-in-Wrong-clause-value
returns-in-Wrong-clause-value c =
    let w = c.args.text.now in
    let wrong = ap (λ (o : Bool). item w o c.items.next) (sym c.items.invariant.opens) ∙ sym c.in_ok-item.ensures.value ∙ c.in-Wrong.is in
    class_wrong w c.args.at c.args.start c.items.next c.items.items c.in-Wrong.flaw c.in-Wrong.place c.requires.inside c.requires.some
    c.items.invariant.items (λ e. omega (arith, c.peek.ensures.value, e)) wrong
