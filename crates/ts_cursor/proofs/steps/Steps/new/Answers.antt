use Rattle.std.proofs.Common.{◌≡◌, ◌∙◌, ◌++◌, ◌∷◌, ap, sym, subst, map, [], List, length, take, Bor, ℕ, arith, length-append}
use Rattle.std.proofs.lemmas.List.{length-map, take_all}
use Rattle.ts_core.specs.declared.flat.Step.{Step}
use Rattle.ts_core.specs.declared.flat.Production.{Production}
use Rattle.ts_core.specs.declared.flat.FlatRule.{FlatRule}
use Rattle.spec_grammar.specs.Symbols.{count_productions}
use Rattle.ts_cursor.specs.Numbered.{AreFirstProductions}
use Rattle.ts_cursor.proofs.NumberLemmas.{count_steps, firsts_more, steps_more}
use Rattle.ts_cursor.proofs.steps.Steps.new.Goals as goal

pub loop-rule-preserved : goal.loop-rule-preserved
loop-rule-preserved c =
    let i : ℕ = c.loop-rule.rule-index in
    let rules : List FlatRule = c.as_slice-rule-items.result.now in
    let firsts : List ℕ = c.loop-rule.firsts.items in
    let steps : List (List Step) = map (λ x. x.now) c.loop-rule.steps.items in
    let o : c.push.new.self.items ≡ firsts ++ length c.as_slice.result.now ∷ [] = c.in_ok-push.ensures.items in
    let s : c.as_slice.result.now ≡ c.loop-rule.steps.items = c.as_slice.ensures.value in
    let n : length c.as_slice.result.now ≡ length steps = ap (λ (xs : List (Bor (List Step))). length xs) s ∙ sym (length-map c.loop-rule.steps.items (λ x. x.now)) in
    let at : length c.as_slice.result.now ≡ count_productions (take (length firsts) rules) = n ∙ ap length c.loop-rule.invariant.all ∙ count_steps (take i rules) ∙ ap (λ (k : ℕ). count_productions (take k rules)) (sym c.loop-rule.invariant.many) in
    let ps : List Production = c.as_slice-production-items.result.now in
    let own : ps ≡ c.rule-item.result.productions = c.as_slice-production-items.ensures in
    let whole : take c.loop-production.production-index ps ≡ ps = take_all c.loop-production.production-index ps (omega (arith, c.loop-production-test.false)) in
    record {
      many = ap length o ∙ omega (arith, length-append firsts (length c.as_slice.result.now ∷ []), c.loop-rule.invariant.many);
      each = subst (λ (xs : List ℕ). AreFirstProductions rules xs) (sym o) (firsts_more rules firsts (length c.as_slice.result.now) c.loop-rule.invariant.each at);
      all =
          steps_more rules i c.rule-item.result steps (map (λ x. x.now) c.loop-production.steps.items) c.loop-rule.invariant.all c.loop-rule-test.true c.rule-item.is
          (c.loop-production.invariant ∙ ap (λ (xs : List Production). steps ++ map (λ (p : Production). p.steps) xs) (whole ∙ own));
    }
