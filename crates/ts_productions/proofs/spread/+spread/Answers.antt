use Rattle.std.proofs.Common.{rules, vec_len, ◌≡◌, ◌∙◌, ap, List, map, length, ◌++◌}
use Rattle.ts_rules.specs.Productions.{marked_by}
use Rattle.ts_rules.specs.declared.tree.NumberedStep.{NumberedStep}
use Rattle.ts_productions.specs.Sizes.{look}
use Rattle.ts_productions.proofs.EachLemmas.{each_more, each_ends, cut_back}
use Rattle.ts_productions.proofs.spread.+spread.Goals as goal

pub spread_each-loop-expansion-preserved : goal.spread_each-loop-expansion-preserved
spread_each-loop-expansion-preserved t c =
    let put : c.insert.new.steps.items ≡ c.args.growth.now.steps.items ++ map (marked_by c.args.step.now) c.expansion-item.result.steps =
    c.in_ok-insert.ensures ∙ ap (λ (xs : List NumberedStep). xs ++ map (marked_by c.args.step.now) c.as_slice.result.now) c.loop-expansion.invariant.1
    ∙ ap (λ (xs : List NumberedStep). c.args.growth.now.steps.items ++ map (marked_by c.args.step.now) xs) c.as_slice.ensures in
    let whole : vec_len c.args.growth.now.steps ≡ length c.args.growth.now.steps.items = search rules in (
      each_more (look c.args.inlined.now) c.args.head.now.dynamic c.args.growth.now.steps.items c.args.step.now c.args.after.now c.args.inner.now c.loop-expansion.expansion-index c.expansion-item.result
          c.args.growth.now.found c.loop-expansion.growth.found c.spread_steps.new.growth.found c.after_inner-next.result.dynamic c.insert.new.steps.items c.after_inner-next.result.last
          c.loop-expansion-test.true c.expansion-item.is c.loop-expansion.invariant.0 c.in_ok-spread_steps.ensures.found c.after_inner-next.ensures.dynamic put c.after_inner-next.ensures.last,
      cut_back c.truncate.new.self.items c.spread_steps.new.growth.steps.items (map (marked_by c.args.step.now) c.expansion-item.result.steps) c.args.growth.now.steps.items c.len-before.result (c.len-before.ensures ∙ whole) (c.in_ok-spread_steps.ensures.steps ∙ put) c.truncate.ensures.items,
    )

pub spread_each-returns-clause-found : goal.spread_each-returns-clause-found
spread_each-returns-clause-found t c =
    each_ends (look c.args.inlined.now) c.args.head.now.dynamic c.args.growth.now.steps.items c.args.step.now c.args.after.now c.args.inner.now c.loop-expansion.expansion-index c.args.growth.now.found c.loop-expansion.growth.found c.loop-expansion-test.false c.loop-expansion.invariant.0
