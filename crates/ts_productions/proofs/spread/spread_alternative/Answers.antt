use Rattle.std.proofs.Common.{◌∙◌, ◌≤◌, ◌++◌, ap, sym, subst, List}
use Rattle.ts_rules.specs.declared.tree.NumberedStep.{NumberedStep}
use Rattle.ts_productions.specs.Expansions.{spread}
use Rattle.ts_productions.specs.declared.spread.Head.{Head}
use Rattle.ts_productions.specs.Sizes.{look, weigh, many_of, weights_of}
use Rattle.ts_productions.proofs.EachLemmas.{none_found, some_found}
use Rattle.ts_productions.proofs.spread.spread_alternative.Goals as goal

pub returns-then-is_void-clause-found : goal.returns-then-is_void-clause-found
returns-then-is_void-clause-found c F usable =
    none_found F c.args.inlined.now c.args.alternative.now c.args.growth.now.found usable
    (ap (λ (xs : List NumberedStep). weigh (many_of (weights_of c.args.inlined.now)) xs) (sym c.as_slice-rest.ensures) ∙ c.is_void.ensures.void c.if-is_void.true)

pub returns-clause-found : goal.returns-clause-found
returns-clause-found c F usable =
    some_found F c.args.inlined.now c.args.alternative.now c.args.growth.now.found c.spread_steps.new.growth.found c.args.growth.now.steps.items c.as_slice-rest.result.now usable
    (subst (λ (xs : List NumberedStep). 1 ≤ weigh (many_of (weights_of c.args.inlined.now)) xs) c.as_slice-rest.ensures (c.is_void.ensures.not c.if-is_void.false)) c.requires c.as_slice-rest.ensures
    (c.in_ok-spread_steps.ensures.found
    ∙ ap (λ (h : Head). c.args.growth.now.found ++ spread (look c.args.inlined.now) h.dynamic c.args.growth.now.steps.items h.last c.as_slice-rest.result.now) c.begin.ensures)
