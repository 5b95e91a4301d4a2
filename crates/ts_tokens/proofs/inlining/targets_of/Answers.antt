use Rattle.std.proofs.Common.{◌∙◌, ap, ℕ, ◌++◌, Option}
use Rattle.ts_rules.specs.Names.{told}
use Rattle.ts_tokens.specs.Inlining.{place_list}
use Rattle.ts_tokens.proofs.InliningLemmas.{targets_more, targets_all}
use Rattle.ts_tokens.proofs.inlining.targets_of.Goals as goal

pub loop-name-preserved : goal.loop-name-preserved
loop-name-preserved c = λ names inline are apart.
    targets_more names inline c.args.places.now c.as_slice-name-items.result.now c.loop-name.name-index c.name-item.result c.loop-name.targets.items c.add_place.new.targets.items c.loop-name-test.true c.name-item.is
    (c.in_ok-add_place.ensures ∙ ap (λ (o : Option ℕ). c.loop-name.targets.items ++ place_list o) c.get.ensures.value)
    are apart (c.loop-name.invariant names inline are apart)

pub returns : goal.returns
returns c = λ names inline are apart.
    targets_all names inline c.as_slice-name-items.result.now _ c.loop-name.name-index c.loop-name.targets.items c.loop-name-test.false
    (ap told c.as_slice-name-items.ensures.value ∙ c.in_ok-used.ensures) (c.loop-name.invariant names inline are apart)
