use Rattle.std.proofs.Common.{◌∙◌, sym, subst, refl, List, All}
use Rattle.ts_rules.specs.declared.size.Size.{Size}
use Rattle.ts_productions.specs.declared.spread.Inlined.{Inlined}
use Rattle.ts_productions.specs.Expansions.{Expansions}
use Rattle.ts_productions.specs.Sizes.{IsUsable, SizesHold, FullHold}
use Rattle.ts_productions.proofs.LimitLemmas.{table, inlined_productions}
use Rattle.ts_productions.proofs.ProductionLemmas.{usable_each}
use Rattle.ts_productions.proofs.rules.productions_of.Goals as goal

pub returns : goal.returns
returns c =
    let t : Inlined = record { first = c.args.sources.now.first_inlined; sizes = c.as_slice.result; full = c.as_slice-2.result } in
    let sizes : SizesHold c.args.sources.now c.args.sources.now.order.now t.sizes.now =
    subst (λ (zs : List Size). SizesHold c.args.sources.now c.args.sources.now.order.now zs) (sym c.as_slice.ensures.value) c.requires.inlined.sizes in
    let full : FullHold c.args.sources.now c.args.sources.now.order.now t.full.now =
    subst (λ (zs : List Expansions). FullHold c.args.sources.now c.args.sources.now.order.now zs) (sym c.as_slice-2.ensures.value) c.requires.inlined.full in
    let usable : All (IsUsable (table c.args.sources.now c.requires.ordered) t) c.args.alternatives.now =
    usable_each c.args.sources.now c.requires.ordered t c.args.alternatives.now refl sizes full c.requires.few in
    inlined_productions c.args.sources.now c.requires.ordered c.args.alternatives.now c.as_slice-3.result.now c.in_ok-found.found
    (c.as_slice-3.ensures ∙ c.in_ok-expansions.ensures (table c.args.sources.now c.requires.ordered) usable) c.in_ok-found.ensures
