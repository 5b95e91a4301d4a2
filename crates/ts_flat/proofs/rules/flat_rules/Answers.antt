use Rattle.std.proofs.Common.{◌∙◌, sym, subst, ℕ, List}
use Rattle.std.proofs.lemmas.Result.{err_from_is_err_and}
use Rattle.ts_numbering.specs.Numberings.{numbers_of, lists_of}
use Rattle.ts_productions.specs.Grammars.{IsInlineOrder}
use Rattle.ts_productions.specs.declared.fault.ProductionFault.{ProductionFault}
use Rattle.ts_flat.proofs.EachLemmas.{same_error}
use Rattle.ts_flat.proofs.rules.flat_rules.Goals as goal

pub inlined_rules-requires : goal.inlined_rules-requires
inlined_rules-requires c =
    let n = numbers_of c.args.numbering.now in
    let x = lists_of c.args.numbering.now in
    let s = c.sources_of-sources.result in
    let g = c.args.grammar.now in
    let src = c.sources_of-sources.ensures.sources g c.requires.numbers in
    c.ordered_sources.ensures g n x s c.requires.lists c.requires.numbers c.requires.defined src
    (subst (λ (order : List ℕ). IsInlineOrder g x order) (sym (c.sources_of-sources.ensures.order ∙ c.as_slice.ensures.value)) (c.in_ok-order.ensures x c.requires.lists))

pub rules_by-requires-clause-ordered : goal.rules_by-requires-clause-ordered
rules_by-requires-clause-ordered c =
    let n = numbers_of c.args.numbering.now in
    let x = lists_of c.args.numbering.now in
    let s = c.sources_of-sources.result in
    let g = c.args.grammar.now in
    let src = c.sources_of-sources.ensures.sources g c.requires.numbers in
    c.ordered_sources.ensures g n x s c.requires.lists c.requires.numbers c.requires.defined src
    (subst (λ (order : List ℕ). IsInlineOrder g x order) (sym (c.sources_of-sources.ensures.order ∙ c.as_slice.ensures.value)) (c.in_ok-order.ensures x c.requires.lists))

pub returns-in_err-inlined-clause-many : goal.returns-in_err-inlined-clause-many
returns-in_err-inlined-clause-many c =
    let n = numbers_of c.args.numbering.now in
    let x = lists_of c.args.numbering.now in
    let s = c.sources_of-sources.result in
    let g = c.args.grammar.now in
    let src = c.sources_of-sources.ensures.sources g c.requires.numbers in
    let p = err_from_is_err_and c.from_residual-in_err-inlined.result c.from_residual-in_err-inlined.ensures.1 in
    rw (p.1, p.2) (λ is. (c.limits_of_sources.ensures.many n x s src).0 (c.in_err-inlined.ensures.many (same_error c.in_err-inlined.field-0.0 ProductionFault.Productions is)))

pub returns-in_err-inlined-clause-long : goal.returns-in_err-inlined-clause-long
returns-in_err-inlined-clause-long c =
    let n = numbers_of c.args.numbering.now in
    let x = lists_of c.args.numbering.now in
    let s = c.sources_of-sources.result in
    let g = c.args.grammar.now in
    let src = c.sources_of-sources.ensures.sources g c.requires.numbers in
    let in_order = (c.ordered_sources.ensures g n x s c.requires.lists c.requires.numbers c.requires.defined src
    (subst (λ (order : List ℕ). IsInlineOrder g x order) (sym (c.sources_of-sources.ensures.order ∙ c.as_slice.ensures.value)) (c.in_ok-order.ensures x c.requires.lists))) in
    let p = err_from_is_err_and c.from_residual-in_err-inlined.result c.from_residual-in_err-inlined.ensures.1 in
    rw (p.1, p.2) (λ is.
    let w = c.in_err-inlined.ensures.long (same_error c.in_err-inlined.field-0.0 ProductionFault.Steps is) in
    ((λ m. c.limits_of_sources.ensures.few s in_order w.0 ((c.limits_of_sources.ensures.many n x s src).1 m)), (c.limits_of_sources.ensures.long n x s src).0 w.1))

pub returns-clause-fits : goal.returns-clause-fits
returns-clause-fits c =
    let n = numbers_of c.args.numbering.now in
    let x = lists_of c.args.numbering.now in
    let s = c.sources_of-sources.result in
    let g = c.args.grammar.now in
    let src = c.sources_of-sources.ensures.sources g c.requires.numbers in
    let in_order = (c.ordered_sources.ensures g n x s c.requires.lists c.requires.numbers c.requires.defined src
    (subst (λ (order : List ℕ). IsInlineOrder g x order) (sym (c.sources_of-sources.ensures.order ∙ c.as_slice.ensures.value)) (c.in_ok-order.ensures x c.requires.lists))) in
    let w = c.in_ok-inlined.ensures.fits in
    ((λ m. c.limits_of_sources.ensures.few s in_order w.0 ((c.limits_of_sources.ensures.many n x s src).1 m)), (λ l. c.limits_of_sources.ensures.short s in_order w.1 ((c.limits_of_sources.ensures.long n x s src).1 l)))
