use Rattle.std.proofs.Common.{◌≡◌, ◌∙◌, ap, subst, List, ℕ, map}
use Rattle.std.proofs.lemmas.List.{take_all}
use Rattle.std.specs.List.Sorted.{IsStrictlySortedBy}
use Rattle.std.specs.Ordering.{nat_cmp}
use Rattle.ts_numbering.specs.Numberings.{numbers_of}
use Rattle.ts_rules.specs.Productions.{symbol}
use Rattle.ts_entries.proofs.SupertypeLemmas.{symbols_are, symbols_rise}
use Rattle.ts_entries.proofs.supertypes.supertype_symbols.Goals as goal

pub returns-clause-all : goal.returns-clause-all
returns-clause-all c =
    let same : c.as_slice-number-items.result.now ≡ c.in_ok-numbers.numbers.keys = c.as_slice-number-items.ensures.value ∙ c.in_ok-numbers-2.ensures.numbers in
    symbols_are c.args.grammar.now (numbers_of c.args.numbering.now) c.in_ok-numbers.numbers c.loop-number.symbols c.in_ok-numbers.ensures
    (c.loop-number.invariant ∙ ap (map symbol) (take_all c.loop-number.number-index c.as_slice-number-items.result.now c.loop-number-test.false ∙ same))

pub returns-clause-rise : goal.returns-clause-rise
returns-clause-rise c =
    let same : c.as_slice-number-items.result.now ≡ c.in_ok-numbers.numbers.keys = c.as_slice-number-items.ensures.value ∙ c.in_ok-numbers-2.ensures.numbers in
    symbols_rise c.in_ok-numbers.numbers c.loop-number.symbols (subst (λ (ks : List ℕ). IsStrictlySortedBy nat_cmp ks) c.in_ok-numbers-2.ensures.numbers c.in_ok-numbers-2.ensures.rising)
    (c.loop-number.invariant ∙ ap (map symbol) (take_all c.loop-number.number-index c.as_slice-number-items.result.now c.loop-number-test.false ∙ same))
