use Rattle.std.proofs.Common.{◌≡◌, subst, true, false, rules, List, ◌↔◌}
use Rattle.std.proofs.lemmas.List.{drop_all}
use Rattle.ts_core.specs.declared.flat.Entry.{Entry}
use Rattle.spec_tables.specs.Actions.{Orders, Decides}
use Rattle.ts_table.specs.declared.orderings.Preference.TheVariants.{First, Neither}
use Rattle.ts_table.proofs.OrderingLemmas.{left_begins, left_more, here_first, here_neither, end_first, end_neither}
use Rattle.ts_table.proofs.orderings.by_orderings.Goals as goal

pub loop-ordering-init : goal.loop-ordering-init
loop-ordering-init c = left_begins c.args.orderings.now c.args.a c.args.b

pub returns-then-decides-clause-first : goal.returns-then-decides-clause-first
returns-then-decides-clause-first c =
    let test : c.decides.result ≡ true = search (rules, c.if-decides.true) in
    here_first c.args.orderings.now c.loop-ordering.ordering-index c.ordering-item.result c.args.a c.args.b c.loop-ordering-test.true c.ordering-item.is c.by_ordering-preference.result
    (subst (λ (l : List Entry). (c.by_ordering-preference.result ≡ First) ↔ Orders l c.args.a c.args.b) c.as_slice.ensures c.by_ordering-preference.ensures.first)
    (subst (λ (l : List Entry). (c.by_ordering-preference.result ≡ Neither) ↔ (Decides l c.args.a c.args.b → ⊥)) c.as_slice.ensures c.by_ordering-preference.ensures.neither)
    (c.decides.ensures.does.0 test) c.loop-ordering.invariant

pub returns-then-decides-clause-neither : goal.returns-then-decides-clause-neither
returns-then-decides-clause-neither c =
    let test : c.decides.result ≡ true = search (rules, c.if-decides.true) in
    here_neither c.args.orderings.now c.loop-ordering.ordering-index c.ordering-item.result c.args.a c.args.b c.loop-ordering-test.true c.ordering-item.is c.by_ordering-preference.result
    (subst (λ (l : List Entry). (c.by_ordering-preference.result ≡ Neither) ↔ (Decides l c.args.a c.args.b → ⊥)) c.as_slice.ensures c.by_ordering-preference.ensures.neither)
    (c.decides.ensures.does.0 test) c.loop-ordering.invariant

pub loop-ordering-preserved : goal.loop-ordering-preserved
loop-ordering-preserved c =
    let test : c.decides.result ≡ false = search (rules, c.if-decides.false) in
    let neither = subst (λ (l : List Entry). (c.by_ordering-preference.result ≡ Neither) ↔ (Decides l c.args.a c.args.b → ⊥)) c.as_slice.ensures c.by_ordering-preference.ensures.neither in
    left_more c.args.orderings.now c.loop-ordering.ordering-index c.ordering-item.result c.args.a c.args.b c.loop-ordering-test.true c.ordering-item.is (neither.0 (c.decides.ensures.neither test)) c.loop-ordering.invariant

pub returns-clause-first : goal.returns-clause-first
returns-clause-first c = end_first c.args.orderings.now _ c.args.a c.args.b (drop_all _ _ c.loop-ordering-test.false) c.loop-ordering.invariant

pub returns-clause-neither : goal.returns-clause-neither
returns-clause-neither c = end_neither c.args.orderings.now _ c.args.a c.args.b (drop_all _ _ c.loop-ordering-test.false) c.loop-ordering.invariant
