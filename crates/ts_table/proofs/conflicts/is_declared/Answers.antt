use Rattle.std.proofs.Common.{◌≡◌, ◌∙◌, true, false, rules, List}
use Rattle.std.proofs.lemmas.List.{take_all}
use Rattle.ts_core.specs.declared.symbol.Symbol.{Symbol}
use Rattle.ts_table.specs.Rules.{AreSameSymbols}
use Rattle.ts_table.proofs.ListLemmas.{found_one, none_more, end_none}
use Rattle.ts_table.proofs.ContestLemmas.{set_test}
use Rattle.ts_table.proofs.conflicts.is_declared.Goals as goal

pub returns-then-are_same : goal.returns-then-are_same
returns-then-are_same c =
    let test : c.are_same.result ≡ true = search (rules, c.if-are_same.true) in
    found_one (λ (set : List Symbol). AreSameSymbols set c.args.rules.now) c.args.declared.now c.loop-set.set-index c.set-item.result c.are_same.result c.loop-set-test.true test
    (set_test _ c.as_slice.result.now c.args.rules.now c.are_same.result (c.as_slice.ensures ∙ c.set-item.is) c.are_same.ensures)

pub loop-set-preserved : goal.loop-set-preserved
loop-set-preserved c =
    let test : c.are_same.result ≡ false = search (rules, c.if-are_same.false) in
    none_more (λ (set : List Symbol). AreSameSymbols set c.args.rules.now) c.args.declared.now c.loop-set.set-index c.set-item.result c.are_same.result c.loop-set-test.true test
    (set_test _ c.as_slice.result.now c.args.rules.now c.are_same.result (c.as_slice.ensures ∙ c.set-item.is) c.are_same.ensures) c.loop-set.invariant

pub returns : goal.returns
returns c = end_none (λ (set : List Symbol). AreSameSymbols set c.args.rules.now) c.args.declared.now c.loop-set.set-index (take_all _ _ c.loop-set-test.false) c.loop-set.invariant
