use Rattle.std.proofs.Common.{◌≡◌, true, false, rules}
use Rattle.std.specs.List.{Contains}
use Rattle.std.proofs.lemmas.List.{take_all}
use Rattle.ts_core.specs.declared.symbol.Symbol.{Symbol}
use Rattle.ts_table.proofs.ListLemmas.{not_all, yes_all, end_all}
use Rattle.ts_table.proofs.conflicts.are_among.Goals as goal

pub returns-then-not-is_among : goal.returns-then-not-is_among
returns-then-not-is_among c =
    let test : c.is_among.result ≡ false = search (rules, c.if-not-is_among.true) in
    not_all (λ (s : Symbol). Contains c.args.others.now s) c.args.symbols.now c.loop-symbol.symbol-index _ c.is_among.result c.loop-symbol-test.true test c.is_among.ensures

pub loop-symbol-preserved : goal.loop-symbol-preserved
loop-symbol-preserved c =
    let test : c.is_among.result ≡ true = search (rules, c.if-not-is_among.false) in
    yes_all (λ (s : Symbol). Contains c.args.others.now s) c.args.symbols.now c.loop-symbol.symbol-index _ c.is_among.result c.loop-symbol-test.true test c.is_among.ensures c.loop-symbol.invariant

pub returns : goal.returns
returns c = end_all (λ (s : Symbol). Contains c.args.others.now s) c.args.symbols.now c.loop-symbol.symbol-index (take_all _ _ c.loop-symbol-test.false) c.loop-symbol.invariant
