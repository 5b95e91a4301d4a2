use Rattle.std.proofs.Common.{◌≡◌, true, false, refl, sym, ◌∙◌}
use Rattle.ts_rules.specs.Causes.{IsBadExtra}
use Rattle.ts_tokens.specs.Extras.{symbol_told}
use Rattle.ts_tokens.proofs.FirstLemmas.{first_here, clear_more, clear_all}
use Rattle.ts_tokens.proofs.causes.first_bad.Goals as goal

pub returns-then-is_bad : goal.returns-then-is_bad
returns-then-is_bad c = λ g same. (
  symbol_told c.symbol-item.result,
  first_here symbol_told (IsBadExtra g) c.args.symbols.now c.loop-symbol.symbol-index c.symbol-item.result c.loop-symbol-test.true c.symbol-item.is ((c.is_bad.ensures g same).0 c.if-is_bad.true) (c.loop-symbol.invariant g same),
  refl,
)

pub loop-symbol-preserved : goal.loop-symbol-preserved
loop-symbol-preserved c = λ g same. clear_more symbol_told (IsBadExtra g) c.args.symbols.now c.loop-symbol.symbol-index c.symbol-item.result c.loop-symbol-test.true c.symbol-item.is
    (λ bad. let right : true ≡ false = sym ((c.is_bad.ensures g same).1 bad) ∙ c.if-is_bad.false in cc) (c.loop-symbol.invariant g same)

pub returns : goal.returns
returns c = λ g same. clear_all symbol_told (IsBadExtra g) c.args.symbols.now c.loop-symbol.symbol-index c.loop-symbol-test.false (c.loop-symbol.invariant g same)
