use Rattle.std.proofs.Common.{◌≡◌, refl}
use Rattle.std.proofs.lemmas.List.{take_all}
use Rattle.ts_core.specs.declared.symbol.Symbol.{Symbol}
use Rattle.ts_table.proofs.ListLemmas.{all_more, all_all, false_not_true}
use Rattle.ts_table.proofs.conflicts.is_among.Goals as goal

pub loop-other-preserved : goal.loop-other-preserved
loop-other-preserved c = all_more (λ (q : Symbol). q.0 ≡ c.args.symbol.0 → ⊥) c.args.symbols.now c.loop-other.other-index _ c.loop-other-test.true c.loop-other.invariant (λ e. c.if-other-symbol.false e)

pub returns : goal.returns
returns c = ((λ h. absurd (false_not_true h)), (λ h. absurd (all_all (λ (q : Symbol). q.0 ≡ c.args.symbol.0 → ⊥) c.args.symbols.now c.loop-other.other-index (take_all _ _ c.loop-other-test.false) c.loop-other.invariant c.args.symbol h refl)))
