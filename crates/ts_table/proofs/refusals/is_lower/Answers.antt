use Rattle.std.proofs.Common.{◌↔◌, List, subst}
use Rattle.std.specs.Bool.{IsTrue}
use Rattle.ts_core.specs.declared.symbol.Symbol.{Symbol}
use Rattle.spec_tables.specs.Conflicts.{NotAfter}
use Rattle.ts_table.proofs.RefusalLemmas.{lower_other, lower_same, lt_iff}
use Rattle.ts_table.proofs.refusals.is_lower.Goals as goal

pub returns-then-token-old : goal.returns-then-token-old
returns-then-token-old c = lower_other c.args.token c.args.old.now.token c.args.rules.now c.args.old.now.rules.items _ (λ e. c.if-token-old.true e) (lt_iff c.args.token c.args.old.now.token)

pub returns : goal.returns
returns c = lower_same c.args.token c.args.old.now.token c.args.rules.now c.args.old.now.rules.items c.is_after.result c.if-token-old.false
    (subst (λ (l : List Symbol). IsTrue c.is_after.result ↔ (NotAfter l c.args.rules.now → ⊥)) c.as_slice.ensures.value c.is_after.ensures)
