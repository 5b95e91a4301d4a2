use Rattle.std.proofs.Common.{◌≡◌, ◌↔◌, refl, subst, List, true, false, rules}
use Rattle.std.specs.Bool.{IsTrue}
use Rattle.ts_core.specs.declared.symbol.Symbol.{Symbol}
use Rattle.ts_table.specs.Rules.{ComesFirst}
use Rattle.ts_table.proofs.RefusalLemmas.{lesser_first, lesser_new, lesser_old}
use Rattle.ts_table.proofs.refusals.least.Goals as goal

pub returns-in-None : goal.returns-in-None
returns-in-None c = lesser_first _ c.args.old c.args.token c.args.rules.items c.in-None.is refl refl

pub returns-then-is_lower : goal.returns-then-is_lower
returns-then-is_lower c =
    let test : c.is_lower.result ≡ true = search (rules, c.if-is_lower.true) in
    lesser_new c.in-Some.old _ c.args.old c.args.token c.args.rules.items c.is_lower.result c.in-Some.is refl refl
    (subst (λ (l : List Symbol). IsTrue c.is_lower.result ↔ (ComesFirst c.in-Some.old.token c.in-Some.old.rules.items c.args.token l → ⊥)) c.as_slice.ensures.value c.is_lower.ensures) test

pub returns-else-is_lower : goal.returns-else-is_lower
returns-else-is_lower c =
    let test : c.is_lower.result ≡ false = search (rules, c.if-is_lower.false) in
    lesser_old c.in-Some.old c.args.old c.args.token c.args.rules.items c.is_lower.result c.in-Some.is
    (subst (λ (l : List Symbol). IsTrue c.is_lower.result ↔ (ComesFirst c.in-Some.old.token c.in-Some.old.rules.items c.args.token l → ⊥)) c.as_slice.ensures.value c.is_lower.ensures) test
