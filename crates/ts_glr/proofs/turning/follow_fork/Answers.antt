use Rattle.std.proofs.Common.{sym, subst, List, Option, length}
use Rattle.std.specs.Prelude.{IfSome}
use Rattle.spec_forced.specs.OnlyRuns.{IsFork}
use Rattle.ts_gss.specs.declared.layer.Layer.{Layer}
use Rattle.ts_gss.specs.Stacks.{IsOneStack}
use Rattle.ts_reductions.specs.declared.setting.Setting.{Setting}
use Rattle.ts_reductions.specs.Lines.{IsSetting}
use Rattle.ts_steps.specs.LiveHeads.{config_of}
use Rattle.ts_steps.specs.Heads.{IsOwnHead}
use Rattle.ts_glr.specs.Spreading.{IsOfSomeFrom}
use Rattle.ts_glr.proofs.CrossLemmas.{all_end, comes_same}
use Rattle.ts_glr.proofs.turning.follow_fork.Goals as goal

pub is_nothing-requires-clause-there : goal.is_nothing-requires-clause-there
is_nothing-requires-clause-there g c = c.requires.own.live.there

pub returns-then-is_nothing-clause-comes : goal.returns-then-is_nothing-clause-comes
returns-then-is_nothing-clause-comes g c =
    let e = c.in_ok-outcome.ensures in
    all_end c.args.table.now (g.L.Text.Content.bytes c.args.text.now) c.args.stacks.now c.args.before c.args.start c.in_ok-outcome.outcome e.form e.own e.fresh e.sound

pub returns-then-is_nothing-clause-kept : goal.returns-then-is_nothing-clause-kept
returns-then-is_nothing-clause-kept g c =
    subst (λ (o : Option Setting). IfSome o (IsSetting c.args.table.now (length (g.L.Text.Content.bytes c.args.text.now)))) (sym c.in_ok-lines.ensures.taken) tt

pub cross-requires-clause-own : goal.cross-requires-clause-own
cross-requires-clause-own g c =
    subst (λ (ss : List (List Layer)). IsOwnHead c.args.table.now (length (g.L.Text.Content.bytes c.args.text.now)) ss c.args.start) (sym c.replace-own.ensures.value) c.requires.own

pub cross-requires-clause-fork : goal.cross-requires-clause-fork
cross-requires-clause-fork g c =
    subst (λ (ss : List (List Layer)). IsFork c.args.table.now.grammar (g.L.Text.Content.bytes c.args.text.now) (config_of ss c.args.start)) (sym c.replace-own.ensures.value) c.requires.fork

pub cross-requires-clause-one : goal.cross-requires-clause-one
cross-requires-clause-one g c = subst (λ (ss : List (List Layer)). IsOneStack ss c.args.start.top) (sym c.replace-own.ensures.value) c.requires.one

pub cross-requires-clause-some : goal.cross-requires-clause-some
cross-requires-clause-some g c =
    subst (λ (ss : List (List Layer)). IsOfSomeFrom c.args.table.now (g.L.Text.Content.bytes c.args.text.now) ss c.args.start) (sym c.replace-own.ensures.value) (c.is_nothing.ensures.some c.if-is_nothing.false)

pub returns-clause-comes : goal.returns-clause-comes
returns-clause-comes g c =
    comes_same c.args.table.now (g.L.Text.Content.bytes c.args.text.now) c.args.stacks.now c.replace-own.result c.args.before c.args.start c.in_ok-crossed.crossed c.replace-own.ensures.value c.in_ok-crossed.ensures.comes
