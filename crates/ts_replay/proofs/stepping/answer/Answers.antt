use Rattle.std.proofs.Common.{◌∙◌, sym, ap, refl, subst}
use Rattle.spec_runs.specs.Outcomes.{tree_outcome, Fresh}
use Rattle.ts_table.specs.declared.view.ParseTable.{ParseTable}
use Rattle.ts_docs.specs.declared.parsed.ParsedText.{ParsedText}
use Rattle.ts_docs.specs.Versions.{Drafts}
use Rattle.ts_script.specs.declared.plan.ScriptStep.{ScriptStep}
use Rattle.ts_script.specs.declared.plan.ScriptStep.TheVariants as step
use Rattle.spec_history.specs.Legal.{CanEdit}
use Rattle.ts_replay.specs.Replays.{AsksAmong}
use Rattle.ts_replay.specs.Steps.{place, NeedsRoom, Does}
use Rattle.ts_replay.proofs.StepLemmas.{told_there, does_step}
use Rattle.ts_replay.proofs.stepping.answer.Goals as goal

pub returns-in-Told-clause-does : goal.returns-in-Told-clause-does
returns-in-Told-clause-does g c =
    told_there c.args.asker.client c.args.asker.number (place c.args.document.now.turn c.args.document.now.book c.args.held.now) c.args.step.now c.in-Told.reply
    c.get-base.result.now c.number.result c.get-base.ensures c.number.ensures c.in-Told.ensures.begins

pub offer-requires-clause-room : goal.offer-requires-clause-room
offer-requires-clause-room g c = subst (λ (s : ScriptStep). NeedsRoom s c.args.document.now.book.room) c.in-Offer.ensures.begins.step_is c.requires.room

pub offer-requires-clause-table : goal.offer-requires-clause-table
offer-requires-clause-table g c = c.in-Offer.ensures.begins.drafts.table_is ∙ ap (λ (v : ParsedText). v.table) c.get-base.ensures ∙ sym c.requires.place.one_table

pub offer-requires-clause-made : goal.offer-requires-clause-made
offer-requires-clause-made g c = c.in-Offer.ensures.begins.made_is

pub returns-in-Offer-clause-does : goal.returns-in-Offer-clause-does
returns-in-Offer-clause-does g c =
    let b = c.in-Offer.ensures.begins in
    does_step c.args.asker.client c.args.asker.number (place c.args.document.now.turn c.args.document.now.book c.args.held.now) c.args.step.now (step.Edit b.document b.edit) c.offer.result
    (place c.offer.new.document.turn c.offer.new.document.book c.offer.new.held) b.step_is
    (c.offer.ensures.does c.args.asker.client c.args.asker.number b.document b.edit
    (subst (λ (v : ParsedText). Drafts v c.args.asker.client c.args.asker.number b.edit c.in-Offer.draft) c.get-base.ensures b.drafts)
    (subst (λ (v : ParsedText). CanEdit v.text b.edit) c.get-base.ensures b.can))

pub returns-in-Look-clause-does : goal.returns-in-Look-clause-does
returns-in-Look-clause-does g c =
    let b = c.in-Look.ensures.begins in
    does_step c.args.asker.client c.args.asker.number (place c.args.document.now.turn c.args.document.now.book c.args.held.now) c.args.step.now (step.Look b.0) c.look.result
    (place c.look.new.document.turn c.look.new.document.book c.look.new.held) b.1
    (c.look.ensures.does c.args.asker.client c.args.asker.number b.0)

pub returns-in-Await-clause-does : goal.returns-in-Await-clause-does
returns-in-Await-clause-does g c =
    let b = c.in-Await.ensures.begins in
    does_step c.args.asker.client c.args.asker.number (place c.args.document.now.turn c.args.document.now.book c.args.held.now) c.args.step.now (step.Await b.0 c.in-Await.wanted) c.wait.result
    (place c.wait.new.document.turn c.wait.new.document.book c.wait.new.held) b.1
    (c.wait.ensures.does c.args.asker.client c.args.asker.number b.0)

pub found-requires-clause-form : goal.found-requires-clause-form
found-requires-clause-form g c = c.requires.form ∙ sym (ap (λ (t : ParseTable). t.grammar) c.requires.table)

pub found-requires-clause-fresh : goal.found-requires-clause-fresh
found-requires-clause-fresh g c = subst (λ (v : ParsedText). Fresh v.table.grammar v.text (tree_outcome c.in-Ask.root.now)) c.get-base.ensures c.in-Ask.ensures.begins.fresh

pub found-requires-clause-there : goal.found-requires-clause-there
found-requires-clause-there g c = subst (AsksAmong (g.F.Finder.count c.args.finder.now)) c.in-Ask.ensures.begins.step_is c.requires.asks

pub returns-in-Ask-clause-does : goal.returns-in-Ask-clause-does
returns-in-Ask-clause-does g c =
    let p = place c.args.document.now.turn c.args.document.now.book c.args.held.now in
    let b = c.in-Ask.ensures.begins in
    subst (λ (s : ScriptStep). Does (g.F.Finder.finds c.args.finder.now) c.args.asker.client c.args.asker.number p s c.found.result p) (sym b.step_is)
    (c.found.ensures.does c.args.asker.client c.args.asker.number b.document p refl)

pub found-requires-clause-kept : goal.found-requires-clause-kept
found-requires-clause-kept g c = c.keep_for.ensures (g.F.Finder.form c.args.finder.now) c.requires.kept

pub returns-in-Told-clause-kept : goal.returns-in-Told-clause-kept
returns-in-Told-clause-kept g c = c.keep_for.ensures (g.F.Finder.form c.args.finder.now) c.requires.kept

pub returns-in-Offer-clause-kept : goal.returns-in-Offer-clause-kept
returns-in-Offer-clause-kept g c = c.keep_for.ensures (g.F.Finder.form c.args.finder.now) c.requires.kept

pub returns-in-Look-clause-kept : goal.returns-in-Look-clause-kept
returns-in-Look-clause-kept g c = c.keep_for.ensures (g.F.Finder.form c.args.finder.now) c.requires.kept

pub returns-in-Await-clause-kept : goal.returns-in-Await-clause-kept
returns-in-Await-clause-kept g c = c.keep_for.ensures (g.F.Finder.form c.args.finder.now) c.requires.kept
