use Rattle.std.proofs.Common.{◌∙◌, sym, ap, subst, ◌+◌, ◌≤◌, arith}
use Rattle.std.proofs.lemmas.Option.{IfSome_then}
use Rattle.spec_runs.specs.Outcomes.{tree_outcome, Fresh}
use Rattle.ts_table.specs.declared.view.ParseTable.{ParseTable}
use Rattle.ts_docs.specs.declared.parsed.ParsedText.{ParsedText}
use Rattle.ts_docs.specs.Versions.{Drafts}
use Rattle.ts_script.specs.declared.plan.ScriptStep.{ScriptStep}
use Rattle.ts_script.specs.declared.plan.ScriptStep.TheVariants as step
use Rattle.spec_history.specs.Legal.{CanEdit}
use Rattle.ts_replay.specs.Replays.{AsksAmong}
use Rattle.ts_client.specs.Serving.{offers_of}
use Rattle.ts_client.specs.Steps.{standing_at, Serves}
use Rattle.ts_client.proofs.AskLemmas.{told_there, serves_step}
use Rattle.ts_client.proofs.DeskLemmas.{same_self}
use Rattle.ts_client.proofs.serving.serve_keeping.Goals as goal

-- ---- what took no turn

pub returns-in-Told-clause-same : goal.returns-in-Told-clause-same
returns-in-Told-clause-same g c = same_self c.args.desk.now.pass.knows

pub returns-in-Told-clause-offers : goal.returns-in-Told-clause-offers
returns-in-Told-clause-offers g c = omega arith

pub returns-in-Told-clause-serves : goal.returns-in-Told-clause-serves
returns-in-Told-clause-serves g c =
    told_there c.args.asker.client c.args.asker.number (standing_at c.args.desk.now) c.args.step.now c.in-Told.reply c.get.result.now c.get.ensures c.in-Told.ensures.begins

-- ---- offers

pub offer-requires-clause-may : goal.offer-requires-clause-may
offer-requires-clause-may g c = (
  c.args.table.now,
  c.requires.may,
  c.in-Offer.ensures.begins.drafts.table_is ∙ ap (λ (v : ParsedText). v.table) c.get.ensures ∙ c.requires.may.held,
)

pub offer-requires-clause-offers : goal.offer-requires-clause-offers
offer-requires-clause-offers g c =
    let one : 1 ≤ c.args.desk.now.pass.knows.offers = subst (λ (s : ScriptStep). offers_of s ≤ c.args.desk.now.pass.knows.offers) c.in-Offer.ensures.begins.step_is c.requires.offers in
    omega (arith, one)

pub offer-requires-clause-made : goal.offer-requires-clause-made
offer-requires-clause-made g c = c.in-Offer.ensures.begins.made_is

pub returns-in-Offer-clause-may : goal.returns-in-Offer-clause-may
returns-in-Offer-clause-may g c = c.offer.ensures.may c.args.table.now c.requires.may
    (c.in-Offer.ensures.begins.drafts.table_is ∙ ap (λ (v : ParsedText). v.table) c.get.ensures ∙ c.requires.may.held)

pub returns-in-Offer-clause-offers : goal.returns-in-Offer-clause-offers
returns-in-Offer-clause-offers g c = subst (λ (s : ScriptStep). c.args.desk.now.pass.knows.offers ≤ c.offer.new.desk.pass.knows.offers + offers_of s)
    (sym c.in-Offer.ensures.begins.step_is) c.offer.ensures.offers

pub returns-in-Offer-clause-serves : goal.returns-in-Offer-clause-serves
returns-in-Offer-clause-serves g c =
    let b = c.in-Offer.ensures.begins in
    IfSome_then c.offer.result c.offer.ensures.serves (λ reply does.
    serves_step c.args.asker.client c.args.asker.number (standing_at c.args.desk.now) c.args.step.now (step.Edit b.document b.edit) reply (standing_at c.offer.new.desk) b.step_is
    (does c.args.asker.client c.args.asker.number b.document b.edit
    (subst (λ (v : ParsedText). Drafts v c.args.asker.client c.args.asker.number b.edit c.in-Offer.draft) c.get.ensures b.drafts)
    (subst (λ (v : ParsedText). CanEdit v.text b.edit) c.get.ensures b.can)))

-- ---- looks

pub returns-in-Look-clause-may : goal.returns-in-Look-clause-may
returns-in-Look-clause-may g c = c.look.ensures.may c.args.table.now c.requires.may

pub returns-in-Look-clause-offers : goal.returns-in-Look-clause-offers
returns-in-Look-clause-offers g c = let o = c.look.ensures.offers in omega (arith, o)

pub returns-in-Look-clause-serves : goal.returns-in-Look-clause-serves
returns-in-Look-clause-serves g c =
    let b = c.in-Look.ensures.begins in
    IfSome_then c.look.result c.look.ensures.serves (λ reply does.
    serves_step c.args.asker.client c.args.asker.number (standing_at c.args.desk.now) c.args.step.now (step.Look b.0) reply (standing_at c.look.new.desk) b.1
    (does c.args.asker.client c.args.asker.number b.0))

pub returns-in-Await-clause-may : goal.returns-in-Await-clause-may
returns-in-Await-clause-may g c = c.wait.ensures.may c.args.table.now c.requires.may

pub returns-in-Await-clause-offers : goal.returns-in-Await-clause-offers
returns-in-Await-clause-offers g c = let o = c.wait.ensures.offers in omega (arith, o)

pub returns-in-Await-clause-serves : goal.returns-in-Await-clause-serves
returns-in-Await-clause-serves g c =
    let b = c.in-Await.ensures.begins in
    IfSome_then c.wait.result c.wait.ensures.serves (λ reply does.
    serves_step c.args.asker.client c.args.asker.number (standing_at c.args.desk.now) c.args.step.now (step.Await b.0 c.in-Await.wanted) reply (standing_at c.wait.new.desk) b.1
    (does c.args.asker.client c.args.asker.number b.0))

-- ---- queries

pub found-requires-clause-form : goal.found-requires-clause-form
found-requires-clause-form g c = λ κs lives. c.requires.form ∙ sym (ap (λ (t : ParseTable). t.grammar) c.requires.may.held)

pub found-requires-clause-fresh : goal.found-requires-clause-fresh
found-requires-clause-fresh g c = λ κs lives.
    subst (λ (v : ParsedText). Fresh v.table.grammar v.text (tree_outcome c.in-Ask.root.now)) c.get.ensures c.in-Ask.ensures.begins.fresh

pub found-requires-clause-there : goal.found-requires-clause-there
found-requires-clause-there g c = λ κs lives. subst (AsksAmong (g.F.Finder.count c.args.finder.now)) c.in-Ask.ensures.begins.step_is c.requires.asks

pub returns-in-Ask-clause-same : goal.returns-in-Ask-clause-same
returns-in-Ask-clause-same g c = same_self c.args.desk.now.pass.knows

pub returns-in-Ask-clause-offers : goal.returns-in-Ask-clause-offers
returns-in-Ask-clause-offers g c = omega arith

pub returns-in-Ask-clause-serves : goal.returns-in-Ask-clause-serves
returns-in-Ask-clause-serves g c =
    let b = c.in-Ask.ensures.begins in
    subst (λ (s : ScriptStep). Serves (g.F.Finder.finds c.args.finder.now) c.args.asker.client c.args.asker.number (standing_at c.args.desk.now) s c.found.result (standing_at c.args.desk.now))
    (sym b.step_is) (c.found.ensures.serves c.args.asker.client c.args.asker.number b.document)
