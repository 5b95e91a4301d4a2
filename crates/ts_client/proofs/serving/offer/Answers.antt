use Rattle.std.proofs.Common.{◌≡◌, ◌∙◌, sym, subst, ℕ, [], arith}
use Rattle.ts_text.specs.declared.edit.Edit.{Edit as TextEdit}
use Rattle.ts_docs.specs.declared.parsed.ParsedText.{ParsedText}
use Rattle.ts_docs.specs.declared.parsed.Drafted.{Drafted}
use Rattle.ts_docs.specs.Versions.{Drafts}
use Rattle.ts_shelf.specs.declared.shelf.Offered.{Offered}
use Rattle.ts_shelf.specs.declared.shelf.Denied.TheVariants as denied
use Rattle.ts_shelf.specs.Calls.{AnswersOffer}
use Rattle.spec_history.specs.Legal.{CanEdit}
use Rattle.ts_script.specs.declared.plan.ScriptStep.TheVariants as step
use Rattle.ts_replies.specs.declared.reply.Reply.{Reply}
use Rattle.ts_client.specs.Steps.{standing_at, ServesStep, StopsEarly, has_no_memory}
use Rattle.ts_client.proofs.LookLemmas.{none_idle, turned_same, unturned_same}
use Rattle.ts_client.proofs.DeskLemmas.{may_shown, may_kept, may_published, if_memory, if_spent, stops_at, offer_publishes, offer_newer}
use Rattle.ts_client.proofs.serving.offer.Goals as goal

pub offer-requires-clause-fits : goal.offer-requires-clause-fits
offer-requires-clause-fits g c = λ opening is. c.requires.may.2 ∙ sym (c.requires.may.1.opened opening is)

pub returns-in-Ok-Published-clause-may : goal.returns-in-Ok-Published-clause-may
returns-in-Ok-Published-clause-may g c = λ table may of_table.
    let p = subst (λ (o : Offered ParsedText). AnswersOffer (λ (d : Drafted). d.version) c.args.desk.now.pass.knows c.offer.new.pass.knows c.args.desk.now.number c.args.draft o) c.in-Ok-Published.field-0-is c.in-Ok-Published.ensures.answered in
    may_published table c.args.shelf.now c.args.desk.now c.offer.new.pass c.args.draft c.in-Ok-Published.turn c.in-Ok-Published.number c.args.made
    c.offer.ensures.shelf c.offer.ensures.pass (turned_same _ _ _ _ _ p.turned) p c.requires.made may of_table

pub returns-in-Ok-Published-clause-same : goal.returns-in-Ok-Published-clause-same
returns-in-Ok-Published-clause-same g c =
    let p = subst (λ (o : Offered ParsedText). AnswersOffer (λ (d : Drafted). d.version) c.args.desk.now.pass.knows c.offer.new.pass.knows c.args.desk.now.number c.args.draft o) c.in-Ok-Published.field-0-is c.in-Ok-Published.ensures.answered in
    turned_same _ _ _ _ _ p.turned

pub returns-in-Ok-Published-clause-offers : goal.returns-in-Ok-Published-clause-offers
returns-in-Ok-Published-clause-offers g c =
    let p = subst (λ (o : Offered ParsedText). AnswersOffer (λ (d : Drafted). d.version) c.args.desk.now.pass.knows c.offer.new.pass.knows c.args.desk.now.number c.args.draft o) c.in-Ok-Published.field-0-is c.in-Ok-Published.ensures.answered in
    let o = p.turned.offers in omega (arith, o)

pub returns-in-Ok-Published-clause-serves : goal.returns-in-Ok-Published-clause-serves
returns-in-Ok-Published-clause-serves g c = λ client number at edit drafts can.
    let p = subst (λ (o : Offered ParsedText). AnswersOffer (λ (d : Drafted). d.version) c.args.desk.now.pass.knows c.offer.new.pass.knows c.args.desk.now.number c.args.draft o) c.in-Ok-Published.field-0-is c.in-Ok-Published.ensures.answered in
    offer_publishes client number at edit (standing_at c.args.desk.now) c.offer.new.pass.knows c.args.draft c.in-Ok-Published.turn c.in-Ok-Published.number c.args.made
    c.requires.made p drafts can

pub returns-in-Ok-Newer-clause-may : goal.returns-in-Ok-Newer-clause-may
returns-in-Ok-Newer-clause-may g c = λ table may of_table.
    let p = subst (λ (o : Offered ParsedText). AnswersOffer (λ (d : Drafted). d.version) c.args.desk.now.pass.knows c.offer.new.pass.knows c.args.desk.now.number c.args.draft o) c.in-Ok-Newer.field-0-is c.in-Ok-Newer.ensures.answered in
    may_shown table c.args.shelf.now c.args.desk.now c.offer.new.pass c.in-Ok-Newer.number c.in-Ok-Newer.latest
    c.offer.ensures.shelf c.offer.ensures.pass (turned_same _ _ _ _ _ p.0.turned) p.0.number_is p.1 may

pub returns-in-Ok-Newer-clause-same : goal.returns-in-Ok-Newer-clause-same
returns-in-Ok-Newer-clause-same g c =
    let p = subst (λ (o : Offered ParsedText). AnswersOffer (λ (d : Drafted). d.version) c.args.desk.now.pass.knows c.offer.new.pass.knows c.args.desk.now.number c.args.draft o) c.in-Ok-Newer.field-0-is c.in-Ok-Newer.ensures.answered in
    turned_same _ _ _ _ _ p.0.turned

pub returns-in-Ok-Newer-clause-offers : goal.returns-in-Ok-Newer-clause-offers
returns-in-Ok-Newer-clause-offers g c =
    let p = subst (λ (o : Offered ParsedText). AnswersOffer (λ (d : Drafted). d.version) c.args.desk.now.pass.knows c.offer.new.pass.knows c.args.desk.now.number c.args.draft o) c.in-Ok-Newer.field-0-is c.in-Ok-Newer.ensures.answered in
    let o = p.0.turned.offers in omega (arith, o)

pub returns-in-Ok-Newer-clause-serves : goal.returns-in-Ok-Newer-clause-serves
returns-in-Ok-Newer-clause-serves g c = λ client number at edit drafts can.
    let p = subst (λ (o : Offered ParsedText). AnswersOffer (λ (d : Drafted). d.version) c.args.desk.now.pass.knows c.offer.new.pass.knows c.args.desk.now.number c.args.draft o) c.in-Ok-Newer.field-0-is c.in-Ok-Newer.ensures.answered in
    offer_newer client number at edit (standing_at c.args.desk.now) c.offer.new.pass.knows c.args.draft c.in-Ok-Newer.turn c.in-Ok-Newer.number c.in-Ok-Newer.latest
    p.0 p.1 can

pub returns-in-Err-clause-may : goal.returns-in-Err-clause-may
returns-in-Err-clause-may g c = λ table may of_table. may_kept table c.args.shelf.now c.args.desk.now c.offer.new.pass []
    c.offer.ensures.shelf c.offer.ensures.pass (unturned_same _ _ c.in-Err.ensures.no_turn) (none_idle _ _ c.in-Err.ensures.no_turn) may

pub returns-in-Err-clause-same : goal.returns-in-Err-clause-same
returns-in-Err-clause-same g c = unturned_same _ _ c.in-Err.ensures.no_turn

pub returns-in-Err-clause-offers : goal.returns-in-Err-clause-offers
returns-in-Err-clause-offers g c = let o = c.in-Err.ensures.no_turn.offers in omega (arith, o)

pub returns-in-Err-clause-serves : goal.returns-in-Err-clause-serves
returns-in-Err-clause-serves g c = if_memory c.refused.result c.args.desk.now.number
    (λ (r : Reply). (client number document : ℕ) (edit : TextEdit) → Drafts c.args.desk.now.version client number edit c.args.draft → CanEdit c.args.desk.now.version.text edit
    → ServesStep client number (standing_at c.args.desk.now) (step.Edit document edit) r
    (standing_at (record { pass = c.offer.new.pass; number = c.args.desk.now.number; version = c.args.desk.now.version })))
    c.refused.ensures.memory
    (λ client number document edit drafts can. has_no_memory (step.Edit document edit) [] c.offer.new.pass.knows (none_idle _ _ c.in-Err.ensures.no_turn) (omega arith))

pub returns-in-Err-clause-stops : goal.returns-in-Err-clause-stops
returns-in-Err-clause-stops g c = if_spent c.refused.result
    (StopsEarly (standing_at c.args.desk.now) (standing_at (record { pass = c.offer.new.pass; number = c.args.desk.now.number; version = c.args.desk.now.version })))
    (c.in-Err.denied ≡ denied.Spent) c.refused.ensures.spent
    (λ e. stops_at c.args.desk.now.pass.knows c.offer.new.pass.knows c.args.desk.now.number c.args.desk.now.version [] (none_idle _ _ c.in-Err.ensures.no_turn) (omega arith) (c.in-Err.ensures.spent.0 e))
