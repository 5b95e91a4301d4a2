use Rattle.std.proofs.Common.{◌∙◌, refl, ap, subst}
use Rattle.ts_docs.specs.declared.parsed.ParsedText.{ParsedText}
use Rattle.ts_docs.specs.declared.stepping.Event.TheVariants as event
use Rattle.ts_docs.specs.declared.stepping.Told.{Told}
use Rattle.ts_docs.specs.declared.stepping.Told.TheVariants as told
use Rattle.ts_docs.specs.Steps.{IsBookTurn}
use Rattle.ts_replay.specs.Steps.{place}
use Rattle.ts_script.specs.declared.plan.ScriptStep.TheVariants as step
use Rattle.ts_replay.proofs.StepLemmas.{published, overtaken, no_memory}
use Rattle.ts_replay.proofs.stepping.offer.Goals as goal

pub returns-in-Ok-Offered-Published : goal.returns-in-Ok-Offered-Published
returns-in-Ok-Offered-Published c = record {
  does = λ client number at edit drafts can.
      let turned = subst (λ (t : Told). IsBookTurn c.args.document.now.turn c.args.document.now.book (event.Offer c.number-base.result c.args.draft) t c.step.new.book)
      (c.in-Ok-Offered-Published.field-0-is ∙ ap told.Offered c.in-Ok-Offered-Published.field-0-0-is) c.in-Ok-Offered-Published.ensures.step in
      published client number (place c.args.document.now.turn c.args.document.now.book c.args.held.now) at
      c.number-base.result c.in-Ok-Offered-Published.turn c.in-Ok-Offered-Published.number edit c.args.draft c.step.new.book c.args.made
      (c.number-base.ensures ∙ ap (λ (v : ParsedText). v.number) c.get.ensures) c.requires.made turned drafts can;
}

pub returns-in-Ok-Offered-Newer : goal.returns-in-Ok-Offered-Newer
returns-in-Ok-Offered-Newer c = record {
  does = λ client number at edit drafts can.
      let turned = subst (λ (t : Told). IsBookTurn c.args.document.now.turn c.args.document.now.book (event.Offer c.number-base.result c.args.draft) t c.step.new.book)
      (c.in-Ok-Offered-Newer.field-0-is ∙ ap told.Offered c.in-Ok-Offered-Newer.field-0-0-is) c.in-Ok-Offered-Newer.ensures.step in
      overtaken client number (place c.args.document.now.turn c.args.document.now.book c.args.held.now) at
      c.number-base.result c.in-Ok-Offered-Newer.turn c.in-Ok-Offered-Newer.number edit c.args.draft c.step.new.book c.in-Ok-Offered-Newer.latest
      (c.number-base.ensures ∙ ap (λ (v : ParsedText). v.number) c.get.ensures) turned can;
}

pub returns-in-Err : goal.returns-in-Err
returns-in-Err c = record {
  does = λ client number at edit drafts can. no_memory client number (place c.args.document.now.turn c.args.document.now.book c.args.held.now) (step.Edit at edit)
      c.number-base.result c.args.document.now.turn c.step.new.book c.args.held.now
      (c.number-base.ensures ∙ ap (λ (v : ParsedText). v.number) c.get.ensures) refl c.in-Err.ensures.err refl;
}
