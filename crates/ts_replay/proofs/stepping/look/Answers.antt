use Rattle.std.proofs.Common.{◌∙◌, refl, ap}
use Rattle.ts_docs.specs.declared.parsed.ParsedText.{ParsedText}
use Rattle.ts_replay.specs.Steps.{place}
use Rattle.ts_script.specs.declared.plan.ScriptStep.TheVariants as step
use Rattle.ts_replay.proofs.StepLemmas.{looked, no_memory}
use Rattle.ts_replay.proofs.stepping.look.Goals as goal

pub returns-in-Ok : goal.returns-in-Ok
returns-in-Ok c = record {
  does = λ client number at. looked client number (place c.args.document.now.turn c.args.document.now.book c.args.held.now) at
      c.in-Ok.seen.turn c.in-Ok.seen.number c.see.new.document.turn c.see.new.document.book c.in-Ok.seen.latest
      c.in-Ok.ensures.seen.0 c.in-Ok.ensures.seen.1 c.in-Ok.ensures.seen.2 c.see.ensures.turn c.see.ensures.book;
}

pub returns-in-Err : goal.returns-in-Err
returns-in-Err c = record {
  does = λ client number at. no_memory client number (place c.args.document.now.turn c.args.document.now.book c.args.held.now) (step.Look at)
      c.number.result c.see.new.document.turn c.see.new.document.book c.args.held.now
      (c.number.ensures ∙ ap (λ (v : ParsedText). v.number) c.get.ensures) c.see.ensures.turn c.see.ensures.book refl;
}
