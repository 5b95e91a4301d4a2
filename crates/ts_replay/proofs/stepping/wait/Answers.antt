use Rattle.std.proofs.Common.{◌∙◌, refl, ap}
use Rattle.ts_docs.specs.declared.parsed.ParsedText.{ParsedText}
use Rattle.ts_replay.specs.Steps.{place}
use Rattle.ts_script.specs.declared.plan.ScriptStep.TheVariants as step
use Rattle.ts_replay.proofs.StepLemmas.{waited, gave_up, no_memory}
use Rattle.ts_replay.proofs.stepping.wait.Goals as goal

pub returns-then-wanted-version : goal.returns-then-wanted-version
returns-then-wanted-version c = record {
  does = λ client number at. waited client number (place c.args.document.now.turn c.args.document.now.book c.args.held.now) at c.args.wanted
      c.in-Ok.seen.turn c.in-Ok.seen.number c.see.new.document.turn c.see.new.document.book c.in-Ok.seen.latest
      c.in-Ok.ensures.seen.0 c.in-Ok.ensures.seen.1 c.in-Ok.ensures.seen.2 c.see.ensures.turn c.see.ensures.book c.if-wanted-version.true;
}

pub returns-else-wanted-version : goal.returns-else-wanted-version
returns-else-wanted-version c = record {
  does = λ client number at. gave_up client number (place c.args.document.now.turn c.args.document.now.book c.args.held.now) at c.args.wanted
      c.in-Ok.seen.number c.see.new.document.turn c.see.new.document.book c.in-Ok.seen.latest
      c.in-Ok.ensures.seen.1 c.in-Ok.ensures.seen.2 c.see.ensures.turn c.see.ensures.book c.if-wanted-version.false;
}

pub returns-in-Err : goal.returns-in-Err
returns-in-Err c = record {
  does = λ client number at. no_memory client number (place c.args.document.now.turn c.args.document.now.book c.args.held.now) (step.Await at c.args.wanted)
      c.number.result c.see.new.document.turn c.see.new.document.book c.args.held.now
      (c.number.ensures ∙ ap (λ (v : ParsedText). v.number) c.get.ensures) c.see.ensures.turn c.see.ensures.book refl;
}
