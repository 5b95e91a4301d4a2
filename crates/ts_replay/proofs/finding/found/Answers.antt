use Rattle.std.proofs.Common.{◌∙◌, ap}
use Rattle.ts_docs.specs.declared.parsed.ParsedText.{ParsedText}
use Rattle.ts_script.specs.declared.plan.ScriptStep.TheVariants as step
use Rattle.ts_replay.proofs.StepLemmas.{found_there, nothing_found}
use Rattle.ts_replay.proofs.finding.found.Goals as goal

pub returns-in-Ok-clause-does : goal.returns-in-Ok-clause-does
returns-in-Ok-clause-does g c = λ client number at before is. found_there client number before at c.number-version.result c.args.queries.now c.args.held.now c.in-Ok.results is
    (c.number-version.ensures ∙ ap (λ (v : ParsedText). v.number) c.get.ensures) (c.args.root.now, c.requires.fresh) c.in-Ok.ensures.finds

pub returns-in-Err-clause-does : goal.returns-in-Err-clause-does
returns-in-Err-clause-does g c = λ client number at before is. nothing_found client number before (step.Query at c.args.queries.now) c.number-version.result c.args.held.now is
    (c.number-version.ensures ∙ ap (λ (v : ParsedText). v.number) c.get.ensures)
