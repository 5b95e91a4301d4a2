use Rattle.std.proofs.Common.{refl}
use Rattle.ts_script.specs.declared.plan.ScriptStep.TheVariants as step
use Rattle.ts_client.specs.Steps.{standing_at}
use Rattle.ts_client.proofs.AskLemmas.{found_there, nothing_found}
use Rattle.ts_client.proofs.asking.found.Goals as goal

pub returns-in-Ok-clause-serves : goal.returns-in-Ok-clause-serves
returns-in-Ok-clause-serves g c = λ client number at. found_there client number (standing_at c.args.desk.now) at c.args.queries.now c.args.desk.now.version c.in-Ok.results refl
    (c.args.root.now, c.requires.fresh) c.in-Ok.ensures.finds

pub returns-in-Err-clause-serves : goal.returns-in-Err-clause-serves
returns-in-Err-clause-serves g c = λ client number at. nothing_found client number (standing_at c.args.desk.now) (step.Query at c.args.queries.now)
