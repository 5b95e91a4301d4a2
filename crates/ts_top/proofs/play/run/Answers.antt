use Rattle.ts_top.specs.Stops.{schedule_of}
use Rattle.ts_top.proofs.ProgramLemmas.{ready_plays}
use Rattle.ts_top.proofs.play.run.Goals as goal

pub returns-in_ok-played-in-Ok-Ready-clause-answers : goal.returns-in_ok-played-in-Ok-Ready-clause-answers
returns-in_ok-played-in-Ok-Ready-clause-answers g c =
    ready_plays _ _ _ c.args.asked.now.paths.grammar.now c.args.asked.now.paths.script.now (schedule_of c.args.asked.now.schedule) _ _ _ c.in-Ok-Ready.field-0 c.in-Ok-Ready.session _ _
    c.in-Ok-Ready.field-0-is c.in-Ok-Ready.ensures.opened c.in_ok-played-in-Ok-Ready.ensures.status c.in_ok-played-in-Ok-Ready.ensures.bytes
