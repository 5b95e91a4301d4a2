use Rattle.std.proofs.lemmas.Option.{MatchOption-at_some}
use Rattle.ts_top.specs.Stops.{schedule_of}
use Rattle.ts_top.proofs.ProgramLemmas.{played_ok, play_stopped}
use Rattle.ts_top.proofs.play.play.Goals as goal

pub returns-in-Ok-Some-clause-answers : goal.returns-in-Ok-Some-clause-answers
returns-in-Ok-Some-clause-answers g c =
    played_ok _ _ c.run.result _ _ c.in-Ok-Some.asked.paths.grammar.now c.in-Ok-Some.asked.paths.script.now (schedule_of c.in-Ok-Some.asked.schedule) _ _ _
    (MatchOption-at_some _ _ c.in-Ok-Some.asked c.in-Ok-Some.field-0-is c.in-Ok-Some.ensures) c.run.ensures.judged c.run.ensures.answers

pub returns-in-Ok-Some-clause-stop : goal.returns-in-Ok-Some-clause-stop
returns-in-Ok-Some-clause-stop g c =
    play_stopped c.run.result _ _ c.in-Ok-Some.asked.paths.grammar.now c.in-Ok-Some.asked.paths.script.now (schedule_of c.in-Ok-Some.asked.schedule) _
    (MatchOption-at_some _ _ c.in-Ok-Some.asked c.in-Ok-Some.field-0-is c.in-Ok-Some.ensures) c.run.ensures.stop

pub returns-in-Ok-Some-clause-unread : goal.returns-in-Ok-Some-clause-unread
returns-in-Ok-Some-clause-unread g c = λ usage.
    absurd (usage.no_session c.in-Ok-Some.asked.paths.grammar.now c.in-Ok-Some.asked.paths.script.now (schedule_of c.in-Ok-Some.asked.schedule) (MatchOption-at_some _ _ c.in-Ok-Some.asked c.in-Ok-Some.field-0-is c.in-Ok-Some.ensures))

pub returns-in-Ok-Some-clause-unasked : goal.returns-in-Ok-Some-clause-unasked
returns-in-Ok-Some-clause-unasked g c = λ unasked.
    absurd (unasked c.in-Ok-Some.asked.paths.grammar.now c.in-Ok-Some.asked.paths.script.now (schedule_of c.in-Ok-Some.asked.schedule) (MatchOption-at_some _ _ c.in-Ok-Some.asked c.in-Ok-Some.field-0-is c.in-Ok-Some.ensures))
