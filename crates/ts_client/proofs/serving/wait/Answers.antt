use Rattle.std.proofs.Common.{◌≡◌, ℕ}
use Rattle.ts_script.specs.declared.plan.ScriptStep.TheVariants as step
use Rattle.ts_replies.specs.declared.reply.Reply.{Reply}
use Rattle.ts_shelf.specs.declared.shelf.Denied.TheVariants as denied
use Rattle.ts_client.specs.Steps.{standing_at, ServesStep, StopsEarly, has_no_memory}
use Rattle.ts_client.proofs.DeskLemmas.{may_shown, may_kept, if_memory, if_spent, stops_at, watch_told}
use Rattle.ts_client.proofs.serving.wait.Goals as goal

pub returns-in-Ok-clause-may : goal.returns-in-Ok-clause-may
returns-in-Ok-clause-may g c = λ table may. may_shown table c.args.shelf.now c.args.desk.now c.watch.new.pass c.in-Ok.seen.number c.in-Ok.seen.latest
    c.watch.ensures.shelf c.watch.ensures.pass c.watch.ensures.same c.in-Ok.ensures.saw.saw.looks.number_is c.in-Ok.ensures.saw.saw.latest may

pub returns-in-Ok-clause-serves : goal.returns-in-Ok-clause-serves
returns-in-Ok-clause-serves g c = λ client number at. watch_told client number at c.args.wanted (standing_at c.args.desk.now) c.watch.new.pass.knows c.in-Ok.seen c.told.result
    c.in-Ok.ensures.saw c.told.ensures.came c.told.ensures.late

pub returns-in-Err-clause-may : goal.returns-in-Err-clause-may
returns-in-Err-clause-may g c = λ table may. may_kept table c.args.shelf.now c.args.desk.now c.watch.new.pass c.in-Err.ensures.refused.turns
    c.watch.ensures.shelf c.watch.ensures.pass c.watch.ensures.same c.in-Err.ensures.refused.idle may

pub returns-in-Err-clause-serves : goal.returns-in-Err-clause-serves
returns-in-Err-clause-serves g c = if_memory c.refused.result c.args.desk.now.number
    (λ (r : Reply). (client number document : ℕ) → ServesStep client number (standing_at c.args.desk.now) (step.Await document c.args.wanted) r
    (standing_at (record { pass = c.watch.new.pass; number = c.args.desk.now.number; version = c.args.desk.now.version })))
    c.refused.ensures.memory
    (λ client number document. has_no_memory (step.Await document c.args.wanted) c.in-Err.ensures.refused.turns c.watch.new.pass.knows c.in-Err.ensures.refused.idle c.in-Err.ensures.refused.few)

pub returns-in-Err-clause-stops : goal.returns-in-Err-clause-stops
returns-in-Err-clause-stops g c = if_spent c.refused.result
    (StopsEarly (standing_at c.args.desk.now) (standing_at (record { pass = c.watch.new.pass; number = c.args.desk.now.number; version = c.args.desk.now.version })))
    (c.in-Err.denied ≡ denied.Spent) c.refused.ensures.spent
    (λ e. stops_at c.args.desk.now.pass.knows c.watch.new.pass.knows c.args.desk.now.number c.args.desk.now.version c.in-Err.ensures.refused.turns c.in-Err.ensures.refused.idle c.in-Err.ensures.refused.few (c.in-Err.ensures.refused.over e))
