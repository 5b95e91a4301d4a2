use Rattle.std.proofs.Common.{◌≡◌, ℕ, [], arith}
use Rattle.ts_script.specs.declared.plan.ScriptStep.TheVariants as step
use Rattle.ts_replies.specs.declared.reply.Reply.{Reply}
use Rattle.ts_shelf.specs.declared.shelf.Denied.TheVariants as denied
use Rattle.ts_client.specs.Steps.{standing_at, ServesStep, StopsEarly, looks, has_no_memory}
use Rattle.ts_client.proofs.LookLemmas.{looked_once, none_idle, turned_same, unturned_same}
use Rattle.ts_client.proofs.DeskLemmas.{may_shown, may_kept, if_memory, if_spent, stops_at}
use Rattle.ts_client.proofs.serving.look.Goals as goal

pub returns-in-Ok-clause-may : goal.returns-in-Ok-clause-may
returns-in-Ok-clause-may g c = λ table may. may_shown table c.args.shelf.now c.args.desk.now c.look.new.pass c.in-Ok.seen.number c.in-Ok.seen.latest
    c.look.ensures.shelf c.look.ensures.pass (turned_same _ _ _ _ _ c.in-Ok.ensures.looked.turned) c.in-Ok.ensures.looked.number_is c.in-Ok.ensures.latest may

pub returns-in-Ok-clause-same : goal.returns-in-Ok-clause-same
returns-in-Ok-clause-same g c = turned_same _ _ _ _ _ c.in-Ok.ensures.looked.turned

pub returns-in-Ok-clause-offers : goal.returns-in-Ok-clause-offers
returns-in-Ok-clause-offers g c = let o = c.in-Ok.ensures.looked.turned.offers in omega (arith, o)

pub returns-in-Ok-clause-serves : goal.returns-in-Ok-clause-serves
returns-in-Ok-clause-serves g c = λ client number document. looks document c.look.new.pass.knows c.in-Ok.seen.turn c.in-Ok.seen.number c.in-Ok.seen.latest
    (looked_once _ _ _ _ c.in-Ok.ensures.looked) c.in-Ok.ensures.latest

pub returns-in-Err-clause-may : goal.returns-in-Err-clause-may
returns-in-Err-clause-may g c = λ table may. may_kept table c.args.shelf.now c.args.desk.now c.look.new.pass []
    c.look.ensures.shelf c.look.ensures.pass (unturned_same _ _ c.in-Err.ensures.no_turn) (none_idle _ _ c.in-Err.ensures.no_turn) may

pub returns-in-Err-clause-same : goal.returns-in-Err-clause-same
returns-in-Err-clause-same g c = unturned_same _ _ c.in-Err.ensures.no_turn

pub returns-in-Err-clause-offers : goal.returns-in-Err-clause-offers
returns-in-Err-clause-offers g c = c.in-Err.ensures.no_turn.offers

pub returns-in-Err-clause-serves : goal.returns-in-Err-clause-serves
returns-in-Err-clause-serves g c = if_memory c.refused.result c.args.desk.now.number
    (λ (r : Reply). (client number document : ℕ) → ServesStep client number (standing_at c.args.desk.now) (step.Look document) r
    (standing_at (record { pass = c.look.new.pass; number = c.args.desk.now.number; version = c.args.desk.now.version })))
    c.refused.ensures.memory
    (λ client number document. has_no_memory (step.Look document) [] c.look.new.pass.knows (none_idle _ _ c.in-Err.ensures.no_turn) (omega arith))

pub returns-in-Err-clause-stops : goal.returns-in-Err-clause-stops
returns-in-Err-clause-stops g c = if_spent c.refused.result
    (StopsEarly (standing_at c.args.desk.now) (standing_at (record { pass = c.look.new.pass; number = c.args.desk.now.number; version = c.args.desk.now.version })))
    (c.in-Err.denied ≡ denied.Spent) c.refused.ensures.spent
    (λ e. stops_at c.args.desk.now.pass.knows c.look.new.pass.knows c.args.desk.now.number c.args.desk.now.version [] (none_idle _ _ c.in-Err.ensures.no_turn) (omega arith) (c.in-Err.ensures.spent.0 e))
