use Rattle.std.proofs.Common.{◌∙◌, sym, ap, subst, ℕ, List}
use Rattle.ts_script.specs.declared.plan.ScriptStep.{ScriptStep}
use Rattle.ts_script.specs.declared.plan.ScriptStep.TheVariants as step
use Rattle.ts_replay.specs.Beginnings.{Begins, TellsHeld}
use Rattle.ts_replay.proofs.beginning.begin.Goals as goal

pub returns-in-Edit-clause-begins : goal.returns-in-Edit-clause-begins
returns-in-Edit-clause-begins c =
    subst (λ (s : ScriptStep). Begins c.args.asker.client c.args.asker.number c.args.held.now c.args.number s c.change.result) (sym c.in-Edit.is)
    (c.change.ensures.begins c.in-Edit.document)

pub returns-in-Look-clause-begins : goal.returns-in-Look-clause-begins
returns-in-Look-clause-begins c = (c.in-Look.document, c.in-Look.is)

pub returns-in-Query-clause-begins : goal.returns-in-Query-clause-begins
returns-in-Query-clause-begins c =
    subst (λ (s : ScriptStep). Begins c.args.asker.client c.args.asker.number c.args.held.now c.args.number s c.query.result)
    (ap (λ (numbers : List ℕ). step.Query c.in-Query.document numbers) c.as_slice.ensures ∙ sym c.in-Query.is)
    (c.query.ensures c.args.asker.client c.args.asker.number c.in-Query.document)

pub returns-in-Tree-clause-begins : goal.returns-in-Tree-clause-begins
returns-in-Tree-clause-begins c = subst (λ (s : ScriptStep). TellsHeld c.args.held.now c.args.number s c.tree.result) (sym c.in-Tree.is) (c.tree.ensures c.in-Tree.document)

pub returns-in-Await-clause-begins : goal.returns-in-Await-clause-begins
returns-in-Await-clause-begins c = (c.in-Await.document, c.in-Await.is)
