use Rattle.std.proofs.Common.{◌∙◌, sym, ap, subst}
use Rattle.ts_core.specs.declared.flat.FlatGrammar.{FlatGrammar}
use Rattle.ts_table.specs.declared.view.ParseTable.{ParseTable}
use Rattle.ts_script.specs.declared.plan.ScriptStep.TheVariants as step
use Rattle.spec_history.specs.Legal.{IsShown}
use Rattle.ts_replay.specs.Beginnings.{shows, has_no_memory}
use Rattle.ts_replay.proofs.beginning.tree.Goals as goal

pub returns-in-Ok : goal.returns-in-Ok
returns-in-Ok c = λ document. shows document c.in-Ok.outcome
    (subst (λ (g : FlatGrammar). IsShown g c.args.held.now.text c.in-Ok.outcome) (c.grammar.ensures ∙ sym (ap (λ (t : ParseTable). t.grammar) c.requires)) c.in-Ok.ensures)

pub returns-in-Err : goal.returns-in-Err
returns-in-Err c = λ document. has_no_memory (step.Tree document)
