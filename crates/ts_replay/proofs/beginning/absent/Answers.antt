use Rattle.std.proofs.Common.{◌∙◌, sym, ap, subst}
use Rattle.ts_core.specs.declared.flat.FlatGrammar.{FlatGrammar}
use Rattle.ts_table.specs.declared.view.ParseTable.{ParseTable}
use Rattle.ts_script.specs.declared.plan.ScriptStep.TheVariants as step
use Rattle.spec_history.specs.Legal.{IsShown}
use Rattle.ts_replay.specs.Beginnings.{has_no_tree, has_no_memory}
use Rattle.ts_replay.proofs.beginning.absent.Goals as goal

pub returns-in-Ok : goal.returns-in-Ok
returns-in-Ok c = λ document queries. has_no_tree document queries c.in-Ok.outcome c.requires.none
    (subst (λ (g : FlatGrammar). IsShown g c.args.held.now.text c.in-Ok.outcome) (c.grammar.ensures ∙ sym (ap (λ (t : ParseTable). t.grammar) c.requires.table)) c.in-Ok.ensures)

pub returns-in-Err : goal.returns-in-Err
returns-in-Err c = λ document queries. has_no_memory (step.Query document queries)
