use Rattle.std.proofs.Common.{List, IsTrue, not, ◌↔◌, subst}
use Rattle.std.specs.List.{Contains}
use Rattle.ts_core.specs.declared.action.Action.{Action}
use Rattle.ts_lexer.proofs.StateLemmas.{acts_is}
use Rattle.ts_lexer.proofs.states.acts.Goals as goal

pub returns : goal.returns
returns c =
    subst (λ (xs : List Action). IsTrue (not c.is_empty.result) ↔ ((a : Action) × Contains xs a)) c.actions.ensures.list (acts_is c.actions.result.now c.is_empty.result c.is_empty.ensures)
