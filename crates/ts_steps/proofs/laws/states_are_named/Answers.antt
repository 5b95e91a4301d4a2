use Rattle.ts_steps.proofs.TableLemmas.{names, state_after}
use Rattle.ts_steps.proofs.laws.states_are_named.Goals as goal

pub returns-clause-names : goal.returns-clause-names
returns-clause-names c t table = names t table

pub returns-clause-after : goal.returns-clause-after
returns-clause-after c t states read state table are st = state_after t states read state table are st
