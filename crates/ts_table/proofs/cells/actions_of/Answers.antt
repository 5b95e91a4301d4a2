use Rattle.ts_table.proofs.ContestLemmas.{actions_made}
use Rattle.ts_table.proofs.cells.actions_of.Goals as goal

pub returns-clause-members : goal.returns-clause-members
returns-clause-members c = actions_made c.args.cell.now c.args.accepts c.new-actions.result.items c.add_shift.new.actions.items c.add_reductions.new.actions.items c.add_accept.new.actions.items c.as_slice.result.now c.new-actions.ensures.items c.in_ok-add_shift.ensures c.as_slice.ensures.value c.in_ok-add_reductions.ensures c.in_ok-add_accept.ensures c.in_order.result.items c.in_order.ensures.members
