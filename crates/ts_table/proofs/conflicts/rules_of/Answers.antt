use Rattle.ts_table.proofs.ContestLemmas.{owners_made, rules_both}
use Rattle.ts_table.proofs.conflicts.rules_of.Goals as goal

pub returns : goal.returns
returns c = rules_both c.args.grammar.now c.args.cell.now c.add_owners-2.new.rules.items c.rising.result.items
    (owners_made c.args.grammar.now c.args.cell.now c.new-rules.result.items c.add_owners.new.rules.items c.add_owners-2.new.rules.items c.as_slice.result.now c.as_slice-2.result.now c.new-rules.ensures.items c.as_slice.ensures.value c.in_ok-add_owners.ensures c.as_slice-2.ensures.value c.in_ok-add_owners-2.ensures)
    c.rising.ensures
