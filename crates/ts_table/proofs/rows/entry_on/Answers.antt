use Rattle.std.proofs.Common.{◌≡◌, ℕ, length, subst, arith}
use Rattle.ts_table.specs.Rules.{IsRefusedBy}
use Rattle.ts_table.proofs.RowLemmas.{ends_is}
use Rattle.ts_table.proofs.EntryLemmas.{entry_is}
use Rattle.ts_table.proofs.rows.entry_on.Goals as goal

pub returns-clause-entry : goal.returns-clause-entry
returns-clause-entry c read reach =
    let e : c.len.result ≡ length c.in_ok-actions.actions.items = omega (arith, c.in_ok-actions.actions.ok.0, c.len.ensures) in
    entry_is c.args.grammar.now c.args.items.now c.requires.source.sets c.args.set.now.at read reach c.args.token c.in_ok-cell.cell (c.in_ok-cell.ensures read reach) c.accepts_on.result
    (ends_is c.args.grammar.now c.args.marks.now c.args.items.now c.args.set.now read c.args.token c.accepts_on.result c.requires.source c.requires.ready reach c.accepts_on.ensures) _
    c.in_ok-actions.ensures.members c.in_ok-actions.ensures.once (subst (λ (n : ℕ). IsRefusedBy c.args.grammar.now c.in_ok-cell.cell n c.in_ok-refused.refused) e c.in_ok-refused.ensures)
