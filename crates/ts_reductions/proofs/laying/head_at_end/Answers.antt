use Rattle.std.proofs.Common.{sym, arith}
use Rattle.std.proofs.lemmas.List.{get_or_past}
use Rattle.ts_reductions.proofs.laying.head_at_end.Goals as goal

pub returns-else-count-under : goal.returns-else-count-under
returns-else-count-under c =
    let h = c.if-count-under.false in
    sym (get_or_past c.args.under.now c.args.count c.args.last (omega (arith, h)))
