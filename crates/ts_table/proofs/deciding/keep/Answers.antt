use Rattle.std.proofs.lemmas.Result.{IfOk-weaker}
use Rattle.ts_table.proofs.DecidingLemmas.{stays_iff}
use Rattle.ts_table.proofs.deciding.keep.Goals as goal

pub returns : goal.returns
returns c = IfOk-weaker c.all_if_empty.result _ _ (λ v h. stays_iff c.args.grammar.now c.args.reductions.now c.in_ok-kept.kept.items v.items c.in_ok-kept.ensures h.0 h.1) c.all_if_empty.ensures
