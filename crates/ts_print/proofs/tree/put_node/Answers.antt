use Rattle.std.proofs.Common.{ℕ, ap}
use Rattle.std.proofs.lemmas.Result.{on_ok_weaker}
use Rattle.ts_print.proofs.WrittenLemmas.{token_added, joined, number_is}
use Rattle.ts_print.proofs.tree.put_node.Goals as goal

pub returns-clause-node : goal.returns-clause-node
returns-clause-node c = on_ok_weaker c.end_array.result (λ e.
    joined _ _ _ _ _ (token_added _ _ _ c.in_ok-begin_array.ensures)
    (joined _ _ _ _ _ c.in_ok-put_number.ensures
    (joined _ _ _ _ _ (token_added _ _ _ c.in_ok-string.ensures)
    (joined _ _ _ _ _ (token_added _ _ _ c.in_ok-boolean.ensures)
    (joined _ _ _ _ _ c.in_ok-put_fields.ensures
    (joined _ _ _ _ _ c.in_ok-put_number-2.ensures
    (joined _ _ _ _ _ c.in_ok-put_number-3.ensures
    (joined _ _ _ _ _ (number_is _ _ _ _ (ap (λ (p : ℕ × ℕ). p.0) c.at-row.ensures.point) c.in_ok-put_number-4.ensures)
    (joined _ _ _ _ _ (number_is _ _ _ _ (ap (λ (p : ℕ × ℕ). p.1) c.at-row.ensures.point) c.in_ok-put_number-5.ensures)
    (record { tokens = e; before = c.end_array.ensures.room.0 })))))))))) c.end_array.ensures.ok
