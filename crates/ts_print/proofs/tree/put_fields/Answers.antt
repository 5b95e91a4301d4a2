use Rattle.std.proofs.Common.{arith}
use Rattle.std.proofs.lemmas.Result.{on_ok_weaker}
use Rattle.ts_print.proofs.WrittenLemmas.{token_added, joined, name_step, names_end}
use Rattle.ts_print.proofs.tree.put_fields.Goals as goal

pub loop-field-preserved : goal.loop-field-preserved
loop-field-preserved c = λ end rest.
    c.loop-field.invariant end
    (name_step c.args.grammar.now c.args.fields.now c.loop-field.field-index c.name_of_field.result.now _ _ end
    (omega (arith, c.loop-field-test.true)) c.name_of_field.ensures (token_added _ _ _ c.in_ok-string.ensures) rest)

pub returns : goal.returns
returns c = on_ok_weaker c.end_array.result (λ e.
    joined _ _ _ _ _ (token_added _ _ _ c.in_ok-begin_array.ensures)
    (c.loop-field.invariant _
    (names_end c.args.grammar.now c.args.fields.now c.loop-field.field-index _ _ (omega arith)
    (record { tokens = e; before = c.end_array.ensures.room.0 })))) c.end_array.ensures.ok
