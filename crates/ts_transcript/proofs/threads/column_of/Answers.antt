use Rattle.std.proofs.Common.{ℕ, ◌+◌, List, sym, subst}
use Rattle.std.specs.Global.{Vec}
use Rattle.ts_transcript.specs.Columns.{column_count, dealt_to, HasRows}
use Rattle.ts_transcript.proofs.ColumnLemmas.{no_row, next_row, all_rows}
use Rattle.ts_transcript.proofs.threads.column_of.Goals as goal

pub loop-place-init : goal.loop-place-init
loop-place-init c =
    let grammar = c.args.grammar.now in
    let lines = c.args.lines.now in
    let column = c.args.column in
    subst (λ (place : ℕ). HasRows grammar lines column place c.new-pieces.result.items) (sym c.dealt-place.ensures)
    (subst (λ (pieces : List (Vec ℕ)). HasRows grammar lines column (dealt_to column) pieces) (sym c.new-pieces.ensures.items) (no_row grammar lines column))

pub loop-place-preserved : goal.loop-place-preserved
loop-place-preserved c =
    let place = c.loop-place.place in
    subst (λ (pieces : List (Vec ℕ)). HasRows c.args.grammar.now c.args.lines.now c.args.column (place + column_count) pieces) (sym c.in_ok-push.ensures.items)
    (next_row c.args.grammar.now c.args.lines.now c.args.column place c.loop-place.pieces.items c.in_ok-bytes.bytes c.index-lines-place.result c.loop-place-test.true c.index-lines-place.is c.in_ok-bytes.ensures c.loop-place.invariant)

pub returns : goal.returns
returns c = all_rows c.args.grammar.now c.args.lines.now c.args.column c.loop-place.place c.loop-place.pieces.items c.loop-place-test.false c.loop-place.invariant
