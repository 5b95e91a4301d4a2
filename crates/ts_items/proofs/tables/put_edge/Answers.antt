use Rattle.std.proofs.Common.{◌≡◌, ◌<◌, length, refl, arith}
use Rattle.std.proofs.lemmas.Grind.{common_steps}
use Rattle.std.proofs.lemmas.Bool.Decides.{nat_tests}
use Rattle.std.proofs.lemmas.Result.{on_ok_weaker}
use Rattle.ts_items.proofs.EdgeLemmas.{ask_empty, ask_puts}
use Rattle.ts_items.proofs.tables.put_edge.Goals as goal

pub returns-then-is_empty : goal.returns-then-is_empty
returns-then-is_empty c =
    let empty : length c.as_slice-right.result.now ≡ 0 = grind (arith, nat_tests, common_steps, c.if-is_empty.ensures) in
    ask_empty c.args.production.now c.as_slice-right.result.now c.args.edges.now c.as_slice-right.ensures.value empty

pub returns : goal.returns
returns c =
    let some : 0 < length c.as_slice-right.result.now = grind (arith, nat_tests, common_steps, c.if-is_empty.ensures) in
    on_ok_weaker c.put.result (ask_puts c.args.production.now c.as_slice-right.result.now c.from.result _ c.args.edges.now c.put.new.rows c.as_slice-right.ensures.value some c.from.ensures refl c.second.ensures) c.put.ensures
