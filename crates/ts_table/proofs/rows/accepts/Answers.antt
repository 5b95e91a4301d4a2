use Rattle.std.proofs.Common.{◌≡◌, false, rules}
use Rattle.std.proofs.lemmas.List.{take_all}
use Rattle.ts_table.specs.Rows.{IsAcceptPart}
use Rattle.ts_table.proofs.ListLemmas.{none_more, end_none}
use Rattle.ts_table.proofs.rows.accepts.Goals as goal

pub loop-part-preserved : goal.loop-part-preserved
loop-part-preserved c =
    let test : c.is_accepting.result ≡ false = search (rules, c.if-is_accepting.false) in
    none_more (IsAcceptPart c.args.pool.now.keys) c.args.parts.now c.loop-part.part-index _ c.is_accepting.result c.loop-part-test.true test c.is_accepting.ensures c.loop-part.invariant

pub returns : goal.returns
returns c = end_none (IsAcceptPart c.args.pool.now.keys) c.args.parts.now c.loop-part.part-index (take_all _ _ c.loop-part-test.false) c.loop-part.invariant
