use Rattle.std.proofs.Common.{◌<◌, length, arith}
use Rattle.ts_items.proofs.ListLemmas.{read_at}
use Rattle.ts_items.proofs.PartLemmas.{grows_both, begun_more}
use Rattle.ts_items.proofs.closing.add_begun.Goals as goal

pub loop-symbol-preserved : goal.loop-symbol-preserved
loop-symbol-preserved c =
    let k = c.loop-symbol.symbol in
    let below : k < length c.args.asked.now = omega (arith, c.loop-symbol-test.true) in
    let set = read_at c.args.asked.now k c.index-asked-symbol.result below c.index-asked-symbol.is in
    let row = read_at c.args.lines.now k c.index-lines-symbol.result (omega (arith, below, c.requires.lines)) c.index-lines-symbol.is in
    record {
      grows = grows_both c.args.pool.now.keys c.loop-symbol.pool.keys c.add_symbol.new.pool.keys c.loop-symbol.invariant.grows c.in_ok-add_symbol.ensures.grows;
      pool = λ n p w. c.in_ok-add_symbol.ensures.pool n (c.loop-symbol.invariant.pool n p w) (w k c.index-asked-symbol.result set);
      begun = begun_more c.args.lines.now c.args.asked.now c.loop-symbol.pool.keys c.add_symbol.new.pool.keys k c.index-lines-symbol.result c.as_slice.result.now c.index-asked-symbol.result c.args.parts.now.items c.loop-symbol.parts.items c.add_symbol.new.parts.items row c.as_slice.ensures.value set
          c.in_ok-add_symbol.ensures.grows c.loop-symbol.invariant.begun c.in_ok-add_symbol.ensures.adds;
    }
