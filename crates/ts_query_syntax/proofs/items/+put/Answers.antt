use Rattle.std.proofs.Common.{◌∙◌, sym}
use Rattle.std.proofs.lemmas.Result.{IfOk-equal}
use Rattle.ts_query_names.specs.Given.{names_told}
use Rattle.ts_query_syntax.proofs.PieceLemmas.{put_spliced, put_one, after_more}
use Rattle.ts_query_syntax.proofs.items.+put.Goals as goal

pub put-returns-then-is_spliced : goal.put-returns-then-is_spliced
put-returns-then-is_spliced t c =
    IfOk-equal _ _ _ _ c.put_all.ensures
    (put_spliced (names_told c.args.numbers.now) _ _ _ _ _ _ _ c.args.level.now c.in-Item.is (sym c.is_spliced.ensures ∙ c.if-is_spliced.true) c.as_slice.ensures)

pub put-returns-in_ok-item-in-Item : goal.put-returns-in_ok-item-in-Item
put-returns-in_ok-item-in-Item t c =
    IfOk-equal _ _ _ _ c.add.ensures
    (put_one (names_told c.args.numbers.now) _ _ _ _ _ _ _ _ c.args.level.now _ _ c.in-Item.is (sym c.is_spliced.ensures ∙ c.if-is_spliced.false) c.as_slice-in-Item.ensures c.as_slice-in-Item-2.ensures c.in_ok-inner-in-Item.ensures c.in_ok-item-in-Item.ensures)

pub put_all-loop-part-preserved : goal.put_all-loop-part-preserved
put_all-loop-part-preserved t c =
    after_more (names_told c.args.numbers.now) c.args.parts.now c.loop-part.part-index c.part-item.result _ _ _ c.loop-part-test.true c.part-item.is c.loop-part.invariant c.in_ok-put.ensures
