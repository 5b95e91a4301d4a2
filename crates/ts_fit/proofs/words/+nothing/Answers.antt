use Rattle.std.proofs.Common.{◌≡◌, ◌∙◌, ap, sym, true, false}
use Rattle.ts_core.specs.declared.re.Re.{Re}
use Rattle.ts_core.specs.declared.re.Re.TheVariants.{Repeat}
use Rattle.ts_fit.proofs.NothingLemmas.{tested_repeat, one_unmatched, one_matched}
use Rattle.ts_fit.proofs.words.+nothing.Goals as goal

pub all_match_nothing-returns-then-not-matches_nothing :
    goal.all_match_nothing-returns-then-not-matches_nothing
all_match_nothing-returns-then-not-matches_nothing t c =
    let wrong : c.matches_nothing.result ≡ false = cc in
    one_unmatched c.args.parts.now c.loop-part.part-index c.part-item.result c.matches_nothing.result c.loop-part-test.true c.part-item.is wrong c.matches_nothing.ensures c.loop-part.invariant

pub all_match_nothing-loop-part-preserved : goal.all_match_nothing-loop-part-preserved
all_match_nothing-loop-part-preserved t c =
    let right : c.matches_nothing.result ≡ true = cc in
    one_matched c.args.parts.now c.loop-part.part-index c.part-item.result c.matches_nothing.result c.loop-part-test.true c.part-item.is right c.matches_nothing.ensures c.loop-part.invariant

pub matches_nothing-returns-else-least-eq0 : goal.matches_nothing-returns-else-least-eq0
matches_nothing-returns-else-least-eq0 t c =
    tested_repeat c.args.re.now c.get.result.now c.in-Repeat.least c.in-Repeat.most c.matches_nothing-inner.result (c.in-Repeat.is ∙ ap (λ (x : Re). Repeat x c.in-Repeat.least c.in-Repeat.most) (sym c.get.ensures)) (c.is_open.ensures.0 c.if-is_open.true) c.if-least-eq0.false c.matches_nothing-inner.ensures
