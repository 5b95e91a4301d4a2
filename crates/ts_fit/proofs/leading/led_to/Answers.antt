use Rattle.std.proofs.Common.{◌∙◌, sym, arith}
use Rattle.ts_fit.proofs.CyclicLemmas.{led_alone, one_item}
use Rattle.ts_fit.proofs.leading.led_to.Goals as goal

pub returns-in-len1 : goal.returns-in-len1
returns-in-len1 c =
    let one = one_item c.as_slice.result.now c.step-item.result (omega (arith, c.in-len1.len_at_least, c.in-len1.len_below)) c.step-item.is in
    led_alone c.args.grammar.now c.args.production.now c.step-item.result c.rule_place.result (sym c.as_slice.ensures ∙ one) c.rule_place.ensures
