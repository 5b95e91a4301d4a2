use Rattle.ts_search.proofs.PassLemmas.{before_of}
use Rattle.ts_search.proofs.TakeLemmas.{adds_led}
use Rattle.ts_search.proofs.products.led.Goals as goal

pub returns-then-has_only_empty : goal.returns-then-has_only_empty
returns-then-has_only_empty c = adds_led c.args.backs.items _ c.args.front ((rw c.as_slice.ensures.value at c.has_only_empty.ensures) c.if-has_only_empty.true) (rw c.clear.ensures.items at c.in_ok-push.ensures.items)

pub returns : goal.returns
returns c = before_of _ _ _ _ _ _ c.as_slice-3.ensures.value c.as_slice-2.ensures c.new-all.ensures.items c.in_ok-add_front.ensures
