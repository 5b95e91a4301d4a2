use Rattle.ts_automata.proofs.BoundLemmas.{has_one, pushed_keeps, pushed_has}
use Rattle.ts_automata.proofs.classes.push_bound.Goals as goal

pub returns : goal.returns
returns c = has_one c.args.range _ _ _ c.in_ok-push.ensures.items (pushed_keeps _ _ _ c.in_ok-push-2.ensures.items) (λ lt. pushed_has _ _ _ c.in_ok-push-2.ensures.items)
