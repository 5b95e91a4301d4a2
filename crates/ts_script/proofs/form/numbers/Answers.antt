use Rattle.std.proofs.Common.{◌≡◌, ◌∙◌, ℕ, length, rules}
use Rattle.std.proofs.lemmas.Iterator.Adapters.{YieldsList-from_vec}
use Rattle.std.proofs.lemmas.Iterator.Consumers.{YieldsList-turn}
use Rattle.std.specs.Vec.Iter.{into_iter_len}
use Rattle.ts_script.specs.Said.{IsNumber, whole}
use Rattle.ts_script.proofs.SaidLemmas.{at_place}
use Rattle.ts_script.proofs.form.numbers.Goals as goal

pub returns-in-None-small : goal.returns-in-None-small
returns-in-None-small c =
    let len : into_iter_len c.into_iter-value-iterator.result ≡ length c.args.values.items = search rules in
    let road = YieldsList-from_vec c.args.values.items c.into_iter-value-iterator.ensures.into_iter_gives.0 len in
    let turn = YieldsList-turn road c.loop-value.yielded c.loop-value.value-iterator c.loop-value.yielded_by c.next.result c.next.new.self c.in-Some.value c.in-Some.is c.next.ensures.steps in
    λ xs h.
    let found = at_place IsNumber whole c.args.values.items (length c.loop-value.yielded) c.in-Some.value turn.0 turn.1 xs h.0 h.1 in
    c.in-None-small.ensures found.0 found.1 found.2
