use Rattle.std.proofs.lemmas.Result.{IfOk-weaker}
use Rattle.ts_automata.proofs.closing.set_of.Goals as goal

pub returns : goal.returns
returns c =
    IfOk-weaker c.in_order.result _ _ (λ v h i. ((λ w. (c.in_ok-found.ensures i).0 ((h i).0 w)), (λ w. (h i).1 ((c.in_ok-found.ensures i).1 w)))) c.in_order.ensures
