use Rattle.std.proofs.Common.{◌≡◌, true, arith}
use Rattle.ts_places.proofs.OrderLemmas.{first_kept, better_kept}
use Rattle.ts_places.proofs.choosing.goes_before.Goals as goal

pub returns-in-None-clause-yes : goal.returns-in-None-clause-yes
returns-in-None-clause-yes c t = first_kept c.tree_laws_hold.ensures c.args.best.now c.args.node.now c.in-None.is

pub returns-in-Some-clause-yes : goal.returns-in-Some-clause-yes
returns-in-Some-clause-yes c t =
    let is : c.better.result ≡ true = t in
    better_kept c.tree_laws_hold.ensures c.args.best.now c.in-Some.old c.args.node.now c.in-Some.is (c.better.ensures.0 (grind arith))
