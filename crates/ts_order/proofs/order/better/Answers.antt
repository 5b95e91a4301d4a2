use Rattle.std.proofs.Common.{◌≡◌, ◌↔◌, IsTrue, arith}
use Rattle.std.specs.declared.cmp.Ordering.TheVariants.{Less}
use Rattle.spec_trees.specs.Trees.{total_of}
use Rattle.spec_trees.specs.Choice.{Better}
use Rattle.ts_order.proofs.CodeLemmas.{at_one_total}
use Rattle.ts_order.proofs.order.better.Goals as goal

pub returns-in-Equal : goal.returns-in-Equal
returns-in-Equal c =
    let same : total_of c.args.a.now ≡ total_of c.args.b.now = grind arith in
    let chosen : c.compare.result ≡ Less ↔ Better c.args.a.now c.args.b.now = at_one_total c.args.a.now c.args.b.now c.compare.result same c.compare.ensures in
    let test : IsTrue c.eq.result ↔ c.compare.result ≡ Less = grind arith in
    (λ true. chosen.0 (test.0 true), λ better. test.1 (chosen.1 better))
