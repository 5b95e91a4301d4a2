use Rattle.std.proofs.Common.{refl, arith}
use Rattle.ts_gss.proofs.OneLemmas.{one_cut}
use Rattle.ts_steps.proofs.lengthening.replace_top.Goals as goal

pub returns-clause-one : goal.returns-clause-one
returns-clause-one c last one =
    let low = c.below-below.ensures.lower in
    let there = c.requires.there in
    c.in_ok-top.ensures.one (one_cut c.args.graph.now c.args.graph.now c.cut.new.self last c.below-below.result one.lie (let n = one.count in omega (arith, low, there, n)) (omega (arith, low, there)) (λ k le. refl) c.cut.ensures.cut)
