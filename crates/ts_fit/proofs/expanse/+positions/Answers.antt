use Rattle.std.proofs.Common.{◌≤◌, arith}
use Rattle.std.proofs.Math.Nat.{mul-le-mul_left}
use Rattle.ts_fit.proofs.expanse.+positions.Goals as goal

pub positions-overflow_mul-times : goal.positions-overflow_mul-times
positions-overflow_mul-times t c =
    let few : c.positions-inner.result ≤ 65537 = c.positions-inner.ensures.few in
    omega (arith, c.times.ensures.few, mul-le-mul_left c.times.result few)
