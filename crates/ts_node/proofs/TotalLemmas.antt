-- Sums of signed totals, and how large they are.
use Rattle.std.proofs.Common.{ℕ, suc, Bool, true, false, ◌+◌, ◌-◌, ◌<◌, ◌≤◌, ◌^◌, arith}
use Rattle.std.proofs.lemmas.Int.{fits_signed_from_abs}
use Rattle.std.specs.Int.RustNames.{FitsSigned, unsigned_abs}
use lib.IntN.{ℤ, pos, negsuc, ◌+ℤ◌, sub_ℕ}
use lib.Dec.{ltb}
use mathlib.Core.Bool.{cond}
use mir.Syntax.{w32, w64, w128}

abs_difference : (a b : ℕ) → unsigned_abs (sub_ℕ a (suc b)) ≤ a + suc b
abs_difference a b = by (ltb a (suc b))
  where
    by : (t : Bool) → unsigned_abs (cond t (negsuc (suc b - suc a)) (pos (a - suc b))) ≤ a + suc b
    by true = omega arith
    by false = omega arith

pub abs_sum : (a b : ℤ) → unsigned_abs (a +ℤ b) ≤ unsigned_abs a + unsigned_abs b
abs_sum (pos a) (pos b) = omega arith
abs_sum (pos a) (negsuc b) = omega (arith, abs_difference a b)
abs_sum (negsuc a) (pos b) = omega (arith, abs_difference b a)
abs_sum (negsuc a) (negsuc b) = omega arith

pub sum_fits : (a b : ℤ) → unsigned_abs a + unsigned_abs b < 2 ^ 63 → FitsSigned w64 (a +ℤ b)
sum_fits a b h = fits_signed_from_abs w64 (a +ℤ b) (omega (arith, h, abs_sum a b))

pub wide_sum_fits : (a b : ℤ) → unsigned_abs a + unsigned_abs b < 2 ^ 127 → FitsSigned w128 (a +ℤ b)
wide_sum_fits a b h = fits_signed_from_abs w128 (a +ℤ b) (omega (arith, h, abs_sum a b))

pub abs_small : (v : ℤ) → FitsSigned w32 v → unsigned_abs v ≤ 2 ^ 31
abs_small (pos n) f = grind arith
abs_small (negsuc n) f = grind arith

pub value_fits : (v b : ℤ) → FitsSigned w32 v → unsigned_abs b + 2 ^ 31 < 2 ^ 63 → FitsSigned w64 (v +ℤ b)
value_fits v b f h = sum_fits v b (omega (arith, h, abs_small v f))
