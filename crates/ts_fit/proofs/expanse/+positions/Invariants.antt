use Rattle.std.proofs.Common.{◌≡◌, ◌≤◌, min, sum, map, take}
use Rattle.spec_tables.specs.Fit as fit
use Rattle.ts_fit.proofs.expanse.+positions.Given as goal

abbrev pub invariant-positions_of_all-loop-part : goal.invariant-positions_of_all-loop-part
invariant-positions_of_all-loop-part l = (l.all ≡ min 65537 (sum (map fit.positions (take l.part-index l.parts)))) × (l.all ≤ 65537)
