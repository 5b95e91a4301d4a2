use Rattle.std.proofs.Common.{◌≡◌, [], take, All}
use Rattle.ts_productions.specs.Expansions.{Table, spread_all}
use Rattle.ts_productions.specs.Sizes.{IsUsable}
use Rattle.ts_productions.proofs.spread.expansions_of.Given as goal

abbrev pub invariant-loop-alternative : goal.invariant-loop-alternative
invariant-loop-alternative l = record {
  steps : l.growth.steps.items ≡ [];
  found : (F : Table) → All (IsUsable F l.inlined) l.alternatives → l.growth.found ≡ spread_all F (take l.alternative-index l.alternatives);
}
