use Rattle.std.proofs.Common.{[], refl, arith}
use Rattle.ts_pattern.specs.Trees.{only, empty}
use Rattle.ts_pattern.proofs.state.read.Goals as goal

pub signs-init : goal.signs-init
signs-init c = record {
  before = [];
  inner = only empty;
  round = [];
  tokens = refl;
  run = refl;
  level = c.new.ensures;
  outer = c.new-2.ensures;
  quantified = refl;
  within = omega arith;
}
