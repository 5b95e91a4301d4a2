use Rattle.std.proofs.Common.{refl, rules, arith}
use Rattle.std.proofs.lemmas.Int.{ints}
use mir.Syntax.{w64}
use mir.Val.{SFits}
use Rattle.ts_node.proofs.UnitLemmas.{one_sum}
use Rattle.ts_node.proofs.unit.sums_of.Goals as goal

pub returns : goal.returns
returns c t tells = one_sum c.args.below _ t tells refl refl refl (let f : SFits w64 c.args.below.dynamic = search rules in omega (arith, ints))
