use Rattle.std.proofs.Common.{◌≡◌, Some, arith, rules}
use Rattle.ts_ojson.specs.declared.class.Class.TheVariants.{Blank}
use Rattle.ts_ojson.specs.Places.{class_there}
use Rattle.ts_ojson.proofs.PlaceLemmas.{class_here, blanks_more}
use Rattle.ts_ojson.proofs.byte.blanks_end.Goals as goal

pub loop-at-preserved : goal.loop-at-preserved
loop-at-preserved c =
    let w = c.args.text.now in
    let at = c.loop-at.at in
    let is : class_there w at ≡ Some Blank = search rules in
    let here = class_here w at Blank is in
    (omega (arith, c.loop-at.invariant.0), omega (arith, here.0), blanks_more w c.args.from at c.loop-at.invariant.2 is)
