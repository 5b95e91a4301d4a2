use Rattle.std.proofs.Common.{◌≡◌, true, false}
use Rattle.ts_rules.specs.Names.{told}
use Rattle.ts_rules.proofs.FirstSightLemmas.{absent_first, present_more, all_present}
use Rattle.ts_rules.proofs.names.first_undefined.Goals as goal

pub returns-then-not-is_among : goal.returns-then-not-is_among
returns-then-not-is_among c =
    let wrong : c.is_among.result ≡ false = cc in
    absent_first (told c.args.names.now.keys) c.args.used.now c.loop-name.name-index c.name-item.result c.is_among.result c.loop-name-test.true c.name-item.is c.is_among.ensures wrong c.loop-name.invariant

pub loop-name-preserved : goal.loop-name-preserved
loop-name-preserved c =
    let right : c.is_among.result ≡ true = cc in
    present_more (told c.args.names.now.keys) c.args.used.now c.loop-name.name-index c.name-item.result c.is_among.result c.loop-name-test.true c.name-item.is c.is_among.ensures right c.loop-name.invariant

pub returns : goal.returns
returns c = all_present (told c.args.names.now.keys) c.args.used.now c.loop-name.name-index c.loop-name-test.false c.loop-name.invariant
