use Rattle.std.proofs.Common.{refl}
use Rattle.ts_tokens.proofs.NameLemmas.{name_more, names_all}
use Rattle.ts_tokens.proofs.names.name_set.Goals as goal

pub loop-name-preserved : goal.loop-name-preserved
loop-name-preserved c =
    name_more c.args.names.now c.loop-name.found.keys c.insert.new.self.keys c.loop-name.name-index c.name-item.result _ refl c.loop-name-test.true c.name-item.is c.in_ok-insert.ensures.keys c.loop-name.invariant

pub returns : goal.returns
returns c = names_all c.args.names.now c.loop-name.found.keys c.loop-name.name-index c.loop-name-test.false c.loop-name.invariant
