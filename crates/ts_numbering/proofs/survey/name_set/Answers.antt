use Rattle.std.proofs.Common.{refl}
use Rattle.ts_numbering.proofs.SurveyLemmas.{name_seen}
use Rattle.ts_numbering.proofs.survey.name_set.Goals as goal

pub loop-name-preserved : goal.loop-name-preserved
loop-name-preserved c =
    name_seen c.args.names.now c.loop-name.found.keys c.insert.new.self.keys c.loop-name.name-index c.name-item.result _ refl c.loop-name-test.true c.name-item.is c.in_ok-insert.ensures.keys c.loop-name.invariant
