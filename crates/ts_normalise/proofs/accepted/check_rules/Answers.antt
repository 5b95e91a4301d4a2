use Rattle.ts_normalise.proofs.FormLemmas.{empty_rule_none, empty_rule_place}
use Rattle.ts_normalise.proofs.accepted.check_rules.Goals as goal

pub returns-in-None-clause-none : goal.returns-in-None-clause-none
returns-in-None-clause-none c = empty_rule_none c.args.form.now c.in-None.ensures

pub get-requires : goal.get-requires
get-requires c = empty_rule_place c.args.form.now c.in-Some.place c.in-Some.ensures
