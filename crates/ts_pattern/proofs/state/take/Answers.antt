use Rattle.std.proofs.Common.{Some, sym, subst}
use Rattle.std.proofs.lemmas.Result.{IfOk-weaker}
use Rattle.ts_pattern.specs.declared.sign.Sign.{Sign}
use Rattle.ts_pattern.specs.States.{IsTakenBy}
use Rattle.ts_pattern.proofs.TakeLemmas.{taken_set, taken_times}
use Rattle.ts_pattern.proofs.state.take.Goals as goal

pub returns-in_ok-with-in-Set : goal.returns-in_ok-with-in-Set
returns-in_ok-with-in-Set c =
    subst (λ (s : Sign). IsTakenBy c.args.ignore_case s c.args.level c.args.outer.now (Some c.in_ok-with-in-Set.field-0) c.args.outer.now) (sym c.in-Set.is)
    (taken_set c.args.ignore_case c.in-Set.set c.in_ok-ranges-in-Set.field-0 c.args.level c.in_ok-with-in-Set.field-0 c.of_set-part.result c.args.outer.now
    c.in_ok-ranges-in-Set.ensures c.of_set-part.ensures c.in_ok-with-in-Set.ensures)

pub returns-in-Times : goal.returns-in-Times
returns-in-Times c =
    IfOk-weaker c.with_times.result _ _ (λ r law. subst (λ (s : Sign). IsTakenBy c.args.ignore_case s c.args.level c.args.outer.now r c.args.outer.now) (sym c.in-Times.is)
    (taken_times c.args.ignore_case c.in-Times.least c.in-Times.most c.args.level r c.args.outer.now law)) c.with_times.ensures
