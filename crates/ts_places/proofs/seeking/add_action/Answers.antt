use Rattle.std.proofs.Common.{◌∙◌, sym, subst}
use Rattle.ts_core.specs.declared.action.Action.{Action}
use Rattle.ts_reductions.specs.Asking.{HasAction}
use Rattle.ts_places.proofs.DueLemmas.{by_reduction, no_reduction}
use Rattle.ts_places.proofs.seeking.add_action.Goals as goal

pub returns-in_ok-push-in-Reduce : goal.returns-in_ok-push-in-Reduce
returns-in_ok-push-in-Reduce c = λ t g seek has.
    by_reduction t g seek c.args.top c.args.action c.in-Reduce.number c.args.dues.now.items c.push.new.self.items c.in-Reduce.is (subst (λ (a : Action). HasAction t g c.args.top a) c.in-Reduce.is has) c.in_ok-push-in-Reduce.ensures.items

pub returns-in-Shift : goal.returns-in-Shift
returns-in-Shift c = λ t g seek has. no_reduction t g seek c.args.top c.args.action c.args.dues.now.items (λ n e. let f = sym c.in-Shift.is ∙ e in cc)

pub returns-in-Accept : goal.returns-in-Accept
returns-in-Accept c = λ t g seek has. no_reduction t g seek c.args.top c.args.action c.args.dues.now.items (λ n e. let f = sym c.in-Accept.is ∙ e in cc)
