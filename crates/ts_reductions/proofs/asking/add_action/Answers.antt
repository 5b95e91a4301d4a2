use Rattle.std.proofs.Common.{◌∙◌, sym, subst, length}
use Rattle.ts_core.specs.declared.action.Action.{Action}
use Rattle.ts_reductions.specs.Asking.{HasAction}
use Rattle.ts_reductions.proofs.AddLemmas.{by_reduction, no_reduction}
use Rattle.ts_reductions.proofs.asking.add_action.Goals as goal

pub add_ways-requires : goal.add_ways-requires
add_ways-requires c =
    let r = c.requires in
    (r.0, r.1, subst (λ (a : Action). HasAction c.args.table.now c.args.graph.now c.args.acting.top a) c.in-Reduce.is r.2)

pub returns-in_ok-more-in-Reduce : goal.returns-in_ok-more-in-Reduce
returns-in_ok-more-in-Reduce c = λ text ready has.
    by_reduction c.args.table.now (length text) c.args.graph.now c.args.acting.batch c.args.mades.now.items c.args.acting.top c.args.acting.action c.in-Reduce.number c.add_ways.new.mades.items c.in_ok-more-in-Reduce.more c.in-Reduce.is
    (c.in_ok-more-in-Reduce.ensures text ready (subst (λ (a : Action). HasAction c.args.table.now c.args.graph.now c.args.acting.top a) c.in-Reduce.is has))

pub returns-in-Shift : goal.returns-in-Shift
returns-in-Shift c = λ text ready has.
    no_reduction c.args.table.now (length text) c.args.graph.now c.args.acting.batch c.args.mades.now.items c.args.acting.top c.args.acting.action
    (λ n e. let f = sym c.in-Shift.is ∙ e in cc)

pub returns-in-Accept : goal.returns-in-Accept
returns-in-Accept c = λ text ready has.
    no_reduction c.args.table.now (length text) c.args.graph.now c.args.acting.batch c.args.mades.now.items c.args.acting.top c.args.acting.action
    (λ n e. let f = sym c.in-Accept.is ∙ e in cc)
