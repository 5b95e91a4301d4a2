use Rattle.std.proofs.Common.{sym, refl, arith}
use Rattle.ts_gss.specs.Stacks.{stack_at}
use Rattle.ts_steps.proofs.LengthenLemmas.{list_is}
use Rattle.ts_steps.proofs.lengthening.list_on.Goals as goal

pub returns : goal.returns
returns c =
    list_is c.args.graph.now (record { under = c.args.under; place = c.args.place; state = c.state.result; symbol = c.symbol.result }) c.args.under c.args.place c.node-node.result.now (stack_at c.args.graph.now c.below.result)
    (c.requires.some (omega (arith, c.if-place-eq0.false))) c.node-node.ensures c.below.ensures.stack (omega (arith, c.if-elements-eq0.false, c.elements.ensures.count)) (sym c.symbol.ensures) (sym c.state.ensures) refl refl
