use Rattle.std.proofs.Common.{◌∙◌, ◌∷◌, ℕ, sym, subst}
use Rattle.spec_trees.specs.Made.{filling}
use Rattle.ts_table.specs.Tables.{IsStateOf}
use Rattle.ts_gss.specs.Stacks.{stack_at, trees_on}
use Rattle.ts_steps.proofs.HeadLemmas.{above_extra, above_match}
use Rattle.ts_steps.proofs.taking.state_above.Goals as goal

pub returns-then-extra : goal.returns-then-extra
returns-then-extra c =
    subst (λ (n : ℕ). IsStateOf c.args.table.now (filling (c.args.node.now ∷ trees_on (stack_at c.args.graph.now c.args.head))) n) (sym c.state-state.ensures)
    (above_extra c.args.table.now (stack_at c.args.graph.now c.args.head) c.args.node.now (sym c.extra.ensures ∙ c.if-extra.true) c.requires.states)

pub returns-else-extra : goal.returns-else-extra
returns-else-extra c =
    above_match c.args.table.now (stack_at c.args.graph.now c.args.head) c.args.node.now c.goto.result c.state-state.result c.symbol.result.0 c.state-state.ensures c.symbol.ensures c.stands.ensures (sym c.extra.ensures ∙ c.if-extra.false) c.requires.states c.goto.ensures.next c.goto.ensures.leads
