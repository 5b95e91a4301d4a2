use Rattle.std.proofs.Common.{◌≡◌, sym}
use Rattle.ts_steps.specs.LiveHeads.{read_on}
use Rattle.ts_gss.specs.Stacks.{stack_at, state_on}
use Rattle.ts_steps.proofs.StackLemmas.{state_top}
use Rattle.ts_steps.proofs.TableLemmas.{some_move}
use Rattle.ts_steps.proofs.reparsing.seen_again.Goals as goal

pub returns-then-stays_valid : goal.returns-then-stays_valid
returns-then-stays_valid c f e =
    let same : c.args.found ≡ f = cc in
    let stack = stack_at c.args.graph.now c.args.head.top in (
      sym same,
      some_move c.args.table.now (read_on c.args.graph.now c.args.head) (state_on stack) c.args.found.token.0 c.stands.ensures (state_top c.args.table.now stack c.requires.live.1.live.stack.states) (c.stays_valid.ensures c.if-stays_valid.true),
    )
