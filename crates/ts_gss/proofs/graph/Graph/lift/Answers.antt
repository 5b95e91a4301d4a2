use Rattle.std.proofs.Common.{◌∙◌, sym}
use Rattle.ts_gss.specs.Stacks.{stack_at}
use Rattle.ts_gss.proofs.PathLemmas.{lifts_none}
use Rattle.ts_gss.proofs.graph.Graph.lift.Goals as goal

pub returns-else-extra-clause-extras : goal.returns-else-extra-clause-extras
returns-else-extra-clause-extras c = lifts_none (stack_at c.args.self.now c.args.head) c.new-extras.result.items c.new-extras.ensures.items (sym c.extra.ensures ∙ c.if-extra.false)
