use Rattle.std.proofs.Common.{◌∙◌, ap, ℕ, arith}
use Rattle.ts_gss.specs.Stacks.{stack_at, state_on}
use Rattle.ts_graph.proofs.UnderLemmas.{head_with}
use Rattle.ts_graph.proofs.graph.head_under.Goals as goal

pub state-requires : goal.state-requires
state-requires c = let n = c.requires.one.count in let u = c.requires.under in omega (arith, n, u)

pub returns : goal.returns
returns c = ap (λ (s : ℕ). head_with s c.place_under.result) c.state.ensures ∙ ap (λ (p : ℕ). head_with (state_on (stack_at c.args.stack.now c.args.number)) p) c.place_under.ensures
