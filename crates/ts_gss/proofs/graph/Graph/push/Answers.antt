use Rattle.std.proofs.Common.{◌∙◌, ap, ℕ, [], ◌∷◌, ◌++◌}
use Rattle.ts_gss.specs.Stacks.{packed_layer, stack_at}
use Rattle.ts_gss.proofs.graph.Graph.push.Goals as goal

pub returns-clause-pushed : goal.returns-clause-pushed
returns-clause-pushed c =
    c.in_ok-head.ensures.pushed
    ∙ ap (λ (d : ℕ). c.args.self.now ++ (packed_layer c.args.node c.args.state d ∷ stack_at c.args.self.now c.args.below) ∷ []) c.depth-depth.ensures
