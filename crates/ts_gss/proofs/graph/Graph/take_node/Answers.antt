use Rattle.std.proofs.Common.{◌∙◌, sym, ap, List, length, arith}
use Rattle.std.proofs.lemmas.List.{length-take-le}
use Rattle.ts_gss.specs.declared.layer.Layer.{Layer}
use Rattle.ts_gss.specs.Stacks.{stack_at, tree_on}
use Rattle.ts_gss.proofs.CellLemmas.{stack_within}
use Rattle.ts_gss.proofs.graph.Graph.take_node.Goals as goal

pub returns-clause-node : goal.returns-clause-node
returns-clause-node c = sym (ap (λ (l : List Layer). tree_on l) c.take_top-node.ensures.top)

pub returns-clause-kept : goal.returns-clause-kept
returns-clause-kept c j low =
    let there = c.requires.there in
    ap (λ (s : List (List Layer)). stack_at s j) c.take_top-node.ensures.left
    ∙ stack_within c.args.self.now c.args.head j low (omega (arith, there))

pub returns-clause-there : goal.returns-clause-there
returns-clause-there c =
    let there = c.requires.there in
    ap (λ (s : List (List Layer)). length s) c.take_top-node.ensures.left
    ∙ length-take-le c.args.head c.args.self.now (omega (arith, there))
