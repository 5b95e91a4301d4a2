use Rattle.std.proofs.Common.{ap, [], ◌∷◌, arith}
use Rattle.spec_trees.specs.Trees.{tree_depth}
use Rattle.ts_steps.proofs.NodeLemmas.{fits, reduced_good}
use Rattle.ts_steps.proofs.MakingLemmas.{reduced_depth}
use Rattle.ts_steps.proofs.making.node_of_one.Goals as goal

pub reduce_one-requires-clause-fits : goal.reduce_one-requires-clause-fits
reduce_one-requires-clause-fits c =
    let k = c.requires.can in
    fits c.laws_hold.ensures c.args.setting.now.productions c.args.number k.0 k.1 c.args.extent (c.args.child ∷ []) k.2

pub reduce_one-requires-clause-node : goal.reduce_one-requires-clause-node
reduce_one-requires-clause-node c =
    let k = c.requires.can in
    let d = reduced_depth c.laws_hold.ensures c.args.setting.now.productions c.args.number k.0 k.1 c.args.extent c.args.state c.args.lengthens (c.args.child ∷ []) k.2 k.3 in
    let low = c.requires.shallow in
    (reduced_good c.laws_hold.ensures c.args.setting.now.productions c.args.number k.0 k.1 c.args.extent c.args.state (c.args.child ∷ []) k.2 (omega (arith, d, low))).0.node

pub returns-clause-shallow : goal.returns-clause-shallow
returns-clause-shallow c =
    let k = c.requires.can in
    let d = reduced_depth c.laws_hold.ensures c.args.setting.now.productions c.args.number k.0 k.1 c.args.extent c.args.state c.args.lengthens (c.args.child ∷ []) k.2 k.3 in
    let low = c.requires.shallow in
    let same = ap tree_depth c.in_ok-node.ensures in
    omega (arith, d, low, same)
