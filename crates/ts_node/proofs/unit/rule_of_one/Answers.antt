use Rattle.std.proofs.Common.{◌≡◌, sym, subst, [], Some}
use Rattle.std.specs.Prelude.{IfOk}
use Rattle.spec_trees.specs.declared.tree.Tree.{Tree}
use Rattle.spec_trees.specs.Made.{IsNode}
use Rattle.ts_node.proofs.UnitLemmas.{head_is, small_total}
use Rattle.ts_node.proofs.unit.rule_of_one.Goals as goal

pub head_over-head-requires : goal.head_over-head-requires
head_over-head-requires c = small_total c.summary-below.result c.args.child c.summary-below.ensures

pub over_child-requires-clause-node : goal.over_child-requires-clause-node
over_child-requires-clause-node c =
    let h = c.head_over-head.ensures in
    subst (λ (x : Tree). IsNode x) (sym (head_is c.head_over-head.result c.args.entry.symbol (Some c.args.number) c.args.entry.dynamic c.args.extent c.args.state [] c.summary-below.result c.args.child h.symbol h.dynamic h.extent h.state c.summary-below.ensures)) c.requires

pub returns : goal.returns
returns c =
    let h = c.head_over-head.ensures in
    subst (λ (x : Tree). IfOk c.over_child.result (λ node. node ≡ x)) (head_is c.head_over-head.result c.args.entry.symbol (Some c.args.number) c.args.entry.dynamic c.args.extent c.args.state [] c.summary-below.result c.args.child h.symbol h.dynamic h.extent h.state c.summary-below.ensures) c.over_child.ensures
