use Rattle.std.proofs.Common.{sym, ap, subst, ℕ, ◌+◌, ◌≤◌}
use Rattle.spec_trees.specs.declared.tree.Tree.{Tree}
use Rattle.spec_trees.specs.Trees.{span_of}
use Rattle.ts_steps.proofs.LengthenLemmas.{list_within, same_list, longer_node, lengthened_there}
use Rattle.ts_steps.proofs.lengthening.lengthen_list.Goals as goal

pub extent_with-requires-clause-ends : goal.extent_with-requires-clause-ends
extent_with-requires-clause-ends c =
    let same = same_list c.args.table.now c.args.size c.args.graph.now c.args.head c.args.end c.requires.list c.requires.live c.node-list.result.now c.node-list.ensures in
    subst (λ (x : Tree). span_of x ≤ c.args.end.place) (sym same) (list_within c.args.table.now c.args.size c.args.graph.now c.args.head c.args.end c.requires.list c.requires.live).0

pub lengthen-requires-clause-node : goal.lengthen-requires-clause-node
lengthen-requires-clause-node c =
    longer_node c.args.table.now c.args.size c.args.graph.now c.args.head c.args.end c.requires.list c.requires.live c.laws_hold.ensures c.length_laws_hold.ensures c.stands.ensures c.requires.short c.args.section.now c.requires.lent c.nodes.ensures.section
    c.requires.part.0 c.requires.part.1 c.requires.part.2 c.in-Some.extent c.node-list.result.now c.node-list.ensures c.in-Some.ensures c.state.result c.state.ensures

pub returns-in_ok-top-in-Some-clause-done : goal.returns-in_ok-top-in-Some-clause-done
returns-in_ok-top-in-Some-clause-done c =
    lengthened_there c.args.table.now c.args.size c.args.graph.now c.args.head c.args.end c.requires.list c.requires.live c.laws_hold.ensures c.length_laws_hold.ensures c.stands.ensures c.requires.short c.args.section.now c.requires.lent c.nodes.ensures.section
    c.requires.part.0 c.requires.part.1 c.requires.part.2 c.in-Some.extent c.node-list.result.now c.node-list.ensures c.in-Some.ensures c.state.result c.state.ensures
    c.replace_top.new.graph c.in_ok-top-in-Some.top (c.args.end.place + c.bytes.result) c.in_ok-longer-in-Some.longer c.in_ok-top-in-Some.ensures.there c.in_ok-longer-in-Some.ensures c.in_ok-top-in-Some.ensures.stack
    (ap (λ (n : ℕ). c.args.end.place + n) c.bytes.ensures)

pub returns-in_ok-top-in-Some-clause-one : goal.returns-in_ok-top-in-Some-clause-one
returns-in_ok-top-in-Some-clause-one c one = c.in_ok-top-in-Some.ensures.one c.args.head.top one
