use Rattle.std.proofs.Common.{◌+◌, ◌*◌}
use Rattle.spec_trees.specs.Trees.{symbol_of, elements_of, children_of, tree_depth}
use Rattle.ts_cursor.proofs.WalkLemmas.{Parted, Elemented}
use Rattle.ts_cursor.proofs.nodes.+walk.Given as goal

abbrev pub decreases-put : goal.decreases-put
decreases-put l = 6 * tree_depth l.node.now + 5

abbrev pub decreases-put_hidden : goal.decreases-put_hidden
decreases-put_hidden l = 6 * tree_depth l.node.now + 4

abbrev pub decreases-put_children : goal.decreases-put_children
decreases-put_children l = 6 * tree_depth l.node.now + 3

abbrev pub decreases-put_all : goal.decreases-put_all
decreases-put_all l = 6 * tree_depth l.node.now + 2

abbrev pub decreases-put_elements : goal.decreases-put_elements
decreases-put_elements l = 6 * tree_depth l.node.now + 1

abbrev pub decreases-put_part : goal.decreases-put_part
decreases-put_part l = 6 * tree_depth l.node.now

abbrev pub invariant-put_part-loop-k : goal.invariant-put_part-loop-k
invariant-put_part-loop-k l =
    Parted l.steps l.part.steps.now (children_of l.node) l.part.from l.part.to l.at.depth l.at.place l.fields l.initial.nodes l.k l.filled l.place l.nodes

abbrev pub invariant-put_elements-loop-e : goal.invariant-put_elements-loop-e
invariant-put_elements-loop-e l =
    Elemented l.steps (symbol_of l.node) (elements_of l.node) (children_of l.node) l.at.depth l.at.place l.fields l.initial.nodes l.e l.from l.place l.nodes
