use Rattle.std.proofs.Common.{◌≡◌, ◌+◌, ◌-◌, ◌*◌, ◌<◌, ◌≤◌, ℕ, All, length}
use Rattle.spec_trees.specs.Trees.{children_of, elements_of, tree_depth}
use Rattle.spec_trees.specs.Made.{bytes_before, stretch_in}
use Rattle.ts_marks.specs.Passing.{AreDone, AreDoneTo, AreLoosenedTo, spans_between}
use Rattle.ts_marks.proofs.marking.+walk.Given as goal

abbrev pub decreases-reached_in : goal.decreases-reached_in
decreases-reached_in l = 5 * tree_depth l.node.now + 2

abbrev pub decreases-reached_one_by_one : goal.decreases-reached_one_by_one
decreases-reached_one_by_one l = 5 * tree_depth l.node.now + 1

abbrev pub decreases-reached_in_elements : goal.decreases-reached_in_elements
decreases-reached_in_elements l = 5 * tree_depth l.node.now + 1

abbrev pub decreases-add_children : goal.decreases-add_children
decreases-add_children l = 5 * tree_depth l.node.now

abbrev pub decreases-add_changed : goal.decreases-add_changed
decreases-add_changed l = 5 * tree_depth l.child.now + 4

abbrev pub decreases-remade : goal.decreases-remade
decreases-remade l = 5 * tree_depth l.node.now + 3

abbrev pub invariant-reached_in_elements-loop-k : goal.invariant-reached_in_elements-loop-k
invariant-reached_in_elements-loop-k l = record {
  edit : l.passed.edit.now ≡ l.initial.passed.edit.now;
  until : l.k ≤ length (elements_of l.node);
  from : l.passed.from ≤ l.place + bytes_before l.k (stretch_in l.node);
  done : AreDoneTo l.initial.passed.edit.now l.node l.place l.changed.items l.k;
  within : All (λ change. change.0 < length (children_of l.node)) l.changed.items;
  loosened : AreLoosenedTo l.initial.passed.edit.now l.node l.place l.loose.items l.k;
  known : All (λ i. i < length (elements_of l.node)) l.loose.items;
}

abbrev pub decreases-reached_in_elements-loop-k : goal.decreases-reached_in_elements-loop-k
decreases-reached_in_elements-loop-k l = length (elements_of l.node) - l.k

abbrev pub invariant-add_children-loop-k : goal.invariant-add_children-loop-k
invariant-add_children-loop-k l = record {
  edit : l.passed.edit.now ≡ l.initial.passed.edit.now;
  until : l.k ≤ l.to;
  from : l.passed.from ≤ l.at;
  left : l.at + spans_between l.k l.to (children_of l.node) ≡ l.place + spans_between l.from l.to (children_of l.node);
  done : (base : ℕ) → AreDone l.initial.passed.edit.now (children_of l.node) base l.initial.changed.items l.from l.place → AreDone l.initial.passed.edit.now (children_of l.node) base l.changed.items l.k l.at;
  within : All (λ change. change.0 < length (children_of l.node)) l.initial.changed.items → All (λ change. change.0 < length (children_of l.node)) l.changed.items;
}
