use Rattle.std.proofs.Common.{◌+◌, ◌-◌, ◌*◌, ◌≤◌, length, drop}
use Rattle.std.specs.declared.cmp.Ordering.{Ordering}
use Rattle.spec_trees.specs.Trees.{node_count, elements_of, children_of}
use Rattle.spec_trees.specs.Made.{children_count}
use Rattle.ts_order.specs.Compared.{Compares, codes_from, elements_code}
use Rattle.ts_order.proofs.CodeLemmas.{elements_from}
use Rattle.ts_order.proofs.order.+code.Given as goal

abbrev pub decreases-compare : goal.decreases-compare
decreases-compare l = 3 * node_count l.a.now + 2

abbrev pub decreases-compare_elements : goal.decreases-compare_elements
decreases-compare_elements l = 3 * node_count l.a.now + 1

abbrev pub decreases-compare_children : goal.decreases-compare_children
decreases-compare_children l = 3 * node_count l.a.now

abbrev pub invariant-compare_children-loop-k : goal.invariant-compare_children-loop-k
invariant-compare_children-loop-k l =
    (r : Ordering)
    → Compares r (codes_from l.k (l.from + l.count - l.k) l.a) (codes_from l.k (l.from + l.count - l.k) l.b)
    → Compares r (codes_from l.from l.count l.a) (codes_from l.from l.count l.b)

abbrev pub invariant-compare_elements-loop-k : goal.invariant-compare_elements-loop-k
invariant-compare_elements-loop-k l = record {
  first : l.from + children_count (drop l.k (elements_of l.a)) ≤ length (children_of l.a);
  second : l.from + children_count (drop l.k (elements_of l.b)) ≤ length (children_of l.b);
  same : (r : Ordering) → Compares r (elements_from l.k l.from l.a) (elements_from l.k l.from l.b) → Compares r (elements_code l.a) (elements_code l.b);
}
