use Rattle.std.proofs.Common.{◌≡◌, ◌+◌, drop}
use Rattle.spec_trees.specs.Trees.{span_of, all_spans, children_of}
use Rattle.ts_marks.proofs.spans.lead.Given as goal

abbrev pub invariant-loop-k : goal.invariant-loop-k
invariant-loop-k l =
    l.left + all_spans (children_of l.node) ≡ span_of l.node + all_spans (drop l.k (children_of l.node))
