use Rattle.ts_search.proofs.siblings.siblings_of.Goals as goal

pub invariant_of-result : goal.invariant_of-result
invariant_of-result c = record {
  silence = rw c.as_slice.ensures at c.in_ok-silent.ensures;
  passed = rw c.as_slice-2.ensures at c.in_ok-taken.ensures;
  quiet = rw c.as_slice-3.ensures at c.in_ok-capturing.ensures;
}
