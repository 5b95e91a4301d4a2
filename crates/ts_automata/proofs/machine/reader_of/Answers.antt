use Rattle.ts_automata.proofs.CutLemmas.{zero_first}
use Rattle.ts_automata.proofs.MachineLemmas.{first_is}
use Rattle.ts_automata.proofs.machine.reader_of.Goals as goal

pub ascii_of-requires : goal.ascii_of-requires
ascii_of-requires c =
    let cut = rw c.as_slice.ensures.value at c.in_ok-bounds.ensures in
    rw c.as_slice-2.ensures.value (zero_first c.args.automaton.nodes.items c.in_ok-bounds.bounds.items cut)

pub invariant_of-result : goal.invariant_of-result
invariant_of-result c =
    let cut = rw c.as_slice.ensures.value at c.in_ok-bounds.ensures in
    let class = rw c.as_slice-2.ensures.value at c.in_ok-ascii.ensures.class in
    let kernels = rw c.as_slice-3.ensures.value at c.in_ok-kernels.ensures in
    let subset = rw (c.as_slice-4.ensures.value, c.as_slice-5.ensures.value, c.as_slice-6.ensures.value) at c.in-Ok.ensures in
    record {
      rows = subset.rows;
      row_count = subset.all;
      cut = cut;
      ascii_count = c.in_ok-ascii.ensures.count;
      ascii_class = class;
      first = first_is _ _ _ _ _ _ _ _ kernels c.index-first.ensures subset;
    }
