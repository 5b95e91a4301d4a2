use Rattle.std.proofs.Common.{arith}
use Rattle.ts_automata.proofs.MarkedLemmas.{no_marks, tell_members}
use Rattle.ts_automata.proofs.node_set.NodeSet.new.Goals as goal

pub invariant_of-result : goal.invariant_of-result
invariant_of-result c =
    let is = no_marks c.args.room c.in_ok-marks.marks.items c.in_ok-members.members.items (c.in_ok-marks.ensures.items_if_clones_equal (λ y e. e)) c.in_ok-members.ensures.items in
    record {
      room = omega (arith, c.in_ok-marks.ensures.len, c.in_ok-members.ensures.exact, c.in_ok-marks.marks.ok.0);
      marked = tell_members c.in_ok-marks.marks.items c.in_ok-members.members.items is;
      distinct = is.distinct;
    }
