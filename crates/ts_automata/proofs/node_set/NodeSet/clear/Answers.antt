use Rattle.std.proofs.Common.{arith, []}
use Rattle.ts_automata.specs.Marked.{AreMarked}
use Rattle.ts_automata.proofs.MarkedLemmas.{are_marked, tell_members}
use Rattle.ts_automata.proofs.node_set.NodeSet.clear.Goals as goal

pub invariant_of-self : goal.invariant_of-self
invariant_of-self c =
    let s = c.args.self.now in
    let is = are_marked s.marks.items s.members.items s.marked s.distinct in
    let none : AreMarked c.unmark.new.marks.items [] = (rw c.as_slice.ensures.value at c.unmark.ensures.none) is in
    rw c.clear.ensures.items (record {
      room = omega (arith, c.unmark.ensures.count, s.room, c.clear.ensures.capacity);
      marked = tell_members c.unmark.new.marks.items [] none;
      distinct = none.distinct;
    })
