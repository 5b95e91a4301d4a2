use Rattle.std.proofs.Common.{◌≡◌, ◌∙◌, sym, ap, refl, arith, Bool, true, false, [], ◌∷◌, ◌++◌, if◌then◌else◌}
use Rattle.std.proofs.Math.ListN.{set}
use Rattle.std.proofs.lemmas.List.{length-set}
use Rattle.std.proofs.lemmas.Bool.{false≢true}
use Rattle.std.proofs.lemmas.Option.{slice_get_within}
use Rattle.ts_automata.proofs.MarkedLemmas.{are_marked, tell_members, adds_old, adds_new, mark_more, room_left, pushed}
use Rattle.ts_automata.proofs.node_set.NodeSet.insert.Goals as goal

pub returns-then-not-is_new-clause-adds : goal.returns-then-not-is_new-clause-adds
returns-then-not-is_new-clause-adds c =
    let s = c.args.self.now in
    let is = are_marked s.marks.items s.members.items s.marked s.distinct in
    let new = rw c.as_slice.ensures.value at c.is_new.ensures in
    adds_old s.marks.items s.members.items c.args.node _ refl is (λ h. false≢true (sym c.if-not-is_new.true ∙ new.1 h))

pub index_mut-requires : goal.index_mut-requires
index_mut-requires c =
    let s = c.args.self.now in
    let new = rw c.as_slice.ensures.value at c.is_new.ensures in
    let lt = slice_get_within s.marks.items c.args.node false (new.0 c.if-not-is_new.false) in
    omega (arith, s.marks.ok.0)

pub invariant_of-self : goal.invariant_of-self
invariant_of-self c =
    let s = c.args.self.now in
    let is = are_marked s.marks.items s.members.items s.marked s.distinct in
    let new = rw c.as_slice.ensures.value at c.is_new.ensures in
    let at = new.0 c.if-not-is_new.false in
    let left = room_left s.marks.items s.members.items is c.args.node at in
    let done = pushed c.push.result _ c.push.ensures.full (λ full. omega (arith, full, left, s.room, s.members.ok.0)) in
    let more : c.push.new.self.items ≡ s.members.items ++ c.args.node ∷ [] = c.push.ensures.items ∙ ap (λ (b : Bool). if b then s.members.items ++ c.args.node ∷ [] else s.members.items) done in
    let after = mark_more s.marks.items s.members.items is c.args.node at in
    let size = length-set s.marks.items c.args.node true in
    rw more (record {
      room = omega (arith, size, s.room, c.push.ensures.capacity);
      marked = tell_members (set s.marks.items c.args.node true) (s.members.items ++ c.args.node ∷ []) after;
      distinct = after.distinct;
    })

pub unreachable-requires : goal.unreachable-requires
unreachable-requires c =
    let s = c.args.self.now in
    let is = are_marked s.marks.items s.members.items s.marked s.distinct in
    let new = rw c.as_slice.ensures.value at c.is_new.ensures in
    let left = room_left s.marks.items s.members.items is c.args.node (new.0 c.if-not-is_new.false) in
    omega (arith, c.in-Err.ensures.full, s.room, s.members.ok.0)

pub returns-clause-adds : goal.returns-clause-adds
returns-clause-adds c =
    let s = c.args.self.now in
    let is = are_marked s.marks.items s.members.items s.marked s.distinct in
    let new = rw c.as_slice.ensures.value at c.is_new.ensures in
    rw c.in-Ok.ensures.items (adds_new s.marks.items s.members.items is c.args.node (new.0 c.if-not-is_new.false) _ refl)
