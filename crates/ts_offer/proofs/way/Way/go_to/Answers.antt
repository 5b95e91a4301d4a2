use Rattle.std.proofs.Common.{◌∙◌, sym, subst, arith, vec_capacity}
use Rattle.spec_trees.specs.declared.tree.Tree.{Tree}
use Rattle.ts_offer.specs.Ways.{IsOn, IsNext}
use Rattle.ts_offer.proofs.WayLemmas.{pop_turn, pop_begun, go_over, go_past, go_into, into_room, reached, light_over, light_past, light_into}
use Rattle.ts_offer.proofs.way.Way.go_to.Goals as goal

pub toward-requires-clause-within : goal.toward-requires-clause-within
toward-requires-clause-within c = pop_turn c.loop-turn.self.root.now _ _ _ c.in-Some.turn c.args.place c.loop-turn.invariant.way c.in-Some.ensures.items

pub toward-requires-clause-begun : goal.toward-requires-clause-begun
toward-requires-clause-begun c = pop_begun c.loop-turn.self.root.now _ _ _ c.in-Some.turn c.args.place c.loop-turn.invariant.way c.in-Some.ensures.items

pub loop-turn-smaller-in-Over : goal.loop-turn-smaller-in-Over
loop-turn-smaller-in-Over c = light_over c.loop-turn.self.turns.items c.pop.new.self.items c.in-Some.turn c.in-Some.ensures.items

pub loop-turn-preserved-in-Over : goal.loop-turn-preserved-in-Over
loop-turn-preserved-in-Over c = record {
  way = go_over c.loop-turn.self.root.now (vec_capacity c.loop-turn.self.turns) (vec_capacity c.pop.new.self) c.loop-turn.self.turns.items c.pop.new.self.items c.in-Some.turn c.args.place
      c.loop-turn.invariant.way c.in-Some.ensures.items c.in-Over.ensures (omega (arith, c.pop.ensures.capacity));
  root = c.loop-turn.invariant.root;
}

pub returns-in-Next-clause-next : goal.returns-in-Next-clause-next
returns-in-Next-clause-next c = subst (λ (r : Tree). IsNext r c.args.place c.in-Next.ahead) c.loop-turn.invariant.root
    (reached c.loop-turn.self.root.now (vec_capacity c.loop-turn.self.turns) c.loop-turn.self.turns.items c.pop.new.self.items c.in-Some.turn c.in-Next.ahead c.args.place
    c.loop-turn.invariant.way c.in-Some.ensures.items c.in-Next.ensures)

pub loop-turn-smaller-in-Past : goal.loop-turn-smaller-in-Past
loop-turn-smaller-in-Past c = light_past c.loop-turn.self.turns.items c.pop.new.self.items c.put-in-Past.new.self.turns.items c.in-Some.turn c.in-Past.after c.args.place
    c.in-Some.ensures.items c.in-Past.ensures c.put-in-Past.ensures.turns

pub loop-turn-preserved-in-Past : goal.loop-turn-preserved-in-Past
loop-turn-preserved-in-Past c = record {
  way = subst (λ (r : Tree). IsOn r (vec_capacity c.put-in-Past.new.self.turns) c.put-in-Past.new.self.turns.items c.args.place) (sym c.put-in-Past.ensures.root)
      (go_past c.loop-turn.self.root.now (vec_capacity c.loop-turn.self.turns) (vec_capacity c.put-in-Past.new.self.turns) c.loop-turn.self.turns.items c.pop.new.self.items c.put-in-Past.new.self.turns.items c.in-Some.turn c.in-Past.after c.args.place
      c.loop-turn.invariant.way c.in-Some.ensures.items c.in-Past.ensures c.put-in-Past.ensures.turns (omega (arith, c.pop.ensures.capacity, c.put-in-Past.ensures.room)));
  root = c.put-in-Past.ensures.root ∙ c.loop-turn.invariant.root;
}

pub put-requires-in-Into-2 : goal.put-requires-in-Into-2
put-requires-in-Into-2 c =
    let r = into_room c.loop-turn.self.root.now (vec_capacity c.loop-turn.self.turns) c.loop-turn.self.turns.items c.pop.new.self.items c.put-in-Into.new.self.turns.items c.in-Some.turn c.in-Into.after c.in-Into.inner c.args.place
    c.loop-turn.invariant.way c.in-Some.ensures.items c.in-Into.ensures c.put-in-Into.ensures.turns in
    omega (arith, r, c.pop.ensures.capacity, c.put-in-Into.ensures.room)

pub loop-turn-smaller : goal.loop-turn-smaller
loop-turn-smaller c = light_into c.loop-turn.self.turns.items c.pop.new.self.items c.put-in-Into.new.self.turns.items c.put-in-Into-2.new.self.turns.items c.in-Some.turn c.in-Into.after c.in-Into.inner c.args.place
    c.in-Some.ensures.items c.in-Into.ensures c.put-in-Into.ensures.turns c.put-in-Into-2.ensures.turns

pub loop-turn-preserved : goal.loop-turn-preserved
loop-turn-preserved c = record {
  way = subst (λ (r : Tree). IsOn r (vec_capacity c.put-in-Into-2.new.self.turns) c.put-in-Into-2.new.self.turns.items c.args.place) (sym (c.put-in-Into-2.ensures.root ∙ c.put-in-Into.ensures.root))
      (go_into c.loop-turn.self.root.now (vec_capacity c.loop-turn.self.turns) (vec_capacity c.put-in-Into-2.new.self.turns) c.loop-turn.self.turns.items c.pop.new.self.items c.put-in-Into.new.self.turns.items c.put-in-Into-2.new.self.turns.items c.in-Some.turn c.in-Into.after c.in-Into.inner c.args.place
      c.loop-turn.invariant.way c.in-Some.ensures.items c.in-Into.ensures c.put-in-Into.ensures.turns c.put-in-Into-2.ensures.turns (omega (arith, c.pop.ensures.capacity, c.put-in-Into.ensures.room, c.put-in-Into-2.ensures.room)));
  root = c.put-in-Into-2.ensures.root ∙ (c.put-in-Into.ensures.root ∙ c.loop-turn.invariant.root);
}

pub returns-in-Next-clause-last : goal.returns-in-Next-clause-last
returns-in-Next-clause-last c = record { turns = c.pop.new.self.items; turn = c.in-Some.turn; are = c.put.ensures.turns; reached = c.in-Next.ensures }
