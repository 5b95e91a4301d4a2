use Rattle.std.proofs.Common.{◌∙◌, refl, subst, List, ℕ}
use Rattle.std.proofs.lemmas.List.{take_all}
use Rattle.ts_automata.specs.Sets.{Adds, Moves}
use Rattle.ts_automata.specs.Marked.{InRoom}
use Rattle.ts_automata.specs.NodeSets.{node_room, nodes_of}
use Rattle.ts_automata.proofs.WalkLemmas.{went_none, went_more}
use Rattle.ts_automata.proofs.walk.take_all.Goals as goal

pub loop-from-init : goal.loop-from-init
loop-from-init c = record { room = refl; adds = went_none c.args.nodes.now (node_room c.args.set.now) c.args.members.now c.args.c (nodes_of c.args.set.now) }

pub loop-from-preserved : goal.loop-from-preserved
loop-from-preserved c =
    let inv = c.loop-from.invariant in
    record {
      room = c.take.ensures.room ∙ inv.room;
      adds = went_more c.args.nodes.now (node_room c.args.set.now) c.args.members.now c.loop-from.from-index 0 c.args.c (nodes_of c.args.set.now) (nodes_of c.loop-from.set) (nodes_of c.take.new.set) c.loop-from-test.true inv.adds
          (rw inv.room at c.take.ensures.adds);
    }

pub returns-clause-adds : goal.returns-clause-adds
returns-clause-adds c =
    let all = take_all _ _ c.loop-from-test.false in
    subst (λ (l : List ℕ). Adds (InRoom (node_room c.args.set.now) (Moves c.args.nodes.now l c.args.c)) (nodes_of c.args.set.now) (nodes_of c.loop-from.set)) all c.loop-from.invariant.adds
