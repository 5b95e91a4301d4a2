use Rattle.std.proofs.Common.{◌∙◌, refl, subst, List, ℕ}
use Rattle.std.specs.List.{Contains}
use Rattle.std.proofs.lemmas.List.{take_all}
use Rattle.ts_automata.specs.Sets.{Adds}
use Rattle.ts_automata.specs.Marked.{InRoom}
use Rattle.ts_automata.specs.NodeSets.{node_room, nodes_of}
use Rattle.ts_automata.proofs.WalkLemmas.{entered_none, entered_more}
use Rattle.ts_automata.proofs.walk.enter.Goals as goal

pub loop-entry-init : goal.loop-entry-init
loop-entry-init c = record { room = refl; adds = entered_none (node_room c.args.set.now) c.args.entries.now (nodes_of c.args.set.now) }

pub loop-entry-preserved : goal.loop-entry-preserved
loop-entry-preserved c =
    let inv = c.loop-entry.invariant in
    record {
      room = c.insert.ensures.room ∙ inv.room;
      adds = entered_more (node_room c.args.set.now) c.args.entries.now c.loop-entry.entry-index 0 (nodes_of c.args.set.now) (nodes_of c.loop-entry.set) (nodes_of c.insert.new.self) c.loop-entry-test.true inv.adds
          (rw inv.room at c.insert.ensures.adds);
    }

pub returns-clause-adds : goal.returns-clause-adds
returns-clause-adds c =
    let all = take_all _ _ c.loop-entry-test.false in
    subst (λ (l : List ℕ). Adds (InRoom (node_room c.args.set.now) (Contains l)) (nodes_of c.args.set.now) (nodes_of c.loop-entry.set)) all c.loop-entry.invariant.adds
