use Rattle.std.proofs.Common.{◌∙◌, sym, ap, subst, refl, length, Some, List, ℕ}
use Rattle.std.proofs.lemmas.Bool.{false≢true}
use Rattle.std.proofs.lemmas.Option.{slice_get_read}
use Rattle.ts_automata.specs.declared.node.Node.{Node}
use Rattle.spec_lexing.specs.Words.{IsInRanges}
use Rattle.ts_automata.specs.Reads.{Takes}
use Rattle.ts_automata.specs.NodeSets.{node_room, nodes_of}
use Rattle.ts_automata.proofs.NodeLemmas.{past_takes, split_takes, end_takes, other_takes}
use Rattle.ts_automata.proofs.WalkLemmas.{room_none, room_take}
use Rattle.ts_automata.proofs.walk.take.Goals as goal

pub returns-then-from-nodes-clause-adds : goal.returns-then-from-nodes-clause-adds
returns-then-from-nodes-clause-adds c = room_none (node_room c.args.set.now) (Takes c.args.nodes.now c.args.from c.args.c) (nodes_of c.args.set.now)
    (past_takes c.args.nodes.now c.args.from c.args.c (nodes_of c.args.set.now) c.if-from-nodes.true)

pub returns-then-is_in-clause-adds : goal.returns-then-is_in-clause-adds
returns-then-is_in-clause-adds c =
    let at = slice_get_read c.args.nodes.now (length c.args.nodes.now) c.args.from _ refl c.if-from-nodes.false c.index-nodes-from.is ∙ ap (λ (n : Node). Some n) c.in-Take.is in
    let member = c.is_in.ensures.0 c.if-is_in.true in
    room_take c.args.nodes.now (node_room c.args.set.now) c.args.from c.args.c (nodes_of c.args.set.now) _ c.in-Take.ranges c.in-Take.to at
    (subst (λ (l : List (ℕ × ℕ)). IsInRanges l c.args.c) c.as_slice.ensures member) c.insert.ensures.adds

pub returns-else-is_in-clause-adds : goal.returns-else-is_in-clause-adds
returns-else-is_in-clause-adds c =
    let at = slice_get_read c.args.nodes.now (length c.args.nodes.now) c.args.from _ refl c.if-from-nodes.false c.index-nodes-from.is ∙ ap (λ (n : Node). Some n) c.in-Take.is in
    room_none (node_room c.args.set.now) (Takes c.args.nodes.now c.args.from c.args.c) (nodes_of c.args.set.now)
    (other_takes c.args.nodes.now c.args.from c.args.c (nodes_of c.args.set.now) c.in-Take.ranges c.in-Take.to at
    (λ h. false≢true (sym c.if-is_in.false ∙ c.is_in.ensures.1 (subst (λ (l : List (ℕ × ℕ)). IsInRanges l c.args.c) (sym c.as_slice.ensures) h))))

pub returns-in-Split-clause-adds : goal.returns-in-Split-clause-adds
returns-in-Split-clause-adds c =
    let at = slice_get_read c.args.nodes.now (length c.args.nodes.now) c.args.from _ refl c.if-from-nodes.false c.index-nodes-from.is ∙ ap (λ (n : Node). Some n) c.in-Split.is in
    room_none (node_room c.args.set.now) (Takes c.args.nodes.now c.args.from c.args.c) (nodes_of c.args.set.now) (split_takes c.args.nodes.now c.args.from c.args.c (nodes_of c.args.set.now) _ _ at)

pub returns-in-End-clause-adds : goal.returns-in-End-clause-adds
returns-in-End-clause-adds c =
    let at = slice_get_read c.args.nodes.now (length c.args.nodes.now) c.args.from _ refl c.if-from-nodes.false c.index-nodes-from.is ∙ ap (λ (n : Node). Some n) c.in-End.is in
    room_none (node_room c.args.set.now) (Takes c.args.nodes.now c.args.from c.args.c) (nodes_of c.args.set.now) (end_takes c.args.nodes.now c.args.from c.args.c (nodes_of c.args.set.now) at)
