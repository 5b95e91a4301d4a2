use Rattle.std.proofs.Common.{◌≡◌, ◌∙◌, ap, refl, subst, length, Some, ℕ}
use Rattle.std.proofs.lemmas.Option.{slice_get_read}
use Rattle.ts_automata.specs.declared.node.Node.{Node}
use Rattle.ts_automata.specs.Reads.{Splits}
use Rattle.ts_automata.specs.Sets.{Adds}
use Rattle.ts_automata.specs.Marked.{InRoom}
use Rattle.ts_automata.specs.NodeSets.{node_room, nodes_of}
use Rattle.ts_automata.proofs.NodeLemmas.{past_splits, take_splits, end_splits}
use Rattle.ts_automata.proofs.WalkLemmas.{room_none, room_split}
use Rattle.ts_automata.proofs.walk.expand.Goals as goal

pub returns-then-from-nodes-clause-adds : goal.returns-then-from-nodes-clause-adds
returns-then-from-nodes-clause-adds c = room_none (node_room c.args.set.now) (Splits c.args.nodes.now c.args.from) (nodes_of c.args.set.now)
    (past_splits c.args.nodes.now c.args.from (nodes_of c.args.set.now) c.if-from-nodes.true)

pub returns-in-Take-clause-adds : goal.returns-in-Take-clause-adds
returns-in-Take-clause-adds c =
    let at = slice_get_read c.args.nodes.now (length c.args.nodes.now) c.args.from _ refl c.if-from-nodes.false c.index-nodes-from.is ∙ ap (λ (n : Node). Some n) c.in-Take.is in
    room_none (node_room c.args.set.now) (Splits c.args.nodes.now c.args.from) (nodes_of c.args.set.now) (take_splits c.args.nodes.now c.args.from (nodes_of c.args.set.now) _ _ at)

pub returns-in-Split-clause-adds : goal.returns-in-Split-clause-adds
returns-in-Split-clause-adds c =
    let at = slice_get_read c.args.nodes.now (length c.args.nodes.now) c.args.from _ refl c.if-from-nodes.false c.index-nodes-from.is ∙ ap (λ (n : Node). Some n) c.in-Split.is in
    room_split c.args.nodes.now (node_room c.args.set.now) c.args.from c.in-Split.left c.in-Split.right (nodes_of c.args.set.now) (nodes_of c.insert.new.self) (nodes_of c.insert-in-Split.new.self) at
    c.insert.ensures.adds
    (subst (λ (n : ℕ). Adds (InRoom n (λ i. i ≡ c.in-Split.right)) (nodes_of c.insert.new.self) (nodes_of c.insert-in-Split.new.self)) c.insert.ensures.room c.insert-in-Split.ensures.adds)

pub returns-in-End-clause-adds : goal.returns-in-End-clause-adds
returns-in-End-clause-adds c =
    let at = slice_get_read c.args.nodes.now (length c.args.nodes.now) c.args.from _ refl c.if-from-nodes.false c.index-nodes-from.is ∙ ap (λ (n : Node). Some n) c.in-End.is in
    room_none (node_room c.args.set.now) (Splits c.args.nodes.now c.args.from) (nodes_of c.args.set.now) (end_splits c.args.nodes.now c.args.from (nodes_of c.args.set.now) at)
