use Rattle.std.proofs.Common.{◌≡◌, ◌∙◌, refl, subst, ℕ, List, ◌<◌, ◌≤◌, length, get_or}
use Rattle.std.proofs.lemmas.Option.{slice_get-get_or}
use Rattle.ts_automata.specs.Reads.{Splits}
use Rattle.ts_automata.specs.Sets.{Adds}
use Rattle.ts_automata.specs.Marked.{InRoom, Onwards}
use Rattle.ts_automata.specs.NodeSets.{node_room, nodes_of}
use Rattle.ts_automata.proofs.LeastLemmas.{closing_more, closed}
use Rattle.ts_automata.proofs.WalkLemmas.{closing_itself}
use Rattle.ts_automata.proofs.walk.close.Goals as goal

pub loop-next-init : goal.loop-next-init
loop-next-init c = record { room = refl; closing = closing_itself c.args.nodes.now (node_room c.args.set.now) (nodes_of c.args.set.now) }

pub loop-next-preserved : goal.loop-next-preserved
loop-next-preserved c =
    let inv = c.loop-next.invariant in
    let here : c.nodes.result.now ≡ nodes_of c.loop-next.set = c.nodes.ensures in
    let below : c.loop-next.next < length (nodes_of c.loop-next.set) = subst (λ (l : List ℕ). c.loop-next.next < length l) here c.loop-next-test.true in
    let read : c.nodes-in-loop-next.result.now ≡ nodes_of c.loop-next.set = c.nodes-in-loop-next.ensures in
    let from : ℕ = get_or (nodes_of c.loop-next.set) c.loop-next.next 0 in
    let adds : Adds (InRoom (node_room c.args.set.now) (Splits c.args.nodes.now from)) (nodes_of c.loop-next.set) (nodes_of c.expand.new.set) = rw (inv.room, read) at c.expand.ensures.adds in
    record {
      room = c.expand.ensures.room ∙ inv.room;
      closing = closing_more (Onwards c.args.nodes.now (node_room c.args.set.now)) (nodes_of c.args.set.now) (nodes_of c.loop-next.set) (nodes_of c.expand.new.set) c.loop-next.next from below
          (slice_get-get_or (nodes_of c.loop-next.set) c.loop-next.next 0 below) inv.closing adds;
    }

pub returns-clause-closed : goal.returns-clause-closed
returns-clause-closed c =
    let here : c.nodes.result.now ≡ nodes_of c.loop-next.set = c.nodes.ensures in
    let past : length (nodes_of c.loop-next.set) ≤ c.loop-next.next = subst (λ (l : List ℕ). length l ≤ c.loop-next.next) here c.loop-next-test.false in
    closed (Onwards c.args.nodes.now (node_room c.args.set.now)) (nodes_of c.args.set.now) (nodes_of c.loop-next.set) c.loop-next.next past c.loop-next.invariant.closing
