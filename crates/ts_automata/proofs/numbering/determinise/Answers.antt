use Rattle.std.proofs.Common.{◌≡◌, ◌≤◌, ◌<◌, ℕ, length, arith, List}
use Rattle.std.specs.Global.{Vec}
use Rattle.std.proofs.lemmas.List.{length-map}
use Rattle.ts_automata.specs.Sets.{sets_of}
use Rattle.ts_automata.proofs.SetLemmas.{collecting_more, collected, map_push}
use Rattle.ts_automata.proofs.numbering.determinise.Goals as goal

size : (vs : List (Vec ℕ)) → length (sets_of vs) ≡ length vs
size vs = length-map vs (λ (v : Vec ℕ). v.items)

pub returns : goal.returns
returns c =
    let past : length (sets_of c.loop-next.sets.keys) ≤ c.loop-next.next = omega (arith, size c.loop-next.sets.keys, c.len.ensures.len) in
    collected c.args.nodes.now _ c.args.bounds.now _ _ _ c.loop-next.next past c.loop-next.invariant

pub loop-next-preserved : goal.loop-next-preserved
loop-next-preserved c =
    let below : c.loop-next.next < length (sets_of c.loop-next.sets.keys) = omega (arith, size c.loop-next.sets.keys, c.len.ensures.len) in
    rw (c.in_ok-push.ensures.items, map_push c.loop-next.rows.items c.in_ok-one.one)
    (collecting_more c.args.nodes.now (sets_of c.args.kernels.now) c.args.bounds.now c.in_ok-first_sets.first_sets.items _ _ _ c.loop-next.next c.in_ok-one.one.items below
    c.in_ok-one.ensures.grows c.in_ok-one.ensures.row c.loop-next.invariant)
