use Rattle.std.proofs.Common.{◌≡◌, ◌≤◌, ◌+◌, ◌^◌, ◌<◌, ℕ, drop, arith, subst}
use Rattle.spec_trees.specs.Trees.{span_of, node_extent}
use Rattle.spec_trees.specs.Made.{EndBy}
use Rattle.ts_reductions.proofs.SpanLemmas.{end_first, spans_dropped, covers_more, most_more}
use Rattle.ts_reductions.proofs.making.examined.Goals as goal

pub overflow_add-place : goal.overflow_add-place
overflow_add-place c =
    let i = c.loop-node.invariant in
    let e : EndBy c.requires.room.0 (0 + c.loop-node.place) (drop c.loop-node.node-index c.args.nodes.now) = (i.most 0 c.requires.room.0 (subst (λ (n : ℕ). EndBy c.requires.room.0 n c.args.nodes.now) (zero_first c.args.from) c.requires.room.2)).0 in
    let f : 0 + c.loop-node.place + node_extent c.node-item.result ≤ c.requires.room.0 = end_first c.requires.room.0 (0 + c.loop-node.place) c.args.nodes.now c.loop-node.node-index c.node-item.result e c.loop-node-test.true c.node-item.is in
    let low : c.requires.room.0 < 2 ^ 32 = c.requires.room.1 in
    let x = c.extent.ensures in
    let h : c.loop-node.place + c.extent.result < 2 ^ 32 = omega arith in
    record { fits = h }
  where
    zero_first : (n : ℕ) → n ≡ 0 + n
    zero_first n = omega arith

pub overflow_add-place-in-loop-node : goal.overflow_add-place-in-loop-node
overflow_add-place-in-loop-node c =
    let i = c.loop-node.invariant.place_is in
    let s = spans_dropped c.args.nodes.now c.loop-node.node-index c.node-item.result c.loop-node-test.true c.node-item.is in
    let low = c.requires.short in
    let p = c.pad.ensures in
    let z = c.size.ensures in
    let h : c.pad.result + c.size.result < 2 ^ 32 = omega arith in
    record { fits = h }

pub overflow_add-place-in-loop-node-2 : goal.overflow_add-place-in-loop-node-2
overflow_add-place-in-loop-node-2 c =
    let i = c.loop-node.invariant.place_is in
    let s = spans_dropped c.args.nodes.now c.loop-node.node-index c.node-item.result c.loop-node-test.true c.node-item.is in
    let low = c.requires.short in
    let p = c.pad.ensures in
    let z = c.size.ensures in
    let h : c.loop-node.place + (c.pad.result + c.size.result) < 2 ^ 32 = omega arith in
    record { fits = h }

pub loop-node-preserved : goal.loop-node-preserved
loop-node-preserved c =
    let i = c.loop-node.invariant in
    let s = spans_dropped c.args.nodes.now c.loop-node.node-index c.node-item.result c.loop-node-test.true c.node-item.is in
    let p = c.pad.ensures in
    let z = c.size.ensures in
    let x = c.extent.ensures in
    let m = c.max-end.ensures in
    let place : c.loop-node.place + (c.pad.result + c.size.result) ≡ c.loop-node.place + span_of c.node-item.result = omega arith in
    let place_is = i.place_is in
    let least = i.least in
    let up : c.loop-node.end ≤ c.max-end.result = omega arith in
    let reach : c.loop-node.place + node_extent c.node-item.result ≤ c.max-end.result = omega arith in
    record {
      place_is = omega arith;
      covers = covers_more c.args.nodes.now c.loop-node.node-index c.node-item.result c.args.from c.loop-node.place (c.loop-node.place + (c.pad.result + c.size.result)) c.loop-node.end c.max-end.result c.loop-node-test.true c.node-item.is place up reach i.covers;
      least = omega arith;
      most = most_more c.args.nodes.now c.loop-node.node-index c.node-item.result c.args.from c.loop-node.place (c.loop-node.place + (c.pad.result + c.size.result)) c.loop-node.end c.max-end.result c.args.least c.loop-node-test.true c.node-item.is place (omega arith) i.most;
    }
