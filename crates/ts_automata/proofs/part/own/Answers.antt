use Rattle.std.proofs.Common.{◌≡◌, length, arith}
use Rattle.ts_automata.proofs.PartLemmas.{fills_none, fills_more, fills_by}
use Rattle.ts_automata.proofs.part.own.Goals as goal

pub loop-node-init : goal.loop-node-init
loop-node-init c =
    let e : c.len-node.result ≡ length c.args.owners.now.items = omega (arith, c.args.owners.now.ok.0, c.len-node.ensures) in
    record { low = omega arith; fills = fills_none _ _ _ e }

pub loop-node-preserved : goal.loop-node-preserved
loop-node-preserved c =
    let inv = c.loop-node.invariant in
    rw c.in_ok-push.ensures.items (record { low = omega (arith, inv.low); fills = fills_more _ _ _ _ inv.low inv.fills })

pub returns : goal.returns
returns c le =
    let inv = c.loop-node.invariant in
    let e : c.loop-node._node ≡ c.args.count = omega (arith, c.args.owners.now.ok.0, c.len-node.ensures) in
    fills_by _ _ _ _ _ e inv.fills
