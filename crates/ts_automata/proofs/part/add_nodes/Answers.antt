use Rattle.std.proofs.Common.{◌≡◌, length, arith}
use Rattle.ts_automata.proofs.PartLemmas.{has_part}
use Rattle.ts_automata.proofs.part.add_nodes.Goals as goal

pub returns : goal.returns
returns c =
    let e : c.len-end.result ≡ length c.args.nodes.now.items = omega (arith, c.args.nodes.now.ok.0, c.len-end.ensures) in
    has_part _ _ _ _ _ _ e c.in_ok-push.ensures.items c.in_ok-entry.ensures
