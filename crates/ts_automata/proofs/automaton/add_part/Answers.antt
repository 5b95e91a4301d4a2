use Rattle.std.proofs.Common.{◌≡◌, length, arith}
use Rattle.ts_automata.proofs.PartLemmas.{parts_more}
use Rattle.ts_automata.proofs.automaton.add_part.Goals as goal

pub returns : goal.returns
returns c parts have =
    let e : c.len-part.result ≡ length c.args.automaton.now.entries.items = omega (arith, c.args.automaton.now.entries.ok.0, c.len-part.ensures) in
    let f : c.len-count.result ≡ length c.add_nodes.new.nodes.items = omega (arith, c.add_nodes.new.nodes.ok.0, c.len-count.ensures) in
    rw c.in_ok-push.ensures.items (parts_more _ _ _ _ _ parts _ _ _ _ e f c.in_ok-entry.ensures c.in_ok-own.ensures have)
