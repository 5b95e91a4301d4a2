use Rattle.std.proofs.Common.{◌<◌, length, refl, arith}
use Rattle.std.proofs.lemmas.Option.{slice_get_past, slice_get_read}
use Rattle.ts_lexer.proofs.JudgeLemmas.{judges_same}
use Rattle.ts_lexer.proofs.judging.with_node.Goals as goal

pub returns-then-node-count : goal.returns-then-node-count
returns-then-node-count c g valid seen rules view h =
    let owners = c.args.automaton.now.owners in
    judges_same g valid c.args.first c.args.automaton.now.nodes.items owners.items seen c.args.node c.args.old
    (slice_get_past owners.items c.args.node (omega (arith, c.if-node-count.true, c.len-count.ensures, owners.ok.0))) h

pub returns : goal.returns
returns c g valid seen rules view h =
    let owners = c.args.automaton.now.owners in
    let below : c.args.node < length owners.items = omega (arith, c.if-node-count.false, c.len-count.ensures, owners.ok.0) in
    let owner = slice_get_read owners.items (length owners.items) c.args.node _ refl below c.index-part.ensures in
    let end = rw c.as_slice.ensures.value at c.is_end-ends.ensures in
    c.with_part.ensures g valid c.args.first c.args.automaton.now.nodes.items owners.items seen c.args.node rules (c.role_of-role.ensures g valid rules view) owner end h
