use Rattle.std.proofs.Common.{subst, List, ℕ}
use Rattle.std.proofs.lemmas.List.{take_all}
use Rattle.ts_automata.proofs.MarkedLemmas.{Unmarked, unmarked_none, unmarked_all}
use Rattle.ts_automata.proofs.node_set.unmark.Goals as goal

pub loop-node-init : goal.loop-node-init
loop-node-init c = unmarked_none c.args.marks.now.items c.args.members.now

pub returns-clause-none : goal.returns-clause-none
returns-clause-none c is =
    let all = take_all _ _ c.loop-node-test.false in
    unmarked_all c.args.marks.now.items c.loop-node.marks.items c.args.members.now is
    (subst (λ (l : List ℕ). Unmarked c.args.marks.now.items c.loop-node.marks.items l) all c.loop-node.invariant)
