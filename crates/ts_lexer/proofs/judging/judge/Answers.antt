use Rattle.std.proofs.Common.{List, ℕ, subst}
use Rattle.std.proofs.lemmas.List.{take_all, take_more}
use Rattle.ts_lexer.specs.Judged.{JudgesNodes}
use Rattle.ts_lexer.proofs.JudgeLemmas.{judges_none}
use Rattle.ts_lexer.proofs.judging.judge.Goals as goal

pub loop-node-init : goal.loop-node-init
loop-node-init c g valid rules view = judges_none g valid c.args.first _ _

pub loop-node-preserved : goal.loop-node-preserved
loop-node-preserved c g valid rules view =
    rw (take_more c.args.members.now c.loop-node.node-index 0 c.loop-node-test.true)
    (c.with_node-verdict.ensures g valid _ rules view (c.loop-node.invariant g valid rules view))

pub returns : goal.returns
returns c g valid rules view =
    let all = take_all _ _ c.loop-node-test.false in
    subst (λ (l : List ℕ). JudgesNodes g valid c.args.first c.args.automaton.now l c.loop-node.verdict) all (c.loop-node.invariant g valid rules view)
