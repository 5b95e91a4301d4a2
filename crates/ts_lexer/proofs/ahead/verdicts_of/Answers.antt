use Rattle.std.proofs.Common.{◌≡◌, arith, subst}
use Rattle.ts_automata.specs.declared.automaton.Automaton.{Automaton}
use Rattle.ts_automata.specs.Machine.{state_count}
use Rattle.ts_lexer.specs.Judged.{JudgesNodes}
use Rattle.ts_lexer.proofs.AheadLemmas.{judging_none, judging_more, judging_all}
use Rattle.ts_lexer.proofs.ahead.verdicts_of.Goals as goal

pub loop-state-init : goal.loop-state-init
loop-state-init c g valid rules view = rw c.new-row.ensures.items (judging_none g valid c.args.first c.args.machine.now)

pub loop-state-preserved : goal.loop-state-preserved
loop-state-preserved c g valid rules view = rw c.in_ok-push.ensures.items
    (judging_more g valid c.args.first c.args.machine.now c.loop-state.row.items c.loop-state.state c.judge.result c.members-members.result.now (c.loop-state.invariant g valid rules view)
    c.members-members.ensures
    (subst (λ (a : Automaton). JudgesNodes g valid c.args.first a c.members-members.result.now c.judge.result) c.automaton.ensures (c.judge.ensures g valid rules view)))

pub returns : goal.returns
returns c g valid rules view =
    let all : c.loop-state.state ≡ state_count c.args.machine.now =
    omega (arith, c.loop-state-test.false, c.loop-state.auto.state-end, c.states-state-end.ensures) in
    judging_all g valid c.args.first c.args.machine.now c.loop-state.row.items c.loop-state.state all (c.loop-state.invariant g valid rules view)
