use Rattle.spec_lexing.specs.Words.{regular_of}
use Rattle.ts_automata.proofs.PartLemmas.{gains_none, gains_more}
use Rattle.ts_automata.proofs.automaton.add_separators.Goals as goal

pub loop-separator-init : goal.loop-separator-init
loop-separator-init c = gains_none c.args.automaton.now

pub loop-separator-preserved : goal.loop-separator-preserved
loop-separator-preserved c =
    gains_more regular_of c.args.separators.now c.loop-separator.separator-index c.separator-item.result c.args.automaton.now c.loop-separator.automaton c.add_part.new.automaton
    c.loop-separator-test.true c.separator-item.is c.loop-separator.invariant c.in_ok-add_part.ensures
