use Rattle.ts_core.specs.declared.flat.TokenDef.{TokenDef}
use Rattle.spec_lexing.specs.Words.{regular_of}
use Rattle.ts_automata.proofs.PartLemmas.{gains_none, gains_more}
use Rattle.ts_automata.proofs.automaton.add_tokens.Goals as goal

pub loop-token-init : goal.loop-token-init
loop-token-init c = gains_none c.args.automaton.now

pub loop-token-preserved : goal.loop-token-preserved
loop-token-preserved c =
    gains_more (λ (token : TokenDef). regular_of token.re) c.args.tokens.now c.loop-token.token-index c.token-item.result c.args.automaton.now c.loop-token.automaton c.add_part.new.automaton
    c.loop-token-test.true c.token-item.is c.loop-token.invariant c.in_ok-add_part.ensures
