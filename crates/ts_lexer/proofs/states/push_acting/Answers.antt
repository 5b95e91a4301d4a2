use Rattle.std.proofs.Common.{◌∙◌, sym}
use Rattle.std.proofs.lemmas.Bool.{false≢true}
use Rattle.ts_lexer.proofs.StateLemmas.{gains_push, gains_none}
use Rattle.ts_lexer.proofs.states.push_acting.Goals as goal

pub returns-then-not-acts : goal.returns-then-not-acts
returns-then-not-acts c = gains_none c.args.table.now c.args.state c.args.token _ (λ h. false≢true (sym c.if-not-acts.true ∙ c.acts.ensures.1 h))

pub returns : goal.returns
returns c = rw c.in_ok-push.ensures.items (gains_push c.args.table.now c.args.state c.args.token _ (c.acts.ensures.0 c.if-not-acts.false))
