use Rattle.std.proofs.Common.{arith}
use Rattle.std.proofs.lemmas.Result.{IfOk-weaker}
use Rattle.ts_pattern.proofs.ClassLemmas.{plain_sight}
use Rattle.ts_pattern.proofs.sign.sign_at.Goals as goal

pub returns-clause-value : goal.returns-clause-value
returns-clause-value c =
    IfOk-weaker c.plain.result _ _ (λ s e. plain_sight c.args.text.now c.args.at s (λ h. omega (arith, c.peek.ensures.value, h)) c.requires e) c.plain.ensures.value
