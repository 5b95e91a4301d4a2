use Rattle.std.proofs.Common.{◌≡◌, ◌∙◌, sym, false, true}
use Rattle.ts_glr.proofs.turning.is_nothing.Goals as goal

pub returns-then-state-ne0-clause-some : goal.returns-then-state-ne0-clause-some
returns-then-state-ne0-clause-some g c = λ no zero nothing. absurd (c.if-state-ne0.true (c.state.ensures ∙ zero))

pub returns-clause-some : goal.returns-clause-some
returns-clause-some g c = λ no zero nothing. let f : false ≡ true = sym no ∙ c.is_of_nothing.ensures.is.1 nothing in cc
