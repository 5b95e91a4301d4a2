use Rattle.ts_normalise.proofs.FitPatternLemmas.{SpellingLaw}
use Rattle.ts_normalise.proofs.FitRefusalLemmas.{unrefused}
use Rattle.ts_normalise.proofs.FitTokenLemmas.{fit_separators, fit_tokens}
use Rattle.ts_normalise.proofs.fit_laws.forms_have_fit_tokens.Goals as goal

pub returns-clause-tokens : goal.returns-clause-tokens
returns-clause-tokens c g f file texts flat =
    let spelled = c.spellings_are_formed.ensures in
    let law : SpellingLaw = record { short = spelled.short; ranges = spelled.ranges; counts = spelled.counts } in
    fit_tokens law g f flat.normal file texts (unrefused g flat.accepted)

pub returns-clause-separators : goal.returns-clause-separators
returns-clause-separators c g f file texts flat =
    let spelled = c.spellings_are_formed.ensures in
    let law : SpellingLaw = record { short = spelled.short; ranges = spelled.ranges; counts = spelled.counts } in
    fit_separators law g f flat.normal file texts
