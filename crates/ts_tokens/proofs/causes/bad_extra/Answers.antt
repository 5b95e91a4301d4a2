use Rattle.std.proofs.Common.{◌≡◌, ◌∙◌, ap, subst, List, MatchOption}
use Rattle.ts_rules.specs.Causes.{ExtraSymbol, IsBadExtra, extra_symbols}
use Rattle.ts_rules.specs.FirstSights.{Clear}
use Rattle.ts_tokens.specs.Extras.{symbols_told, symbols_of_all, IsFirstBad}
use Rattle.ts_tokens.proofs.causes.bad_extra.Goals as goal

pub returns : goal.returns
returns c = λ names.
    let g = c.args.grammar.now in
    let same : symbols_told c.as_slice-2.result.now ≡ extra_symbols g = ap symbols_told c.as_slice-2.ensures.value ∙ c.in_ok-symbols.ensures ∙ ap symbols_of_all c.as_slice.ensures in
    subst (λ (xs : List ExtraSymbol). MatchOption c.first_bad.result (Clear (IsBadExtra g) xs) (λ name. IsFirstBad g xs name.now)) same (c.first_bad.ensures g names)
