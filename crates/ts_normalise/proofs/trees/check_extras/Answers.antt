use Rattle.std.proofs.Common.{subst, Option, MatchOption}
use Rattle.std.specs.Borrow.{Bor}
use Rattle.ts_base.specs.Bytes.{Bytes}
use Rattle.ts_rules.specs.Causes.{IsBadExtra, extra_symbols}
use Rattle.ts_rules.specs.FirstSights.{Clear}
use Rattle.ts_tokens.specs.Extras.{IsFirstBad}
use Rattle.ts_normalise.proofs.CheckLemmas.{extra_none}
use Rattle.ts_normalise.proofs.trees.check_extras.Goals as goal

pub returns-in-None-clause-none : goal.returns-in-None-clause-none
returns-in-None-clause-none c =
    let g = c.args.grammar.now in
    extra_none g
    (subst (λ (found : Option (Bor Bytes)). MatchOption found (Clear (IsBadExtra g) (extra_symbols g)) (λ name. IsFirstBad g (extra_symbols g) name.now)) c.in-None.is (c.in_ok-bad_extra.ensures c.requires.names))
