use Rattle.std.proofs.Common.{subst, refl, List, All}
use Rattle.std.proofs.lemmas.List.Elements.{All-map}
use Rattle.ts_rules.specs.Sights.{Sight, sight_of}
use Rattle.ts_normalise.specs.Texts.{HasFitText}
use Rattle.std.proofs.lemmas.Result.{err_from_is_err_and}
use Rattle.ts_normalise.proofs.CheckLemmas.{by_tokens}
use Rattle.ts_normalise.proofs.trees.check_walk.Goals as goal

pub returns-clause-tokens : goal.returns-clause-tokens
returns-clause-tokens c = c.in_ok-check_tokens.ensures.none c.args.grammar.now c.requires.walk

pub returns-in_err-check_tokens-clause-refused : goal.returns-in_err-check_tokens-clause-refused
returns-in_err-check_tokens-clause-refused c =
    let p = err_from_is_err_and c.from_residual-in_err-check_tokens.result c.from_residual-in_err-check_tokens.ensures.1 in
    rw (p.1, p.2) (by_tokens c.args.grammar.now c.in_err-check_tokens.field-0.0 c.in_ok-check_names.ensures.none (c.in_err-check_tokens.ensures.refused c.args.grammar.now c.requires.walk))

pub returns-clause-texts : goal.returns-clause-texts
returns-clause-texts c =
    subst (λ (seen : List Sight). All HasFitText seen) c.requires.walk (All-map HasFitText sight_of c.args.walk.now (c.if-not-have_fit_texts.ensures refl))
