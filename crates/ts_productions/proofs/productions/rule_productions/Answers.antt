use Rattle.std.proofs.Common.{◌≡◌, ◌∙◌, sym, ap, subst, get_or}
use Rattle.std.proofs.lemmas.Option.{slice_get-get_or}
use Rattle.ts_rules.specs.declared.tree.Around.{Around}
use Rattle.ts_rules.specs.declared.tree.Tree.{Tree}
use Rattle.ts_rules.specs.Alternatives.{Alternatives, alternatives_of}
use Rattle.ts_productions.specs.Limits.{AreInlinedProductions, EachBecomesFew}
use Rattle.ts_productions.specs.Roots.{whole}
use Rattle.ts_productions.proofs.ProductionLemmas.{rule_few, rule_is}
use Rattle.ts_productions.proofs.productions.rule_productions.Goals as goal

pub productions_of-requires-clause-few : goal.productions_of-requires-clause-few
productions_of-requires-clause-few c =
    let tree : Tree = get_or c.args.sources.now.rules.now c.args.place c.index-sources-place.result in
    let all : c.as_slice.result.now ≡ whole tree = c.as_slice.ensures ∙ c.in_ok-found.ensures ∙ ap (λ (a : Around). alternatives_of tree a) c.nothing_round.ensures in
    subst (EachBecomesFew c.args.sources.now) (sym all)
    (rule_few c.args.sources.now c.requires.ordered c.requires.fits c.args.place tree (slice_get-get_or c.args.sources.now.rules.now c.args.place c.index-sources-place.result c.requires.place))

pub returns : goal.returns
returns c n x rule of there =
    let tree : Tree = get_or c.args.sources.now.rules.now c.args.place c.index-sources-place.result in
    let all : c.as_slice.result.now ≡ whole tree = c.as_slice.ensures ∙ c.in_ok-found.ensures ∙ ap (λ (a : Around). alternatives_of tree a) c.nothing_round.ensures in
    rule_is n x c.args.sources.now of c.args.place tree rule c.in_ok-productions.productions (slice_get-get_or c.args.sources.now.rules.now c.args.place c.index-sources-place.result c.requires.place) there
    (subst (λ (xs : Alternatives). AreInlinedProductions c.args.sources.now xs c.in_ok-productions.productions) all c.in_ok-productions.ensures)
