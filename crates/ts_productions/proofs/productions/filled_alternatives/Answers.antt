use Rattle.std.proofs.Common.{◌≡◌, ◌∙◌, sym, ap, subst}
use Rattle.ts_rules.specs.Alternatives.{Alternatives, alternatives_of}
use Rattle.ts_rules.specs.declared.tree.Around.{Around}
use Rattle.ts_rules.specs.Numbers.{outermost}
use Rattle.ts_rules.specs.Productions.{filled}
use Rattle.ts_productions.specs.Roots.{whole}
use Rattle.ts_productions.specs.Thin.{IsThin}
use Rattle.ts_productions.proofs.ThinLemmas.{thin_filled, filled_same}
use Rattle.ts_productions.proofs.productions.filled_alternatives.Goals as goal

pub returns : goal.returns
returns c =
    let all : c.in_ok-all.all ≡ whole c.in_ok-small.small = c.in_ok-all.ensures ∙ ap (λ (a : Around). alternatives_of c.in_ok-small.small a) c.nothing_round.ensures in
    subst (λ (xs : Alternatives). IsThin (filled (whole c.args.content.now)) xs) (sym (c.in_ok-found.ensures ∙ filled_same c.in_ok-all.all ∙ ap filled all))
    (thin_filled (whole c.args.content.now) (whole c.in_ok-small.small) (c.in_ok-small.ensures outermost))
