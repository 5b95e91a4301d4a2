use Rattle.std.proofs.Common.{◌≡◌, subst}
use Rattle.spec_trees.specs.declared.tree.Tree.{Tree}
use Rattle.ts_offer.specs.Answers.{IsParted, IsStretchAt}
use Rattle.ts_offer.proofs.old.OldOffers.elements_at.Goals as goal

pub returns-clause-none : goal.returns-clause-none
returns-clause-none c le t same s w p none =
    let d : c.args.self.now.tree ≡ t = cc in
    subst (λ (x : Tree). (v : IsStretchAt x c.args.place c.args.state c.args.symbol.0 s) → IsParted v.node v.from → ⊥) d (λ v q. c.elements.ensures.none le s v q none) w p
