use Rattle.std.proofs.Common.{◌≡◌, ◌∙◌, ◌+◌, ◌++◌, ◌≤◌, ap, sym, subst, refl, arith, List, [], ◌∷◌, None, vec_capacity}
use Rattle.spec_trees.specs.Trees.{tree_depth}
use Rattle.ts_offer.specs.declared.way.Turn.{Turn}
use Rattle.ts_offer.specs.Ways.{IsOn}
use Rattle.ts_offer.proofs.WayLemmas.{first_way}
use Rattle.ts_offer.proofs.way.Way.new.Goals as goal

pub returns-clause-way : goal.returns-clause-way
returns-clause-way c =
    let t : Turn = record { node = c.args.root; begins = None; next = 0; place = c.lead.result } in
    let i : c.push.new.self.items ≡ t ∷ [] = c.in_ok-push.ensures.items ∙ ap (λ (xs : List Turn). xs ++ t ∷ []) c.in_ok-turns.ensures.items in
    let k : 1 + tree_depth c.args.root.now ≤ vec_capacity c.push.new.self = omega (arith, c.in_ok-push.ensures.capacity, c.in_ok-turns.ensures.capacity, c.depth.ensures) in
    subst (λ (xs : List Turn). IsOn c.args.root.now (vec_capacity c.push.new.self) xs 0) (sym i)
    (first_way c.args.root.now (vec_capacity c.push.new.self) t c.nodes.ensures.whole k refl refl refl c.lead.ensures)
