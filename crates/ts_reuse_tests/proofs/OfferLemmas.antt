-- What may be offered to a parser.
use Rattle.std.proofs.Common.{◌≡◌, sym, subst, ℕ, ◌<◌, true, slice_get, Some}
use Rattle.ts_core.specs.declared.flat.FlatGrammar.{FlatGrammar}
use Rattle.spec_trees.specs.declared.tree.Tree.{Tree}
use Rattle.spec_trees.specs.Trees.{children_of, is_settled, span_of}
use Rattle.ts_steps.specs.Good.{EachTree}
use Rattle.ts_steps.specs.Heads.{IsOwnWithin}
use Rattle.ts_steps.specs.Reparsing.{IsOffered}
use Rattle.ts_steps.proofs.OwnLemmas.{each_at}

-- what is offered is the one node
pub given : (node t : Tree) → Some node ≡ Some t → t ≡ node
given node t is =
    let same : node ≡ t = cc in
    sym same

-- one that is another by its name alone
pub same : (g : FlatGrammar) (node t : Tree) → t ≡ node → IsOffered g node → IsOffered g t
same g node t is may = subst (λ (u : Tree). IsOffered g u) (sym is) may

-- a child that is settled and has bytes, of a root whose children a parser made
pub child_offered : (g : FlatGrammar) (root t : Tree) (k : ℕ) → EachTree (IsOwnWithin g) (children_of root) → slice_get (children_of root) k ≡ Some t
    → (is_settled t ≡ true) × (0 < span_of t) → IsOffered g t
child_offered g root t k each at fit = record {
  settled = fit.0;
  own = each_at (IsOwnWithin g) (children_of root) k t each at;
  some = fit.1;
}
