-- Trees that a parser made, and the nodes in them.
use Rattle.std.proofs.Common.{◌≡◌, sym, refl, subst, ℕ, zero, suc, ◌⊎◌, inl, inr, ⊎_elim, true, List, [], ◌∷◌, slice_get, Some, arith}
use Rattle.std.proofs.lemmas.Option.{slice_get_within}
use Rattle.ts_core.specs.declared.flat.FlatGrammar.{FlatGrammar}
use Rattle.spec_trees.specs.declared.tree.Tree.{Tree}
use Rattle.spec_trees.specs.Trees.{children_of, is_settled}
use Rattle.spec_trees.specs.Inside.{IsNodeIn, itself, inside}
use Rattle.ts_steps.specs.Good.{EachTree}
use Rattle.ts_steps.specs.Heads.{IsOwnTree, IsOwnWithin}

-- a node in a tree is the tree, or stands in one of its children
pub in_cases : (t u : Tree) → IsNodeIn t u → (u ≡ t) ⊎ ((k : ℕ) × (v : Tree) × (slice_get (children_of t) k ≡ Some v) × IsNodeIn v u)
in_cases t _ itself = inl refl
in_cases t _ (inside u v k deep at) = ⊎_elim
    (λ same. inr (k, v, subst (λ (x : Tree). slice_get (children_of x) k ≡ Some v) same at, itself))
    (λ w. inr (w.0, w.1, w.2, inside u v k w.3 at))
    (in_cases t u deep)

-- a node in a node in a tree is in the tree
pub in_in : (t u v : Tree) → IsNodeIn t u → IsNodeIn u v → IsNodeIn t v
in_in t u _ outer itself = outer
in_in t u _ outer (inside w v k deep at) = inside w v k (in_in t u w outer deep) at

module _ (g : FlatGrammar) where
  pub own_over : (t : Tree) → IsOwnTree g t → ((k : ℕ) (v : Tree) → slice_get (children_of t) k ≡ Some v → IsOwnWithin g v) → IsOwnWithin g t
  own_over t own kids u deep settled = ⊎_elim
      (λ same. subst (λ (x : Tree). IsOwnTree g x) (sym same) own)
      (λ w. kids w.0 w.1 w.2 u w.3 settled)
      (in_cases t u deep)

  pub own_leaf : (t : Tree) → children_of t ≡ [] → IsOwnTree g t → IsOwnWithin g t
  own_leaf t none own = own_over t own (λ k v at. absurd (let h : slice_get [] k ≡ Some v = subst (λ (l : List Tree). slice_get l k ≡ Some v) none at in let f = slice_get_within [] k v h in omega arith))

  pub own_child : (t v : Tree) (k : ℕ) → IsOwnWithin g t → slice_get (children_of t) k ≡ Some v → IsOwnWithin g v
  own_child t v k own at u deep settled = own u (in_in t v u (inside t v k itself at) deep) settled

  pub own_self : (t : Tree) → IsOwnWithin g t → is_settled t ≡ true → IsOwnTree g t
  own_self t own settled = own t itself settled

-- each of a list is the one at its place
pub each_at : (P : Tree → Type 0) (ts : List Tree) (k : ℕ) (v : Tree) → EachTree P ts → slice_get ts k ≡ Some v → P v
each_at P [] k v each at = absurd (let f = slice_get_within [] k v at in omega arith)
each_at P (t ∷ ts) zero v each at = subst P (let h : Some t ≡ Some v = at in cc) each.0
each_at P (t ∷ ts) (suc k) v each at = each_at P ts k v each.1 at

pub each_of : (P : Tree → Type 0) (ts : List Tree) → ((k : ℕ) (v : Tree) → slice_get ts k ≡ Some v → P v) → EachTree P ts
each_of P [] h = tt
each_of P (t ∷ ts) h = (h 0 t refl, each_of P ts (λ k v at. h (suc k) v at))

-- the children of a tree are as it is
pub own_children : (g : FlatGrammar) (t : Tree) → IsOwnWithin g t → EachTree (IsOwnWithin g) (children_of t)
own_children g t own = each_of (IsOwnWithin g) (children_of t) (λ k v at. own_child g t v k own at)
