-- A stack has one root.
use Rattle.std.proofs.Common.{◌≡◌, ◌∙◌, sym, ap, refl, subst, true, false, List, [], ◌∷◌, ◌++◌, reverse}
use Rattle.std.proofs.lemmas.List.{reverse-append, reverse-reverse}
use Rattle.ts_base.specs.Bytes.{Bytes}
use Rattle.ts_core.specs.declared.flat.FlatGrammar.{FlatGrammar}
use Rattle.spec_tables.specs.Actions.{accept}
use Rattle.spec_trees.specs.declared.tree.Tree.{Tree}
use Rattle.spec_trees.specs.Trees.{is_extra_node, bare}
use Rattle.spec_trees.specs.Made.{accepted}
use Rattle.spec_runs.specs.Configurations.{Configuration, AreExtras}
use Rattle.spec_runs.specs.Runs.{CanMove, AcceptsTree}
use Rattle.ts_steps.specs.LiveHeads.{IsRootOf}

extras_append : (xs ys : List Tree) → AreExtras xs → AreExtras ys → AreExtras (xs ++ ys)
extras_append [] ys a b = b
extras_append (x ∷ xs) ys a b = (a.0, extras_append xs ys a.1 b)

extras_turned : (xs : List Tree) → AreExtras xs → AreExtras (reverse xs)
extras_turned [] a = tt
extras_turned (x ∷ xs) a = subst AreExtras (sym (reverse-append (x ∷ []) xs)) (extras_append (reverse xs) (x ∷ []) (extras_turned xs a.1) (a.0, tt))

-- where the first tree stands that is no extra
split_extras : (xs ys us vs : List Tree) (r s : Tree) → AreExtras xs → AreExtras ys → is_extra_node r ≡ false → is_extra_node s ≡ false → xs ++ r ∷ us ≡ ys ++ s ∷ vs → (xs ≡ ys) × (r ≡ s) × (us ≡ vs)
split_extras [] [] us vs r s a b f h e = (refl, (let q : r ≡ s = cc in q), (let q : us ≡ vs = cc in q))
split_extras [] (y ∷ ys) us vs r s a b f h e = absurd (let q : r ≡ y = cc in let m : is_extra_node y ≡ false = sym (ap is_extra_node q) ∙ f in let k : is_extra_node y ≡ true = b.0 in cc)
split_extras (x ∷ xs) [] us vs r s a b f h e = absurd (let q : x ≡ s = cc in let m : is_extra_node x ≡ false = ap is_extra_node q ∙ h in let k : is_extra_node x ≡ true = a.0 in cc)
split_extras (x ∷ xs) (y ∷ ys) us vs r s a b f h e =
    let q : x ≡ y = cc in
    let l : xs ++ r ∷ us ≡ ys ++ s ∷ vs = cc in
    let i = split_extras xs ys us vs r s a.1 b.1 f h l in
    let m : xs ≡ ys = i.0 in
    ((let z : x ∷ xs ≡ y ∷ ys = cc in z), i.1, i.2)

turned_back : (xs ys : List Tree) → reverse xs ≡ reverse ys → xs ≡ ys
turned_back xs ys e = sym (reverse-reverse xs) ∙ ap (λ (l : List Tree). reverse l) e ∙ reverse-reverse ys

pub one_root : (stack : List Tree) (u v : Tree) → IsRootOf stack u → IsRootOf stack v → u ≡ v
one_root stack u v a b =
    let s = split_extras (reverse a.after) (reverse b.after) (reverse a.before) (reverse b.before) a.root b.root (extras_turned a.after a.after_extras) (extras_turned b.after b.after_extras) a.root_fills b.root_fills (sym a.stack_is ∙ b.stack_is) in
    let before : a.before ≡ b.before = turned_back a.before b.before s.2 in
    let after : a.after ≡ b.after = turned_back a.after b.after s.0 in
    let root : a.root ≡ b.root = s.1 in
    a.tree_is ∙ ap (λ (x : Tree). bare (accepted x a.before a.after 0)) root ∙ ap (λ (x : List Tree). bare (accepted b.root x a.after 0)) before ∙ ap (λ (x : List Tree). bare (accepted b.root b.before x 0)) after ∙ sym b.tree_is

module _ (g : FlatGrammar) (text : Bytes) (c : Configuration) (u : Tree) where
  pub root_accepted : AcceptsTree g text c u → IsRootOf c.stack u
  root_accepted a = record {
    before = a.before;
    root = a.root;
    after = a.after;
    stack_is = a.stack_is;
    before_extras = a.before_extras;
    root_fills = a.root_fills;
    after_extras = a.after_extras;
    tree_is = a.tree_is;
  }

  pub accepts_root : CanMove g text c accept → IsRootOf c.stack u → AcceptsTree g text c u
  accepts_root move r = record {
    move = move;
    before = r.before;
    root = r.root;
    after = r.after;
    stack_is = r.stack_is;
    before_extras = r.before_extras;
    root_fills = r.root_fills;
    after_extras = r.after_extras;
    tree_is = r.tree_is;
  }
