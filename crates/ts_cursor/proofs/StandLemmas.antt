-- Nodes that a parser makes stand over their children.
use Rattle.std.proofs.Common.{◌≡◌, ℕ, suc, ◌+◌, ◌-◌, ◌≤◌, ◌⊎◌, inl, inr, sym, ap, ◌∙◌, refl, subst, arith, List, [], ◌∷◌, ◌++◌, length, slice_get, Option, Some}
use Rattle.std.proofs.lemmas.Bool.{cases_lt}
use Rattle.std.proofs.lemmas.Option.{slice_get_within}
use lib.IntN.{ℤ}
use Rattle.ts_base.proofs.PlaceLemmas.{in_prefix}
use Rattle.ts_core.specs.declared.flat.FlatGrammar.{FlatGrammar}
use Rattle.spec_trees.specs.declared.tree.Tree.{Tree}
use Rattle.spec_trees.specs.declared.tree.Tree.TheOpen.{Tree-F}
use Rattle.spec_trees.specs.declared.tree.Tree.TheViews.{out-roll-Tree}
use Rattle.spec_trees.specs.declared.tree.Element.{Element}
use Rattle.spec_trees.specs.Trees.{pad_of, size_of, span_of, children_of, all_spans, first_pad}
use Rattle.spec_trees.specs.Made.{leaf_of, as_extra, node_over, Form, of_rule, of_first, of_next, made_by, reduced, accepted, form_of, left_of, value_of}
use Rattle.spec_trees.specs.Inside.{IsNodeIn, itself, inside, SpansOver, StandsOver, StandOver, StandAll}

-- ---- one node

first_le : (ts : List Tree) → first_pad ts ≤ all_spans ts
first_le [] = omega arith
first_le (t ∷ ts) = omega arith

over_self : (ts : List Tree) → SpansOver (first_pad ts) (all_spans ts) ts
over_self [] = tt
over_self (t ∷ ts) = (refl, omega arith)

children_over : (symbol : ℕ) (production : Option ℕ) (dynamic : ℤ) (extent : ℕ) (state : Option ℕ) (es : List Element) (ts : List Tree) → children_of (node_over symbol production dynamic extent state es ts) ≡ ts
children_over symbol production dynamic extent state es ts = ap (λ (o : Tree-F Tree). o.children) (out-roll-Tree _)

stands : (symbol : ℕ) (production : Option ℕ) (dynamic : ℤ) (extent : ℕ) (state : Option ℕ) (es : List Element) (ts : List Tree) → StandsOver (node_over symbol production dynamic extent state es ts)
stands symbol production dynamic extent state es ts =
    let t : Tree = node_over symbol production dynamic extent state es ts in
    let p : pad_of t ≡ first_pad ts = ap (λ (o : Tree-F Tree). o.pad) (out-roll-Tree _) in
    let z : size_of t ≡ all_spans ts - first_pad ts = ap (λ (o : Tree-F Tree). o.size) (out-roll-Tree _) in
    let s : span_of t ≡ all_spans ts = omega (arith, p, z, first_le ts) in
    let c : children_of t ≡ ts = children_over symbol production dynamic extent state es ts in
    subst (λ (k : ℕ). SpansOver k (span_of t) (children_of t)) (sym p)
    (subst (λ (k : ℕ). SpansOver (first_pad ts) k (children_of t)) (sym s)
    (subst (λ (us : List Tree). SpansOver (first_pad ts) (all_spans ts) us) (sym c) (over_self ts)))

-- ---- whole trees

-- a node in a tree is its own, or one in a child
record InChild (t u : Tree) : Type 0 where
  number : ℕ
  child : Tree
  at : slice_get (children_of t) number ≡ Some child
  within : IsNodeIn child u

split : (t u : Tree) → IsNodeIn t u → (u ≡ t) ⊎ InChild t u
split t u itself = inl refl
split t u (inside v w k i e) = elim (split t v i) [
  | inl same ↦ inr (record { number = k; child = u; at = subst (λ (x : Tree). slice_get (children_of x) k ≡ Some u) same e; within = itself })
  | inr c ↦ inr (record { number = c.number; child = c.child; at = c.at; within = inside v u k c.within e })
]

stand : (t : Tree) → StandsOver t → StandAll (children_of t) → StandOver t
stand t over all u i = elim (split t u i) [
  | inl same ↦ subst (λ (x : Tree). StandsOver x) (sym same) over
  | inr c ↦ all c.number c.child c.at u c.within
]

below : (t : Tree) → StandOver t → StandAll (children_of t)
below t over k c e u i = over u (lift u i)
  where
    lift : (v : Tree) → IsNodeIn c v → IsNodeIn t v
    lift v itself = inside t c k itself e
    lift v (inside x w j m at) = inside x w j (lift x m) at

get_right : (xs ys : List Tree) (k : ℕ) → slice_get (xs ++ ys) (length xs + k) ≡ slice_get ys k
get_right [] ys k = let n : 0 + k ≡ k = omega arith in ap (slice_get ys) n
get_right (x ∷ xs) ys k = let n : length (x ∷ xs) + k ≡ suc (length xs + k) = omega arith in ap (slice_get (x ∷ (xs ++ ys))) n ∙ get_right xs ys k

all_append : (xs ys : List Tree) → StandAll xs → StandAll ys → StandAll (xs ++ ys)
all_append xs ys f g k c e = elim (cases_lt k (length xs)) [
  | inl h ↦ f k c (sym (in_prefix xs ys k h) ∙ e)
  | inr h ↦ (let d : length xs + (k - length xs) ≡ k = omega (arith, h) in g (k - length xs) c (sym (get_right xs ys (k - length xs)) ∙ ap (slice_get (xs ++ ys)) d ∙ e))
]

over_all : (symbol : ℕ) (production : Option ℕ) (dynamic : ℤ) (extent : ℕ) (state : Option ℕ) (es : List Element) (ts : List Tree) → StandAll ts → StandOver (node_over symbol production dynamic extent state es ts)
over_all symbol production dynamic extent state es ts all =
    stand (node_over symbol production dynamic extent state es ts) (stands symbol production dynamic extent state es ts)
    (subst (λ (us : List Tree). StandAll us) (sym (children_over symbol production dynamic extent state es ts)) all)

none_stand : StandAll []
none_stand k c e = (let f : ⊥ = omega (arith, slice_get_within {A = Tree} [] k c e) in elim f [ ])

made_stand : (form : Form) (symbol number : ℕ) (value : ℤ) (extent : ℕ) (state : Option ℕ) (ts : List Tree) → StandAll ts → StandOver (made_by form symbol number value extent state ts)
made_stand of_rule symbol number value extent state ts all = over_all _ _ _ _ _ _ ts all
made_stand (of_first alternative) symbol number value extent state ts all = over_all _ _ _ _ _ _ ts all
made_stand (of_next alternative) symbol number value extent state [] all = over_all _ _ _ _ _ _ [] all
made_stand (of_next alternative) symbol number value extent state (t ∷ ts) all =
    over_all _ _ _ _ _ _ (children_of t ++ ts) (all_append (children_of t) ts (below t (all 0 t refl)) (λ k c e. all (suc k) c e))

pub reduced_stand : (g : FlatGrammar) (number extent : ℕ) (state : Option ℕ) (ts : List Tree) → StandAll ts → StandOver (reduced g number extent state ts)
reduced_stand g number extent state ts all = made_stand (form_of g (left_of g number) number) (left_of g number) number (value_of g number) extent state ts all

pub accepted_stand : (root : Tree) (before after : List Tree) (extent : ℕ) → StandOver root → StandAll before → StandAll after → StandOver (accepted root before after extent)
accepted_stand root before after extent over b a =
    over_all _ _ _ _ _ _ ((before ++ children_of root) ++ after) (all_append (before ++ children_of root) after (all_append before (children_of root) b (below root over)) a)

pub leaf_stand : (token pad size extent : ℕ) (state : Option ℕ) → StandOver (leaf_of token pad size extent state)
leaf_stand token pad size extent state =
    let t : Tree = leaf_of token pad size extent state in
    let c : children_of t ≡ [] = ap (λ (o : Tree-F Tree). o.children) (out-roll-Tree _) in
    stand t (subst (λ (us : List Tree). SpansOver (pad_of t) (span_of t) us) (sym c) tt) (subst (λ (us : List Tree). StandAll us) (sym c) none_stand)

pub extra_stand : (t : Tree) → StandOver t → StandOver (as_extra t)
extra_stand t over =
    let x : Tree = as_extra t in
    let p : pad_of x ≡ pad_of t = ap (λ (o : Tree-F Tree). o.pad) (out-roll-Tree _) in
    let z : size_of x ≡ size_of t = ap (λ (o : Tree-F Tree). o.size) (out-roll-Tree _) in
    let c : children_of x ≡ children_of t = ap (λ (o : Tree-F Tree). o.children) (out-roll-Tree _) in
    let s : span_of x ≡ span_of t = omega (arith, p, z) in
    stand x
    (subst (λ (k : ℕ). SpansOver k (span_of x) (children_of x)) (sym p)
    (subst (λ (k : ℕ). SpansOver (pad_of t) k (children_of x)) (sym s)
    (subst (λ (us : List Tree). SpansOver (pad_of t) (span_of t) us) (sym c) (over t itself))))
    (subst (λ (us : List Tree). StandAll us) (sym c) (below t over))
