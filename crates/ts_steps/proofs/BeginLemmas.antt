-- Whether a node is such as a move makes.
use Rattle.std.proofs.Common.{◌≡◌, ◌∙◌, sym, ap, refl, subst, ℕ, ◌<◌, ◌≤◌, ◌⊎◌, inl, inr, Bool, true, false, true≢false, IsTrue, is_some, ◌↔◌, List, [], ◌∷◌, length, slice_get, Option, Some, None, arith}
use Rattle.std.proofs.lemmas.Bool.{cases_order}
use Rattle.ts_core.specs.declared.flat.FlatGrammar.{FlatGrammar}
use Rattle.spec_grammar.specs.Symbols.{start_symbol}
use Rattle.spec_trees.specs.declared.tree.Tree.{Tree}
use Rattle.spec_trees.specs.declared.tree.Element.{Element}
use Rattle.spec_trees.specs.Trees.{symbol_of, production_of, pad_of, elements_of, children_of, is_settled, is_extra_node, span_of, all_spans, first_pad}
use Rattle.spec_trees.specs.Made.{IsLeaf}
use Rattle.ts_node.specs.declared.kind.NodeKind.{NodeKind}
use Rattle.ts_node.specs.declared.kind.NodeKind.TheVariants.{Leaf, Rule, Repetition}
use Rattle.ts_node.specs.Kinds.{IsOfKind}
use Rattle.ts_steps.specs.Heads.{IsOwnWithin, IsMadeNode, BeginsBy, BeginsWithChild}
use Rattle.ts_steps.proofs.OwnLemmas.{own_self}

-- ---- where a node begins

none_by : (pad span : ℕ) (ks : List Tree) → length ks ≡ 0 → BeginsBy pad span ks ↔ (span ≡ 0)
none_by pad span [] e = ((λ b. b), (λ b. b))
none_by pad span (k ∷ ks) e = absurd (omega (arith, e))

some_by : (pad span : ℕ) (ks : List Tree) (k : Tree) → slice_get ks 0 ≡ Some k → BeginsBy pad span ks ↔ (pad ≡ pad_of k)
some_by pad span [] k e = absurd (let h : ◌≡◌ {A = Option Tree} None (Some k) = e in cc)
some_by pad span (x ∷ ks) k e =
    let h : ◌≡◌ {A = Option Tree} (Some x) (Some k) = e in
    let same : x ≡ k = cc in
    ((λ b. subst (λ (y : Tree). pad ≡ pad_of y) same b), (λ b. subst (λ (y : Tree). pad ≡ pad_of y) (sym same) b))

pub begins_none : (t : Tree) (b : Bool) → length (children_of t) ≡ 0 → IsTrue b ↔ (span_of t ≡ 0) → IsTrue b ↔ BeginsWithChild t
begins_none t b none k =
    let w = none_by (pad_of t) (span_of t) (children_of t) none in
    ((λ e. w.1 (k.0 e)), (λ e. k.1 (w.0 e)))

pub begins_some : (t c : Tree) (b : Bool) → slice_get (children_of t) 0 ≡ Some c → IsTrue b ↔ (pad_of t ≡ pad_of c) → IsTrue b ↔ BeginsWithChild t
begins_some t c b at k =
    let w = some_by (pad_of t) (span_of t) (children_of t) c at in
    ((λ e. w.1 (k.0 e)), (λ e. k.1 (w.0 e)))

-- ---- nodes by their kind

none_some : (es : List Element) → es ≡ [] → 0 < length es → ⊥
none_some es e h = let n : length es ≡ 0 = ap (λ (l : List Element). length l) e in omega (arith, n, h)

numberless : (kind : NodeKind) (t : Tree) → IsOfKind kind t → 0 < length (elements_of t) → production_of t ≡ None
numberless Leaf t k h = k.production
numberless (Rule number) t k h = absurd (none_some (elements_of t) k.elements h)
numberless Repetition t k h = k.production

extra_leaf : (kind : NodeKind) (t : Tree) → IsOfKind kind t → is_extra_node t ≡ true → IsLeaf t × (children_of t ≡ [])
extra_leaf Leaf t k e = (record { production = k.production; elements = k.elements }, k.children)
extra_leaf (Rule number) t k e = absurd (true≢false (sym e ∙ k.plain))
extra_leaf Repetition t k e = absurd (true≢false (sym e ∙ k.plain))

pad_by : (pad span : ℕ) (ks : List Tree) → pad ≤ span → BeginsBy pad span ks → pad ≡ first_pad ks
pad_by pad span [] le b = omega (arith, le, b)
pad_by pad span (k ∷ ks) le b = b

-- the children of a node that begins with them take all its bytes
span_by : (g : FlatGrammar) (kind : NodeKind) (t : Tree) → IsOfKind kind t → IsOwnWithin g t → is_settled t ≡ true → BeginsWithChild t → span_of t ≡ all_spans (children_of t)
span_by g Leaf t k own settled b =
    let none : length (children_of t) ≡ 0 = ap (λ (l : List Tree). length l) k.children in
    let w = (none_by (pad_of t) (span_of t) (children_of t) none).0 b in
    let z : all_spans (children_of t) ≡ 0 = ap all_spans k.children in
    omega (arith, w, z)
span_by g (Rule number) t k own settled b = (own_self g t own settled).filled (subst (λ (o : Option ℕ). IsTrue (is_some o)) (sym k.production) refl)
span_by g Repetition t k own settled b = sym ((own_self g t own settled).good.whole k.elements)

pub made_token : (g : FlatGrammar) (kind : NodeKind) (t : Tree) → IsOfKind kind t → symbol_of t < start_symbol g → IsMadeNode g t
made_token g kind t k low = record {
  numberless = numberless kind t k;
  pad = λ h. absurd (omega (arith, h, low));
  span = λ h. absurd (omega (arith, h, low));
  extra = extra_leaf kind t k;
}

made_over : (g : FlatGrammar) (kind : NodeKind) (t : Tree) → IsOfKind kind t → IsOwnWithin g t → is_settled t ≡ true → BeginsWithChild t → IsMadeNode g t
made_over g kind t k own settled b = record {
  numberless = numberless kind t k;
  pad = λ h. pad_by (pad_of t) (span_of t) (children_of t) (omega arith) b;
  span = λ h. span_by g kind t k own settled b;
  extra = extra_leaf kind t k;
}

begins_by : (pad span : ℕ) (ks : List Tree) → pad ≡ first_pad ks → span ≡ all_spans ks → BeginsBy pad span ks
begins_by pad span [] p s = s
begins_by pad span (k ∷ ks) p s = p

above : (n m : ℕ) → (n < m → ⊥) → m ≤ n
above n m none = by (cases_order n m)
  where
    by : (n ≡ m) ⊎ ((n < m) ⊎ (m < n)) → m ≤ n
    by (inl e) = omega (arith, e)
    by (inr (inl less)) = absurd (none less)
    by (inr (inr more)) = omega (arith, more)

none_true : (b : Bool) → b ≡ false → IsTrue b → ⊥
none_true b e h = true≢false (sym h ∙ e)

pub made_by_child : (g : FlatGrammar) (kind : NodeKind) (t : Tree) (token b : Bool) → IsOfKind kind t → IsOwnWithin g t → is_settled t ≡ true → token ≡ false → IsTrue token ↔ (symbol_of t < start_symbol g) → IsTrue b ↔ BeginsWithChild t → IsTrue b ↔ IsMadeNode g t
made_by_child g kind t token b k own settled plain low begins = (
  (λ e. made_over g kind t k own settled (begins.0 e)),
  (λ m.
      let h : start_symbol g ≤ symbol_of t = above (symbol_of t) (start_symbol g) (λ less. none_true token plain (low.1 less)) in
      begins.1 (begins_by (pad_of t) (span_of t) (children_of t) (m.pad h) (m.span h))),
)
