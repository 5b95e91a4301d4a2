-- The node of a reduction over good trees is a good tree.
use Rattle.std.proofs.Common.{◌≡◌, ◌∙◌, sym, ap, refl, subst, ℕ, suc, ◌+◌, ◌-◌, ◌*◌, ◌<◌, ◌≤◌, max, Bool, true, false, true≢false, ◌&&◌, if◌then◌else◌, List, [], ◌∷◌, ◌++◌, length, length-append, map, reverse, Option, Some, None, unwrap_or, option_map, All, arith}
use Rattle.std.proofs.Math.Nat.{mul-le-mul_right, mul-add, suc-mul, le-max_left, le-max_right}
use Rattle.std.specs.List.{list_all}
use Rattle.std.proofs.lemmas.List.{reverse-append}
use Rattle.std.proofs.lemmas.List.Elements.{All-cons, All-nil}
use lib.IntN.{ℤ, ◌+ℤ◌}
use Rattle.ts_core.specs.declared.flat.FlatGrammar.{FlatGrammar}
use Rattle.ts_core.specs.declared.flat.Production.{Production}
use Rattle.spec_grammar.specs.Symbols.{production_at, is_repetition, alternative_count, first_production}
use Rattle.spec_tables.specs.Fit.{Fit}
use Rattle.spec_trees.specs.declared.tree.Tree.{Tree}
use Rattle.spec_trees.specs.declared.tree.Element.{Element}
use Rattle.spec_trees.specs.declared.tree.Tree.TheOpen.{Tree-F}
use Rattle.spec_trees.specs.declared.tree.Tree.TheFolds.{fold-Tree, fold-roll-Tree, fold_out-Tree}
use Rattle.spec_trees.specs.Trees.{symbol_of, elements_of, children_of, is_settled, total_of, all_totals, span_of, all_spans, first_pad, node_count, nodes_step, all_nodes, tree_depth, greatest_depth}
use Rattle.spec_trees.specs.Made.{IsNode, node_over, element, made_by, reduced, Form, of_rule, of_first, of_next, form_of, repetition_form, left_of, value_of, filling, step_symbols, BeginsFilled, Lengthens, FitsProduction, EndBy, most_span, most_depth, node_limit}
use Rattle.spec_trees.specs.Choice.{IsInForm, form_step, has_form}
use Rattle.spec_trees.specs.Reducible.{HasSmallValue}
use Rattle.ts_node.specs.Falls.{all_nodes-append}
use Rattle.ts_node.specs.Standing.{depth_by, CanBeReduced}
use Rattle.ts_reductions.specs.Laws.{ReductionLaws, NodeLaws}
use Rattle.ts_reductions.specs.Good.{IsGoodTree, AreGoodTrees}
use Rattle.ts_reductions.proofs.SmallLemmas.{filling_tree}

-- The children are the steps of the production, good trees, few, and so many bytes were examined
-- that they are past all of them and past what each of them examined.
pub record CanReduce (g : FlatGrammar) (number left : ℕ) (p : Production) (extent : ℕ) (children : List Tree) : Type 0 where
  pub fit : Fit g
  pub at : production_at g number ≡ Some (left, p)
  pub value : HasSmallValue g number
  pub good : AreGoodTrees g children
  pub filled : filling children ≡ step_symbols p
  pub begins : BeginsFilled children
  pub ends : BeginsFilled (reverse children)
  pub short : all_spans children ≤ most_span
  pub past : all_spans children < extent
  pub covers : EndBy extent 0 children

-- ---- each of some good trees

nodes_each : (g : FlatGrammar) (ks : List Tree) → AreGoodTrees g ks → All IsNode ks
nodes_each g [] a = All-nil IsNode
nodes_each g (k ∷ ks) a = All-cons IsNode k ks a.0.node (nodes_each g ks a.1)

settled_each : (g : FlatGrammar) (ks : List Tree) → AreGoodTrees g ks → All (λ child. is_settled child ≡ true) ks
settled_each g [] a = All-nil (λ child. is_settled child ≡ true)
settled_each g (k ∷ ks) a = All-cons (λ child. is_settled child ≡ true) k ks a.0.settled (settled_each g ks a.1)

form_each : (g : FlatGrammar) (ks : List Tree) → AreGoodTrees g ks → All (IsInForm g) ks
form_each g [] a = All-nil (IsInForm g)
form_each g (k ∷ ks) a = All-cons (IsInForm g) k ks a.0.form (form_each g ks a.1)

deep_each : (g : FlatGrammar) (ks : List Tree) → AreGoodTrees g ks → greatest_depth ks ≤ most_depth
deep_each g [] a = omega arith
deep_each g (k ∷ ks) a = omega (arith, a.0.node.sized.shallow, deep_each g ks a.1)

small_both : (d e s r n m : ℕ) → n ≤ 2 * (d * s) → m ≤ 2 * (e * r) → n + m ≤ 2 * (max d e * (s + r))
small_both d e s r n m a b =
    let x : d * s ≤ max d e * s = mul-le-mul_right s (le-max_left d e) in
    let y : e * r ≤ max d e * r = mul-le-mul_right r (le-max_right d e) in
    let z : max d e * (s + r) ≡ max d e * s + max d e * r = mul-add (max d e) s r in
    omega (arith, a, b, x, y, z)

few_each : (g : FlatGrammar) (ks : List Tree) → AreGoodTrees g ks → all_nodes ks ≤ 2 * (greatest_depth ks * all_spans ks)
few_each g [] a = omega arith
few_each g (k ∷ ks) a = small_both (tree_depth k) (greatest_depth ks) (span_of k) (all_spans ks) (node_count k) (all_nodes ks) a.0.few (few_each g ks a.1)

few_enough : (d s n : ℕ) → d ≤ most_depth → s ≤ most_span → n ≤ 2 * (d * s) → 2 + n < node_limit
few_enough d s n shallow short small =
    let x : d * s ≤ 1000 * s = mul-le-mul_right s shallow in
    omega (arith, x, short, small)

-- ---- forms

both_true : (p q : Bool) → (p && q) ≡ true → (p ≡ true) × (q ≡ true)
both_true true true e = (refl, refl)
both_true true false e = cc
both_true false q e = cc

own_form : (g : FlatGrammar) (t : Tree) → IsInForm g t → has_form (is_repetition g (symbol_of t)) (elements_of t) ≡ true
own_form g t h = (both_true (has_form (is_repetition g (symbol_of t)) (elements_of t)) (list_all (λ inner. inner) (map (fold-Tree Bool (form_step g)) (children_of t))) (sym (fold_out-Tree Bool (form_step g) t) ∙ h)).0

some_form : (kind : Bool) (es : List Element) → kind ≡ true → has_form kind es ≡ true → 0 < length es
some_form true [] k h = absurd (true≢false (sym h))
some_form false [] k h = absurd (true≢false (sym k))
some_form kind (e ∷ es) k h = omega arith

rep_of : (rep : Bool) (count place : ℕ) (f : Form) → (if rep then repetition_form count place else of_rule) ≡ f → (f ≡ of_rule → ⊥) → rep ≡ true
rep_of true count place f e h = refl
rep_of false count place f e h = absurd (h (sym e))

-- ---- how many nodes

abbrev over_layer : ℕ → Option ℕ → ℤ → ℕ → Option ℕ → List Element → List Tree → Tree-F Tree
over_layer symbol production dynamic extent state es ks = record {
  symbol = record { 0 = symbol };
  production = production;
  pad = first_pad ks;
  size = all_spans ks - first_pad ks;
  dynamic = dynamic;
  extent = extent;
  state = state;
  settled = true;
  extra = false;
  elements = es;
  children = ks;
}

over_count : (symbol : ℕ) (production : Option ℕ) (dynamic : ℤ) (extent : ℕ) (state : Option ℕ) (es : List Element) (ks : List Tree) → node_count (node_over symbol production dynamic extent state es ks) ≡ 1 + (length es + all_nodes ks)
over_count symbol production dynamic extent state es ks = fold-roll-Tree ℕ nodes_step (over_layer symbol production dynamic extent state es ks)

one_times : (d s : ℕ) → (1 + d) * s ≡ d * s + s
one_times d s = let n : 1 + d ≡ suc d = omega arith in ap (λ (m : ℕ). m * s) n ∙ suc-mul d s

one_more : (n a d s : ℕ) → n ≤ 2 + a → a ≤ 2 * (d * s) → 0 < s → n ≤ 2 * ((1 + d) * s)
one_more n a d s count small some_bytes = let x : (1 + d) * s ≡ d * s + s = one_times d s in omega (arith, count, small, some_bytes, x)

longer : (n b a d e s r : ℕ) → n ≡ 1 + (b + a) → b ≤ 2 * (d * s) → a ≤ 2 * (e * r) → 0 < r → n ≤ 2 * (max d (1 + e) * (s + r))
longer n b a d e s r count before more some_bytes =
    let x : d * s ≤ max d (1 + e) * s = mul-le-mul_right s (le-max_left d (1 + e)) in
    let y : (1 + e) * r ≤ max d (1 + e) * r = mul-le-mul_right r (le-max_right d (1 + e)) in
    let z : max d (1 + e) * (s + r) ≡ max d (1 + e) * s + max d (1 + e) * r = mul-add (max d (1 + e)) s r in
    let u : (1 + e) * r ≡ e * r + r = one_times e r in
    omega (arith, count, before, more, some_bytes, x, y, z, u)

-- what a node of this form over the children has
made_few : (g : FlatGrammar) (f : Form) (left number : ℕ) (value : ℤ) (extent : ℕ) (state : Option ℕ) (ks : List Tree) → Lengthens f ks → AreGoodTrees g ks → 0 < all_spans ks → ((a : ℕ) (before : Tree) (more : List Tree) → f ≡ of_next a → ks ≡ before ∷ more → 0 < all_spans more)
    → node_count (made_by f left number value extent state ks) ≤ 2 * (depth_by f ks * all_spans ks)
made_few g of_rule left number value extent state ks l good some_bytes more_bytes =
    let n = over_count left (Some number) (value +ℤ all_totals ks) extent state [] ks in
    one_more (node_count (made_by of_rule left number value extent state ks)) (all_nodes ks) (greatest_depth ks) (all_spans ks) (omega (arith, n)) (few_each g ks good) some_bytes
made_few g (of_first a) left number value extent state ks l good some_bytes more_bytes =
    let n = over_count left None (value +ℤ all_totals ks) extent state (element a (length ks) value extent ∷ []) ks in
    one_more (node_count (made_by (of_first a) left number value extent state ks)) (all_nodes ks) (greatest_depth ks) (all_spans ks) (omega (arith, n)) (few_each g ks good) some_bytes
made_few g (of_next a) left number value extent state [] l good some_bytes more_bytes = absurd l
made_few g (of_next a) left number value extent state (k ∷ ks) l good some_bytes more_bytes =
    let n = over_count left None (value +ℤ (total_of k +ℤ all_totals ks)) extent state (elements_of k ++ element a (length ks) value (extent - span_of k) ∷ []) (children_of k ++ ks) in
    let own : node_count k ≡ 1 + (length (elements_of k) + all_nodes (children_of k)) = fold_out-Tree ℕ nodes_step k in
    let es = length-append (elements_of k) (element a (length ks) value (extent - span_of k) ∷ []) in
    let cs = all_nodes-append (children_of k) ks in
    let count : node_count (made_by (of_next a) left number value extent state (k ∷ ks)) ≡ 1 + (node_count k + all_nodes ks) = omega (arith, n, own, es, cs) in
    longer (node_count (made_by (of_next a) left number value extent state (k ∷ ks))) (node_count k) (all_nodes ks) (tree_depth k) (greatest_depth ks) (span_of k) (all_spans ks) count good.0.few (few_each g ks good.1) (more_bytes a k ks refl refl)

-- ---- the children of a reduction

module _ (laws : ReductionLaws) (nodes : NodeLaws) (g : FlatGrammar) (number left : ℕ) (p : Production) (extent : ℕ) (ks : List Tree) (c : CanReduce g number left p extent ks) where
  left_is : left_of g number ≡ left
  left_is = ap (λ (o : Option (ℕ × Production)). unwrap_or (option_map (λ (q : ℕ × Production). q.0) o) 0) c.at

  -- a repetition that is lengthened, and what comes after it
  before_some : (a : ℕ) (before : Tree) (more : List Tree) → form_of g left number ≡ of_next a → ks ≡ before ∷ more → 0 < length (elements_of before)
  before_some a before more e is =
      let r = laws.repeats g c.fit number left a p c.at e in
      let own : AreGoodTrees g (before ∷ more) = subst (λ (l : List Tree). AreGoodTrees g l) is c.good in
      let begins : BeginsFilled (before ∷ more) = subst BeginsFilled is c.begins in
      let read : symbol_of before ∷ filling more ≡ left ∷ r.next ∷ r.others = sym (filling_tree before more begins) ∙ ap filling (sym is) ∙ c.filled ∙ r.steps_are in
      let same : symbol_of before ≡ left = cc in
      let rep = rep_of (is_repetition g left) (alternative_count g left) (number - first_production g left) (of_next a) e (λ h. let k : of_next a ≡ of_rule = h in cc) in
      some_form (is_repetition g (symbol_of before)) (elements_of before) (ap (λ (s : ℕ). is_repetition g s) same ∙ rep) (own_form g before own.0.form)

  more_some : (a : ℕ) (before : Tree) (more : List Tree) → form_of g left number ≡ of_next a → ks ≡ before ∷ more → 0 < all_spans more
  more_some a before more e is =
      let r = laws.repeats g c.fit number left a p c.at e in
      let own : AreGoodTrees g (before ∷ more) = subst (λ (l : List Tree). AreGoodTrees g l) is c.good in
      let begins : BeginsFilled (before ∷ more) = subst BeginsFilled is c.begins in
      let read : symbol_of before ∷ filling more ≡ left ∷ r.next ∷ r.others = sym (filling_tree before more begins) ∙ ap filling (sym is) ∙ c.filled ∙ r.steps_are in
      let rest : filling more ≡ r.next ∷ r.others = cc in
      by more own.1 r.next r.others rest
    where
      by : (ts : List Tree) → AreGoodTrees g ts → (n : ℕ) (ns : List ℕ) → filling ts ≡ n ∷ ns → 0 < all_spans ts
      by [] good n ns h = absurd (let f : [] ≡ n ∷ ns = h in cc)
      by (t ∷ ts) good n ns h = let x = good.0.some in omega (arith, x)

  lengthens_by : (f : Form) (ts : List Tree) → form_of g left number ≡ f → ks ≡ ts → Lengthens f ts
  lengthens_by of_rule ts e is = tt
  lengthens_by (of_first a) ts e is = tt
  lengthens_by (of_next a) [] e is = absurd (let r = laws.repeats g c.fit number left a p c.at e in let h : [] ≡ left ∷ r.next ∷ r.others = ap filling (sym is) ∙ c.filled ∙ r.steps_are in cc)
  lengthens_by (of_next a) (k ∷ ts) e is = before_some a k ts e is

  lengthens_so : Lengthens (form_of g left number) ks
  lengthens_so = lengthens_by (form_of g left number) ks refl refl

  pub fits : FitsProduction g number ks
  fits = record {
    left = left;
    production = p;
    at = c.at;
    filled = c.filled;
    begins = c.begins;
    ends = λ before last e. subst BeginsFilled (ap (λ (l : List Tree). reverse l) e ∙ reverse-append before (last ∷ [])) c.ends;
    lengthens = lengthens_so;
  }

  module _ (shallow : tree_depth (reduced g number extent None ks) ≤ most_depth) where
    pub can : CanBeReduced g number extent None ks
    can = record {
      fits = fits;
      value = c.value;
      nodes = nodes_each g ks c.good;
      settled = settled_each g ks c.good;
      few = few_enough (greatest_depth ks) (all_spans ks) (all_nodes ks) (deep_each g ks c.good) c.short (few_each g ks c.good);
      short = c.short;
      shallow = shallow;
      past = c.past;
      covers = c.covers;
    }

    module _ (spans : span_of (reduced g number extent None ks) ≡ all_spans ks) (some_bytes : 0 < all_spans ks) where
      few_so : (l : ℕ) → l ≡ left → node_count (made_by (form_of g l number) l number (value_of g number) extent None ks) ≤ 2 * (depth_by (form_of g l number) ks * all_spans ks)
      few_so l is = made_few g (form_of g l number) l number (value_of g number) extent None ks
          (subst (λ (n : ℕ). Lengthens (form_of g n number) ks) (sym is) lengthens_so) c.good some_bytes
          (λ a before more e cut. more_some a before more (ap (λ (n : ℕ). form_of g n number) (sym is) ∙ e) cut)

      pub good_made : IsGoodTree g (reduced g number extent None ks)
      good_made =
          let m = nodes.made g number extent None ks in
          let d = nodes.depth g number extent None ks in
          let few = few_so (left_of g number) left_is in
          let deep = ap (λ (n : ℕ). n * span_of (reduced g number extent None ks)) d in
          let long = ap (λ (n : ℕ). depth_by (form_of g (left_of g number) number) ks * n) spans in
          record {
            node = nodes.node g number extent None ks can;
            settled = m.settled;
            form = nodes.form g number extent None ks fits (form_each g ks c.good);
            some = omega (arith, spans, some_bytes);
            few = omega (arith, few, deep, long);
            flat = λ h. absurd (true≢false (sym h ∙ m.plain));
          }
