-- The node of a reduction is a good tree.
use Rattle.std.proofs.Common.{◌≡◌, ◌∙◌, sym, ap, refl, subst, ℕ, suc, ◌+◌, ◌-◌, ◌*◌, ◌<◌, ◌≤◌, ◌^◌, ◌⊎◌, inl, inr, max, Bool, true, false, true≢false, ◌&&◌, nat_lt, if◌then◌else◌, ⊎_elim, IsTrue, is_some, List, [], ◌∷◌, ◌++◌, append_assoc, length, length-append, map, reverse, Option, Some, None, unwrap_or, option_map, All, arith}
use Rattle.std.proofs.Math.Nat.{mul-le-mul_right, mul-add, suc-mul, le-max_left, le-max_right}
use Rattle.std.specs.Int.RustNames.{unsigned_abs}
use Rattle.std.specs.List.{list_all}
use Rattle.std.proofs.lemmas.List.{reverse-append}
use Rattle.std.proofs.lemmas.List.Elements.{All-cons, All-nil, All-append}
use lib.IntN.{ℤ, pos, negsuc, ◌+ℤ◌, sub_ℕ}
use lib.Dec.{ltb}
use mathlib.Core.Bool.{cond}
use Rattle.ts_core.specs.declared.flat.FlatGrammar.{FlatGrammar}
use Rattle.ts_core.specs.declared.flat.Production.{Production}
use Rattle.ts_core.specs.declared.flat.Step.{Step}
use Rattle.spec_grammar.specs.Symbols.{start_symbol, production_at, is_repetition, alternative_count, first_production}
use Rattle.spec_tables.specs.Fit.{Fit}
use Rattle.spec_trees.specs.declared.tree.Tree.{Tree}
use Rattle.spec_trees.specs.declared.tree.Element.{Element}
use Rattle.spec_trees.specs.declared.tree.Tree.TheOpen.{Tree-F}
use Rattle.spec_trees.specs.declared.tree.Tree.TheViews.{out-roll-Tree}
use Rattle.spec_trees.specs.declared.tree.Tree.TheFolds.{fold-Tree, fold-roll-Tree, fold_out-Tree}
use Rattle.spec_trees.specs.Trees.{symbol_of, production_of, elements_of, children_of, is_settled, is_extra_node, total_of, all_totals, pad_of, size_of, span_of, node_extent, all_spans, first_pad, node_count, nodes_step, all_nodes, tree_depth, depth_step, greatest_depth}
use Rattle.spec_trees.specs.Made.{IsNode, IsSettledWell, node_over, element, made_by, reduced, Form, of_rule, of_first, of_next, form_of, repetition_form, left_of, value_of, filling, step_symbols, BeginsFilled, Lengthens, FitsProduction, EndBy, AreCounted, children_count, most_span, most_depth, node_limit}
use Rattle.spec_trees.specs.Choice.{IsInForm, form_step, has_form}
use Rattle.spec_runs.specs.Moves.{IsUnused}
use Rattle.ts_node.specs.Falls.{all_nodes-append}
use Rattle.ts_node.proofs.ElementLemmas.{children_count_append, counted_by, some_counted}
use Rattle.ts_node.proofs.ReducedLemmas.{HasElements, fit_is_node, none_has, first_has, next_has}
use Rattle.ts_steps.specs.MoveLaws.{Laws}
use Rattle.ts_steps.specs.Good.{EachTree, IsLight, IsGoodTree, AreGoodTrees, CanReduce}

-- ---- sums

pub all_spans-append : (xs ys : List Tree) → all_spans (xs ++ ys) ≡ all_spans xs + all_spans ys
all_spans-append [] ys = omega arith
all_spans-append (x ∷ xs) ys = omega (arith, all_spans-append xs ys)

pub greatest_depth-append : (xs ys : List Tree) → greatest_depth (xs ++ ys) ≡ max (greatest_depth xs) (greatest_depth ys)
greatest_depth-append [] ys = omega arith
greatest_depth-append (x ∷ xs) ys = omega (arith, greatest_depth-append xs ys)

abs_difference : (a b : ℕ) → unsigned_abs (sub_ℕ a (suc b)) ≤ a + suc b
abs_difference a b = by (ltb a (suc b))
  where
    by : (t : Bool) → unsigned_abs (cond t (negsuc (suc b - suc a)) (pos (a - suc b))) ≤ a + suc b
    by true = omega arith
    by false = omega arith

abs_sum : (a b : ℤ) → unsigned_abs (a +ℤ b) ≤ unsigned_abs a + unsigned_abs b
abs_sum (pos a) (pos b) = omega arith
abs_sum (pos a) (negsuc b) = omega (arith, abs_difference a b)
abs_sum (negsuc a) (pos b) = omega (arith, abs_difference b a)
abs_sum (negsuc a) (negsuc b) = omega arith

-- ---- a node over children

abbrev pub over_layer : ℕ → Option ℕ → ℤ → ℕ → Option ℕ → List Element → List Tree → Tree-F Tree
over_layer symbol production dynamic extent state es ks = record {
  symbol = record { 0 = symbol };
  production = production;
  pad = first_pad ks;
  size = all_spans ks - first_pad ks;
  dynamic = dynamic;
  extent = extent;
  state = state;
  settled = true;
  extra = false;
  elements = es;
  children = ks;
}

pub first_pad_within : (ks : List Tree) → first_pad ks ≤ all_spans ks
first_pad_within [] = omega arith
first_pad_within (k ∷ ks) = omega arith

-- ---- each of some trees

pub each_append : (P : Tree → Type 0) (xs ys : List Tree) → EachTree P xs → EachTree P ys → EachTree P (xs ++ ys)
each_append P [] ys a b = b
each_append P (x ∷ xs) ys a b = (a.0, each_append P xs ys a.1 b)

pub each_left : (P : Tree → Type 0) (xs ys : List Tree) → EachTree P (xs ++ ys) → EachTree P xs
each_left P [] ys a = tt
each_left P (x ∷ xs) ys a = (a.0, each_left P xs ys a.1)

pub each_right : (P : Tree → Type 0) (xs ys : List Tree) → EachTree P (xs ++ ys) → EachTree P ys
each_right P [] ys a = a
each_right P (x ∷ xs) ys a = each_right P xs ys a.1

pub each_turned : (P : Tree → Type 0) (xs : List Tree) → EachTree P xs → EachTree P (reverse xs)
each_turned P [] a = tt
each_turned P (x ∷ xs) a = subst (λ (l : List Tree). EachTree P l) (sym (reverse-append (x ∷ []) xs)) (each_append P (reverse xs) (x ∷ []) (each_turned P xs a.1) (a.0, tt))

pub each_settled : (g : FlatGrammar) (ks : List Tree) → AreGoodTrees g ks → All (λ child. is_settled child ≡ true) ks
each_settled g [] a = All-nil (λ child. is_settled child ≡ true)
each_settled g (k ∷ ks) a = All-cons (λ child. is_settled child ≡ true) k ks a.0.settled (each_settled g ks a.1)

modest_totals : (g : FlatGrammar) (ks : List Tree) → AreGoodTrees g ks → unsigned_abs (all_totals ks) ≤ 2 ^ 31 * all_nodes ks
modest_totals g [] a = omega arith
modest_totals g (k ∷ ks) a =
    let m : unsigned_abs (total_of k) ≤ 2 ^ 31 * node_count k = a.0.node.modest in
    let r : unsigned_abs (all_totals ks) ≤ 2 ^ 31 * all_nodes ks = modest_totals g ks a.1 in
    omega (arith, m, r, abs_sum (total_of k) (all_totals ks))

-- ---- what nodes examined

-- nodes that stand further to the left, before a place further to the right
pub end_by_wider : (end end' place place' : ℕ) (ks : List Tree) → end ≤ end' → place' ≤ place → EndBy end place ks → EndBy end' place' ks
end_by_wider end end' place place' [] h i e = tt
end_by_wider end end' place place' (k ∷ ks) h i e =
    (omega (arith, e.0, h, i), end_by_wider end end' (place + span_of k) (place' + span_of k) ks h (omega (arith, i)) e.1)

pub end_by_both : (end place : ℕ) (ks more : List Tree) → EndBy end place ks → EndBy end (place + all_spans ks) more → EndBy end place (ks ++ more)
end_by_both end place [] more a b = end_by_wider end end (place + 0) place more (omega arith) (omega arith) b
end_by_both end place (k ∷ ks) more a b =
    (a.0, end_by_both end (place + span_of k) ks more a.1 (end_by_wider end end (place + (span_of k + all_spans ks)) (place + span_of k + all_spans ks) more (omega arith) (omega arith) b))

-- ---- forms

abbrev pub forms : FlatGrammar → List Tree → Bool
forms g ts = list_all (λ inner. inner) (map (fold-Tree Bool (form_step g)) ts)

pub both : (p q : Bool) → p ≡ true → q ≡ true → (p && q) ≡ true
both p q a b = rw (a, b) refl

both_true : (p q : Bool) → (p && q) ≡ true → (p ≡ true) × (q ≡ true)
both_true true true e = (refl, refl)
both_true true false e = cc
both_true false q e = cc

pub forms_each : (g : FlatGrammar) (ts : List Tree) → AreGoodTrees g ts → forms g ts ≡ true
forms_each g [] a = refl
forms_each g (t ∷ ts) a = both (fold-Tree Bool (form_step g) t) (forms g ts) a.0.form (forms_each g ts a.1)

pub forms_append : (g : FlatGrammar) (xs ys : List Tree) → forms g xs ≡ true → forms g ys ≡ true → forms g (xs ++ ys) ≡ true
forms_append g [] ys a b = b
forms_append g (x ∷ xs) ys a b =
    let h = both_true (fold-Tree Bool (form_step g) x) (forms g xs) a in
    both (fold-Tree Bool (form_step g) x) (forms g (xs ++ ys)) h.0 (forms_append g xs ys h.1 b)

pub own_forms : (g : FlatGrammar) (t : Tree) → IsInForm g t → (has_form (is_repetition g (symbol_of t)) (elements_of t) ≡ true) × (forms g (children_of t) ≡ true)
own_forms g t h = both_true (has_form (is_repetition g (symbol_of t)) (elements_of t)) (forms g (children_of t)) (sym (fold_out-Tree Bool (form_step g) t) ∙ h)

pub some_form : (kind : Bool) (es : List Element) → kind ≡ true → has_form kind es ≡ true → 0 < length es
some_form true [] k h = absurd (true≢false (sym h))
some_form false [] k h = absurd (true≢false (sym k))
some_form kind (e ∷ es) k h = omega arith

pub form_of_some : (kind : Bool) (es : List Element) → kind ≡ true → 0 < length es → has_form kind es ≡ true
form_of_some kind [] k h = absurd (omega (arith, h))
form_of_some true (e ∷ es) k h = refl
form_of_some false (e ∷ es) k h = absurd (true≢false (sym k))

pub form_of_none : (kind : Bool) → kind ≡ false → has_form kind [] ≡ true
form_of_none true k = absurd (true≢false k)
form_of_none false k = refl

-- ---- few nodes

node_small : (t : Tree) → 0 < span_of t → IsLight t → node_count t ≤ 2 * (tree_depth t * span_of t)
node_small t some l = omega (arith, some, l.parts, l.nodes, fold_out-Tree ℕ nodes_step t)

small_both : (d e s r n m : ℕ) → n ≤ 2 * (d * s) → m ≤ 2 * (e * r) → n + m ≤ 2 * (max d e * (s + r))
small_both d e s r n m a b =
    let x : d * s ≤ max d e * s = mul-le-mul_right s (le-max_left d e) in
    let y : e * r ≤ max d e * r = mul-le-mul_right r (le-max_right d e) in
    let z : max d e * (s + r) ≡ max d e * s + max d e * r = mul-add (max d e) s r in
    omega (arith, a, b, x, y, z)

pub small_each : (ts : List Tree) → EachTree (λ t. (0 < span_of t) × IsLight t) ts → all_nodes ts ≤ 2 * (greatest_depth ts * all_spans ts)
small_each [] a = omega arith
small_each (t ∷ ts) a = small_both (tree_depth t) (greatest_depth ts) (span_of t) (all_spans ts) (node_count t) (all_nodes ts) (node_small t a.0.0 a.0.1) (small_each ts a.1)

pub small_append : (xs ys : List Tree) → all_nodes xs ≤ 2 * (greatest_depth xs * all_spans xs) → all_nodes ys ≤ 2 * (greatest_depth ys * all_spans ys) → all_nodes (xs ++ ys) ≤ 2 * (greatest_depth (xs ++ ys) * all_spans (xs ++ ys))
small_append xs ys a b =
    rw (all_nodes-append xs ys, greatest_depth-append xs ys, all_spans-append xs ys)
    (small_both (greatest_depth xs) (greatest_depth ys) (all_spans xs) (all_spans ys) (all_nodes xs) (all_nodes ys) a b)

-- the children of a light tree that are all of it
pub small_inside : (t : Tree) → IsLight t → all_spans (children_of t) ≡ span_of t → all_nodes (children_of t) ≤ 2 * (greatest_depth (children_of t) * all_spans (children_of t))
small_inside t l whole =
    let d : tree_depth t ≡ suc (greatest_depth (children_of t)) = omega (arith, fold_out-Tree ℕ depth_step t) in
    let p : tree_depth t * span_of t ≡ suc (greatest_depth (children_of t)) * span_of t = ap (λ (n : ℕ). n * span_of t) d in
    let q : suc (greatest_depth (children_of t)) * span_of t ≡ greatest_depth (children_of t) * span_of t + span_of t = suc-mul (greatest_depth (children_of t)) (span_of t) in
    let w : greatest_depth (children_of t) * all_spans (children_of t) ≡ greatest_depth (children_of t) * span_of t = ap (λ (n : ℕ). greatest_depth (children_of t) * n) whole in
    omega (arith, l.nodes, p, q, w)

pub few_enough : (d s n e : ℕ) → 1 + d ≤ most_depth → s ≤ most_span → n ≤ 2 * (d * s) → e ≤ s → 1 + (e + n) < node_limit
few_enough d s n e shallow short small parts =
    let x : d * s ≤ 999 * s = mul-le-mul_right s (omega (arith, shallow)) in
    omega (arith, x, short, small, parts)

-- ---- all children have bytes

pub filling_extra : (k : Tree) (ks : List Tree) → is_extra_node k ≡ true → filling (k ∷ ks) ≡ filling ks
filling_extra k ks e = rw e refl

pub filling_fills : (k : Tree) (ks : List Tree) → is_extra_node k ≡ false → filling (k ∷ ks) ≡ symbol_of k ∷ filling ks
filling_fills k ks e = rw e refl

pub each_some : (g : FlatGrammar) (number left : ℕ) (p : Production) (ks : List Tree) (done : List ℕ) → production_at g number ≡ Some (left, p) → done ++ filling ks ≡ step_symbols p → AreGoodTrees g ks → EachTree (λ t. (0 < span_of t) × IsLight t) ks
each_some g number left p [] done at names a = tt
each_some g number left p (k ∷ ks) done at names a = by (is_extra_node k) refl (each_some g number left p ks)
  where
    filled : (done ++ symbol_of k ∷ filling ks ≡ step_symbols p) → (0 < span_of k) ⊎ IsUnused g (symbol_of k) → 0 < span_of k
    filled e (inl some) = some
    filled e (inr unused) = absurd (unused number left p at done (filling ks) (sym e))

    by : (b : Bool) → is_extra_node k ≡ b → ((done : List ℕ) → production_at g number ≡ Some (left, p) → done ++ filling ks ≡ step_symbols p → AreGoodTrees g ks → EachTree (λ t. (0 < span_of t) × IsLight t) ks)
        → EachTree (λ t. (0 < span_of t) × IsLight t) (k ∷ ks)
    by true e more = ((a.0.some_extra e, a.0.light), more done at (ap (λ (l : List ℕ). done ++ l) (sym (filling_extra k ks e)) ∙ names) a.1)
    by false e more =
        let here : done ++ symbol_of k ∷ filling ks ≡ step_symbols p = ap (λ (l : List ℕ). done ++ l) (sym (filling_fills k ks e)) ∙ names in
        ((filled here a.0.some, a.0.light), more (done ++ symbol_of k ∷ []) at (append_assoc done (symbol_of k ∷ []) (filling ks) ∙ here) a.1)

-- ---- the three forms

-- what is known of a node over children before it is made
pub record Shape (g : FlatGrammar) (left extent : ℕ) (state : Option ℕ) (spans : ℕ) (t : Tree) : Type 0 where
  pub production : Option ℕ
  pub dynamic : ℤ
  pub elements : List Element
  pub children : List Tree
  pub is : t ≡ node_over left production dynamic extent state elements children
  pub same : all_spans children ≡ spans
  pub small : all_nodes children ≤ 2 * (greatest_depth children * all_spans children)
  pub parts : length elements ≤ spans
  pub form : has_form (is_repetition g left) elements ≡ true
  pub inner : forms g children ≡ true
  pub rule : left ≡ start_symbol g → IsTrue (is_some production)
  pub counted : AreCounted elements children
  pub modest : unsigned_abs dynamic ≤ 2 ^ 31 * (1 + (length elements + all_nodes children))
  pub settled : All (λ child. is_settled child ≡ true) children
  pub covers : EndBy extent 0 children
  pub has : HasElements dynamic extent elements children

pub all_start : (g : FlatGrammar) (left : ℕ) (production : Option ℕ) → is_repetition g (start_symbol g) ≡ false → is_repetition g left ≡ true → left ≡ start_symbol g → IsTrue (is_some production)
all_start g left production plain rep is = absurd (true≢false (sym rep ∙ ap (is_repetition g) is ∙ plain))

module _ (laws : Laws) (g : FlatGrammar) (number left : ℕ) (p : Production) (extent : ℕ) where
  rule_shape : (state : Option ℕ) (value : ℤ) (ks : List Tree) → unsigned_abs value ≤ 2 ^ 31 → CanReduce g number left p extent ks → is_repetition g left ≡ false → Shape g left extent state (all_spans ks) (made_by of_rule left number value extent state ks)
  rule_shape state value ks v c plain = record {
    production = Some number;
    dynamic = value +ℤ all_totals ks;
    elements = [];
    children = ks;
    is = refl;
    same = refl;
    small = small_each ks (each_some g number left p ks [] c.at c.filled c.good);
    parts = omega arith;
    form = form_of_none (is_repetition g left) plain;
    inner = forms_each g ks c.good;
    rule = λ is. refl;
    counted = tt;
    modest = omega (arith, v, abs_sum value (all_totals ks), modest_totals g ks c.good);
    settled = each_settled g ks c.good;
    covers = c.covers;
    has = none_has (value +ℤ all_totals ks) extent ks;
  }

  -- a production that is not empty has a child with bytes
  some_span : (ks : List Tree) → (p.steps ≡ [] → ⊥) → CanReduce g number left p extent ks → 0 < all_spans ks
  some_span [] some c = absurd (some (none p.steps (sym c.filled)))
    where
      none : (steps : List Step) → map (λ (step : Step). step.symbol.0) steps ≡ [] → steps ≡ []
      none [] e = refl
      none (s ∷ steps) e = absurd (let h : s.symbol.0 ∷ map (λ (step : Step). step.symbol.0) steps ≡ [] = e in cc)
  some_span (k ∷ ks) some c = let e = (each_some g number left p (k ∷ ks) [] c.at c.filled c.good).0.0 in omega (arith, e)

  -- a repetition's production is not empty
  not_empty : Fit g → production_at g number ≡ Some (left, p) → is_repetition g left ≡ true → p.steps ≡ [] → ⊥
  not_empty fit at rep none = true≢false (sym rep ∙ ap (is_repetition g) (laws.empty_start g fit number left p at none) ∙ laws.start_rule g fit)

  first_shape : (state : Option ℕ) (value : ℤ) (alternative : ℕ) (ks : List Tree) → unsigned_abs value ≤ 2 ^ 31 → CanReduce g number left p extent ks → is_repetition g left ≡ true
      → Shape g left extent state (all_spans ks) (made_by (of_first alternative) left number value extent state ks)
  first_shape state value alternative ks v c rep = record {
    production = None;
    dynamic = value +ℤ all_totals ks;
    elements = element alternative (length ks) value extent ∷ [];
    children = ks;
    is = refl;
    same = refl;
    small = small_each ks (each_some g number left p ks [] c.at c.filled c.good);
    parts = omega (arith, some_span ks (not_empty c.fit c.at rep) c);
    form = form_of_some (is_repetition g left) (element alternative (length ks) value extent ∷ []) rep (omega arith);
    inner = forms_each g ks c.good;
    rule = all_start g left None (laws.start_rule g c.fit) rep;
    counted = omega arith;
    modest = omega (arith, v, abs_sum value (all_totals ks), modest_totals g ks c.good);
    settled = each_settled g ks c.good;
    covers = c.covers;
    has = first_has value extent alternative ks c.past (each_settled g ks c.good) c.covers;
  }

  -- what a production that lengthens a repetition has of it
  pub record Before (before : Tree) (more : List Tree) : Type 0 where
    pub symbol : symbol_of before ≡ left
    pub some : 0 < length (elements_of before)
    pub bytes : 0 < all_spans more

  bytes_of : (ks : List Tree) (next : ℕ) (others : List ℕ) → filling ks ≡ next ∷ others → EachTree (λ t. (0 < span_of t) × IsLight t) ks → 0 < all_spans ks
  bytes_of [] next others e a = absurd (let h : [] ≡ next ∷ others = e in cc)
  bytes_of (k ∷ ks) next others e a = let s = a.0.0 in omega (arith, s)

  before_is : (before : Tree) (more : List Tree) (next : ℕ) (others : List ℕ) → step_symbols p ≡ left ∷ next ∷ others → is_repetition g left ≡ true → CanReduce g number left p extent (before ∷ more) → Before before more
  before_is before more next others steps rep c =
      let all : symbol_of before ∷ filling more ≡ left ∷ next ∷ others = sym (filling_fills before more c.begins) ∙ c.filled ∙ steps in
      let first : symbol_of before ≡ left = cc in
      let rest : filling more ≡ next ∷ others = cc in
      let each = each_some g number left p (before ∷ more) [] c.at c.filled c.good in
      let own = own_forms g before c.good.0.form in
      record {
        symbol = first;
        some = some_form (is_repetition g (symbol_of before)) (elements_of before) (ap (is_repetition g) first ∙ rep) own.0;
        bytes = bytes_of more next others rest each.1;
      }

  next_shape : (state : Option ℕ) (value : ℤ) (alternative : ℕ) (before : Tree) (more : List Tree) → unsigned_abs value ≤ 2 ^ 31 → CanReduce g number left p extent (before ∷ more) → is_repetition g left ≡ true → Before before more
      → Shape g left extent state (all_spans (before ∷ more)) (made_by (of_next alternative) left number value extent state (before ∷ more))
  next_shape state value alternative before more v c rep b =
      let es = elements_of before in
      let ks = children_of before in
      let last = element alternative (length more) value (extent - span_of before) ∷ [] in
      let good = c.good.0 in
      let w : IsSettledWell before = good.node.settled good.settled in
      let whole : all_spans ks ≡ span_of before = good.whole b.some in
      let n : node_count before ≡ 1 + (length es + all_nodes ks) = fold_out-Tree ℕ nodes_step before in
      let own : children_count es ≡ length ks = some_counted es ks b.some good.node.counted in
      let m : unsigned_abs (total_of before) ≤ 2 ^ 31 * node_count before = good.node.modest in
      let others : unsigned_abs (all_totals more) ≤ 2 ^ 31 * all_nodes more = modest_totals g more c.good.1 in
      let each = each_some g number left p (before ∷ more) [] c.at c.filled c.good in
      record {
        production = None;
        dynamic = value +ℤ (total_of before +ℤ all_totals more);
        elements = es ++ last;
        children = ks ++ more;
        is = refl;
        same = omega (arith, whole, all_spans-append ks more);
        small = small_append ks more (small_inside before good.light whole) (small_each more each.1);
        parts = omega (arith, good.light.parts, b.bytes, length-append es last);
        form = form_of_some (is_repetition g left) (es ++ last) rep (omega (arith, length-append es last));
        inner = forms_append g ks more (own_forms g before good.form).1 (forms_each g more c.good.1);
        rule = all_start g left None (laws.start_rule g c.fit) rep;
        counted = counted_by (es ++ last) (ks ++ more) (omega (arith, own, children_count_append es last, length-append ks more));
        modest = omega (arith, v, m, others, n, abs_sum value (total_of before +ℤ all_totals more), abs_sum (total_of before) (all_totals more), all_nodes-append ks more, length-append es last);
        settled = All-append (λ child. is_settled child ≡ true) ks more w.inner (each_settled g more c.good.1);
        covers = end_by_both extent 0 ks more
            (end_by_wider (node_extent before) extent 0 0 ks (omega (arith, c.covers.0)) (omega arith) w.covers)
            (end_by_wider extent extent (0 + span_of before) (0 + all_spans ks) more (omega arith) (omega (arith, whole)) c.covers.1);
        has = next_has value extent alternative before more good.node w b.some c.covers.0 (omega (arith, c.past)) (each_settled g more c.good.1) c.covers.1;
      }

  rep_of : (rep : Bool) (count place : ℕ) (f : Form) → (if rep then repetition_form count place else of_rule) ≡ f → (f ≡ of_rule → ⊥) → rep ≡ true
  rep_of true count place f e h = refl
  rep_of false count place f e h = absurd (h (sym e))

  made_first : (count place : ℕ) → repetition_form count place ≡ of_rule → ⊥
  made_first count place e = by (nat_lt place count) e
    where
      by : (b : Bool) → (if b then of_first place else of_next (place - count)) ≡ of_rule → ⊥
      by true h = let k : of_first place ≡ of_rule = h in cc
      by false h = let k : of_next (place - count) ≡ of_rule = h in cc

  plain_of : (rep : Bool) (count place : ℕ) → (if rep then repetition_form count place else of_rule) ≡ of_rule → rep ≡ false
  plain_of false count place e = refl
  plain_of true count place e = absurd (made_first count place e)

  shape_by : (state : Option ℕ) (f : Form) (ks : List Tree) → form_of g left number ≡ f → CanReduce g number left p extent ks → Shape g left extent state (all_spans ks) (made_by f left number (value_of g number) extent state ks)
  shape_by state of_rule ks e c = rule_shape state (value_of g number) ks c.value c (plain_of (is_repetition g left) (alternative_count g left) (number - first_production g left) e)
  shape_by state (of_first a) ks e c =
      first_shape state (value_of g number) a ks c.value c (rep_of (is_repetition g left) (alternative_count g left) (number - first_production g left) (of_first a) e (λ h. let k : of_first a ≡ of_rule = h in cc))
  shape_by state (of_next a) [] e c = absurd (let r = laws.repeats g c.fit number left a p c.at e in let h : [] ≡ left ∷ r.next ∷ r.others = c.filled ∙ r.steps_are in cc)
  shape_by state (of_next a) (before ∷ more) e c =
      let rep = rep_of (is_repetition g left) (alternative_count g left) (number - first_production g left) (of_next a) e (λ h. let k : of_next a ≡ of_rule = h in cc) in
      let r = laws.repeats g c.fit number left a p c.at e in
      next_shape state (value_of g number) a before more c.value c rep (before_is before more r.next r.others r.steps_are rep c)

  left_is : production_at g number ≡ Some (left, p) → left_of g number ≡ left
  left_is at = ap (λ (o : Option (ℕ × Production)). unwrap_or (option_map (λ (q : ℕ × Production). q.0) o) 0) at

  pub reduced_is : (state : Option ℕ) (ks : List Tree) → production_at g number ≡ Some (left, p) → reduced g number extent state ks ≡ made_by (form_of g left number) left number (value_of g number) extent state ks
  reduced_is state ks at = ap (λ (l : ℕ). made_by (form_of g l number) l number (value_of g number) extent state ks) (left_is at)

  pub reduced_shape : (state : Option ℕ) (ks : List Tree) → CanReduce g number left p extent ks → Shape g left extent state (all_spans ks) (reduced g number extent state ks)
  reduced_shape state ks c = subst (λ (t : Tree). Shape g left extent state (all_spans ks) t) (sym (reduced_is state ks c.at)) (shape_by state (form_of g left number) ks refl c)

  lengthens_by_form : (f : Form) (ks : List Tree) → form_of g left number ≡ f → CanReduce g number left p extent ks → Lengthens f ks
  lengthens_by_form of_rule ks e c = tt
  lengthens_by_form (of_first a) ks e c = tt
  lengthens_by_form (of_next a) [] e c = absurd (let r = laws.repeats g c.fit number left a p c.at e in let h : [] ≡ left ∷ r.next ∷ r.others = c.filled ∙ r.steps_are in cc)
  lengthens_by_form (of_next a) (before ∷ more) e c =
      let rep = rep_of (is_repetition g left) (alternative_count g left) (number - first_production g left) (of_next a) e (λ h. let k : of_next a ≡ of_rule = h in cc) in
      let r = laws.repeats g c.fit number left a p c.at e in
      (before_is before more r.next r.others r.steps_are rep c).some

  pub fits : (ks : List Tree) → CanReduce g number left p extent ks → FitsProduction g number ks
  fits ks c = record {
    left = left;
    production = p;
    at = c.at;
    filled = c.filled;
    begins = c.begins;
    ends = λ before last e. subst BeginsFilled (ap (λ (l : List Tree). reverse l) e ∙ reverse-append before (last ∷ [])) c.ends;
    lengthens = lengthens_by_form (form_of g left number) ks refl c;
  }

  -- the node has bytes, or is the empty start rule
  pub has_bytes : (ks : List Tree) → CanReduce g number left p extent ks → (0 < all_spans ks) ⊎ IsUnused g left
  has_bytes [] c = inr (laws.unused g c.fit number left p c.at (none p.steps (sym c.filled)))
    where
      none : (steps : List Step) → map (λ (step : Step). step.symbol.0) steps ≡ [] → steps ≡ []
      none [] e = refl
      none (s ∷ steps) e = absurd (let h : s.symbol.0 ∷ map (λ (step : Step). step.symbol.0) steps ≡ [] = e in cc)
  has_bytes (k ∷ ks) c = inl (let e = (each_some g number left p (k ∷ ks) [] c.at c.filled c.good).0.0 in omega (arith, e))

-- what a node over children says
pub record Says (left extent spans : ℕ) (t : Tree) : Type 0 where
  pub span : span_of t ≡ spans
  pub symbol : symbol_of t ≡ left
  pub extra : is_extra_node t ≡ false
  pub extent_is : node_extent t ≡ extent

module _ (g : FlatGrammar) (left extent spans : ℕ) (state : Option ℕ) where
  -- a node over such children is good
  pub good_over : (production : Option ℕ) (dynamic : ℤ) (es : List Element) (ks : List Tree) → IsNode (node_over left production dynamic extent state es ks)
      → all_spans ks ≡ spans → all_nodes ks ≤ 2 * (greatest_depth ks * all_spans ks) → length es ≤ spans → has_form (is_repetition g left) es ≡ true → forms g ks ≡ true → (left ≡ start_symbol g → IsTrue (is_some production))
      → (0 < spans) ⊎ IsUnused g left
      → IsGoodTree g (node_over left production dynamic extent state es ks) × Says left extent spans (node_over left production dynamic extent state es ks)
  good_over production dynamic es ks node same small parts form inner rule some =
      let layer = over_layer left production dynamic extent state es ks in
      let t = node_over left production dynamic extent state es ks in
      let o = out-roll-Tree layer in
      let d : tree_depth t ≡ 1 + greatest_depth ks = fold-roll-Tree ℕ depth_step layer in
      let pd : pad_of t ≡ first_pad ks = ap (λ (x : Tree-F Tree). x.pad) o in
      let z : size_of t ≡ all_spans ks - first_pad ks = ap (λ (x : Tree-F Tree). x.size) o in
      let e : node_extent t ≡ extent = ap (λ (x : Tree-F Tree). x.extent) o in
      let c : children_of t ≡ ks = ap (λ (x : Tree-F Tree). x.children) o in
      let es_is : elements_of t ≡ es = ap (λ (x : Tree-F Tree). x.elements) o in
      let y : symbol_of t ≡ left = ap (λ (x : Tree-F Tree). x.symbol.0) o in
      let pr : production_of t ≡ production = ap (λ (x : Tree-F Tree). x.production) o in
      let st : is_settled t ≡ true = ap (λ (x : Tree-F Tree). x.settled) o in
      let ex : is_extra_node t ≡ false = ap (λ (x : Tree-F Tree). x.extra) o in
      let s : span_of t ≡ spans = omega (arith, pd, z, first_pad_within ks, same) in (
        record {
          node = node;
          settled = st;
          form = fold-roll-Tree Bool (form_step g) layer ∙ both (has_form (is_repetition g left) es) (forms g ks) form inner;
          light = record {
            parts = omega (arith, s, parts, ap (λ (l : List Element). length l) es_is);
            nodes = light_by t ks (ap all_nodes c) (omega (arith, d)) (omega (arith, s, same)) small;
          };
          some = ⊎_elim (λ h. inl (omega (arith, s, h))) (λ h. inr (subst (λ (x : ℕ). IsUnused g x) (sym y) h)) some;
          some_extra = λ h. absurd (true≢false (sym h ∙ ex));
          flat_extra = λ h. absurd (true≢false (sym h ∙ ex));
          whole = λ h. ap all_spans c ∙ same ∙ sym s;
          rule = λ h. subst (λ (x : Option ℕ). IsTrue (is_some x)) (sym pr) (rule (sym y ∙ h));
        },
        record { span = s; symbol = y; extra = ex; extent_is = e },
      )
    where
      light_by : (t : Tree) (ks : List Tree) → all_nodes (children_of t) ≡ all_nodes ks → tree_depth t ≡ suc (greatest_depth ks) → span_of t ≡ all_spans ks → all_nodes ks ≤ 2 * (greatest_depth ks * all_spans ks)
          → all_nodes (children_of t) + 2 * span_of t ≤ 2 * (tree_depth t * span_of t)
      light_by t ks n d s small =
          let a : tree_depth t * span_of t ≡ suc (greatest_depth ks) * all_spans ks = ap (λ (x : ℕ). x * span_of t) d ∙ ap (λ (x : ℕ). suc (greatest_depth ks) * x) s in
          let b : suc (greatest_depth ks) * all_spans ks ≡ greatest_depth ks * all_spans ks + all_spans ks = suc-mul (greatest_depth ks) (all_spans ks) in
          omega (arith, n, s, small, a, b)

  over_good : (production : Option ℕ) (dynamic : ℤ) (es : List Element) (ks : List Tree)
      → all_spans ks ≡ spans → all_nodes ks ≤ 2 * (greatest_depth ks * all_spans ks) → length es ≤ spans → has_form (is_repetition g left) es ≡ true → forms g ks ≡ true → (left ≡ start_symbol g → IsTrue (is_some production))
      → AreCounted es ks → unsigned_abs dynamic ≤ 2 ^ 31 * (1 + (length es + all_nodes ks)) → All (λ child. is_settled child ≡ true) ks → EndBy extent 0 ks → HasElements dynamic extent es ks
      → spans ≤ most_span → spans < extent → tree_depth (node_over left production dynamic extent state es ks) ≤ most_depth → (0 < spans) ⊎ IsUnused g left
      → IsGoodTree g (node_over left production dynamic extent state es ks) × Says left extent spans (node_over left production dynamic extent state es ks)
  over_good production dynamic es ks same small parts form inner rule counted modest settled covers has short past shallow some =
      let layer = over_layer left production dynamic extent state es ks in
      let d : tree_depth (node_over left production dynamic extent state es ks) ≡ 1 + greatest_depth ks = fold-roll-Tree ℕ depth_step layer in
      let low : 1 + greatest_depth ks ≤ most_depth = omega (arith, d, shallow) in
      let count : 1 + (length es + all_nodes ks) < node_limit = few_enough (greatest_depth ks) (all_spans ks) (all_nodes ks) (length es) low (omega (arith, same, short)) small (omega (arith, same, parts)) in
      let node : IsNode (node_over left production dynamic extent state es ks) = fit_is_node left production dynamic extent state es ks (record {
        few = count;
        short = omega (arith, same, short);
        shallow = low;
        counted = counted;
        modest = modest;
        past = omega (arith, same, past);
        inner = settled;
        covers = covers;
        elements = has;
      }) in
      good_over production dynamic es ks node same small parts form inner rule some

  pub shape_good : (t : Tree) → Shape g left extent state spans t → spans ≤ most_span → spans < extent → tree_depth t ≤ most_depth → (0 < spans) ⊎ IsUnused g left → IsGoodTree g t × Says left extent spans t
  shape_good t s short past shallow some =
      let good = over_good s.production s.dynamic s.elements s.children s.same s.small s.parts s.form s.inner s.rule s.counted s.modest s.settled s.covers s.has short past
      (subst (λ (x : Tree). tree_depth x ≤ most_depth) s.is shallow) some in
      subst (λ (x : Tree). IsGoodTree g x × Says left extent spans x) (sym s.is) good

-- the node of a reduction that is not too deep
pub reduced_good : (laws : Laws) (g : FlatGrammar) (number left : ℕ) (p : Production) (extent : ℕ) (state : Option ℕ) (ks : List Tree) → CanReduce g number left p extent ks → tree_depth (reduced g number extent state ks) ≤ most_depth
    → IsGoodTree g (reduced g number extent state ks) × Says left extent (all_spans ks) (reduced g number extent state ks)
reduced_good laws g number left p extent state ks c shallow =
    shape_good g left extent (all_spans ks) state (reduced g number extent state ks) (reduced_shape laws g number left p extent state ks c) c.short c.past shallow (has_bytes laws g number left p extent ks c)
