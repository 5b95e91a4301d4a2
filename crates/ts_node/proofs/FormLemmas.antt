-- Nodes that are made by one grammar are in its form.
use Rattle.std.proofs.Common.{◌≡◌, ℕ, zero, suc, ◌-◌, ◌<◌, sym, ap, ◌∙◌, refl, subst, arith, Bool, true, false, true≢false, ◌&&◌, List, [], ◌∷◌, ◌++◌, length, map, set, Option, Some, None}
use Rattle.std.specs.Prelude.{All, nat_le, nat_lt, if◌then◌else◌, option_map, unwrap_or}
use Rattle.std.specs.List.{list_all}
use Rattle.std.proofs.lemmas.Bool.{lt-leb}
use Rattle.std.proofs.lemmas.List.Elements.{All-nil, All-cons, All-head, All-tail, All-append, All-set}
use lib.IntN.{ℤ, pos, ◌+ℤ◌}
use Rattle.ts_core.specs.declared.flat.FlatGrammar.{FlatGrammar}
use Rattle.ts_core.specs.declared.flat.FlatRule.{FlatRule}
use Rattle.ts_core.specs.declared.flat.Production.{Production}
use Rattle.spec_grammar.specs.Symbols.{start_symbol, symbol_rule, is_owned, is_repetition, alternative_count, first_production}
use Rattle.spec_trees.specs.declared.tree.Tree.{Tree}
use Rattle.spec_trees.specs.declared.tree.Element.{Element}
use Rattle.spec_trees.specs.declared.tree.Tree.TheOpen.{Tree-F}
use Rattle.spec_trees.specs.declared.tree.Tree.TheViews.{out-Tree, out-roll-Tree}
use Rattle.spec_trees.specs.declared.tree.Tree.TheFolds.{fold-Tree, fold-roll-Tree, fold_out-Tree}
use Rattle.spec_trees.specs.Trees.{symbol_of, production_of, elements_of, children_of, span_of, total_of, all_totals}
use Rattle.spec_trees.specs.Made.{leaf_of, as_extra, node_over, element, Form, of_rule, of_first, of_next, repetition_form, form_of, left_of, value_of, made_by, reduced, accepted, loosened, loosened_at, replaced, remade, FitsProduction, Lengthens}
use Rattle.spec_trees.specs.Choice.{form_step, has_form, IsInForm}
use Rattle.ts_node.specs.Standing.{IsMadeWith}
use Rattle.ts_node.proofs.ReducedLemmas.{over_layer}

-- ---- what is so of each child

pub both : (p q : Bool) → p ≡ true → q ≡ true → (p && q) ≡ true
both true q a b = b
both false q a b = cc

pub both_true : (p q : Bool) → (p && q) ≡ true → (p ≡ true) × (q ≡ true)
both_true true true e = (refl, refl)
both_true true false e = cc
both_true false q e = cc

-- whether all children are in form
abbrev all_forms : FlatGrammar → List Tree → Bool
all_forms g ts = list_all (λ (inner : Bool). inner) (map (fold-Tree Bool (form_step g)) ts)

all_in : (g : FlatGrammar) (ts : List Tree) → All (IsInForm g) ts → all_forms g ts ≡ true
all_in g [] h = refl
all_in g (t ∷ ts) h = both (fold-Tree Bool (form_step g) t) (all_forms g ts) (All-head (IsInForm g) t ts h) (all_in g ts (All-tail (IsInForm g) t ts h))

in_all : (g : FlatGrammar) (ts : List Tree) → all_forms g ts ≡ true → All (IsInForm g) ts
in_all g [] h = All-nil (IsInForm g)
in_all g (t ∷ ts) h =
    let b = both_true (fold-Tree Bool (form_step g) t) (all_forms g ts) h in
    All-cons (IsInForm g) t ts b.0 (in_all g ts b.1)

-- a tree in form by its parts
form_out : (g : FlatGrammar) (t : Tree) → IsInForm g t → (has_form (is_repetition g (symbol_of t)) (elements_of t) ≡ true) × (all_forms g (children_of t) ≡ true)
form_out g t h =
    both_true (has_form (is_repetition g (symbol_of t)) (elements_of t)) (all_forms g (children_of t)) (sym (fold_out-Tree Bool (form_step g) t) ∙ h)

pub form_children : (g : FlatGrammar) (t : Tree) → IsInForm g t → All (IsInForm g) (children_of t)
form_children g t h = in_all g (children_of t) (form_out g t h).1

-- ---- a node over children

form_over : (g : FlatGrammar) (symbol : ℕ) (production : Option ℕ) (dynamic : ℤ) (extent : ℕ) (state : Option ℕ) (es : List Element) (ks : List Tree) → has_form (is_repetition g symbol) es ≡ true → All (IsInForm g) ks → IsInForm g (node_over symbol production dynamic extent state es ks)
form_over g symbol production dynamic extent state es ks h a =
    fold-roll-Tree Bool (form_step g) (over_layer symbol production dynamic extent state es ks)
    ∙ both (has_form (is_repetition g symbol) es) (all_forms g ks) h (all_in g ks a)

-- whether nodes of this form have elements
abbrev has_elements : Form → Bool
has_elements of_rule = false
has_elements (of_first alternative) = true
has_elements (of_next alternative) = true

elements_by : (g : FlatGrammar) (symbol number : ℕ) → has_elements (form_of g symbol number) ≡ is_repetition g symbol
elements_by g symbol number = by (is_repetition g symbol)
  where
    second : (b : Bool) (place count : ℕ) → has_elements (if b then of_first place else of_next (place - count)) ≡ true
    second true place count = refl
    second false place count = refl

    by : (b : Bool) → has_elements (if b then repetition_form (alternative_count g symbol) (number - first_production g symbol) else of_rule) ≡ b
    by true = second (nat_lt (number - first_production g symbol) (alternative_count g symbol)) (number - first_production g symbol) (alternative_count g symbol)
    by false = refl

some_longer : (es : List Element) (e : Element) → has_form true (es ++ e ∷ []) ≡ true
some_longer [] e = refl
some_longer (d ∷ es) e = refl

made_form : (f : Form) (g : FlatGrammar) (symbol number : ℕ) (value : ℤ) (extent : ℕ) (state : Option ℕ) (ks : List Tree) → has_elements f ≡ is_repetition g symbol → Lengthens f ks → All (IsInForm g) ks → IsInForm g (made_by f symbol number value extent state ks)
made_form of_rule g symbol number value extent state ks e l a =
    form_over g symbol (Some number) (value +ℤ all_totals ks) extent state [] ks (subst (λ (b : Bool). has_form b [] ≡ true) e refl) a
made_form (of_first alternative) g symbol number value extent state ks e l a =
    form_over g symbol None (value +ℤ all_totals ks) extent state (element alternative (length ks) value extent ∷ []) ks
    (subst (λ (b : Bool). has_form b (element alternative (length ks) value extent ∷ []) ≡ true) e refl) a
made_form (of_next alternative) g symbol number value extent state [] e l a = elim l [ ]
made_form (of_next alternative) g symbol number value extent state (before ∷ more) e l a =
    form_over g symbol None (value +ℤ (total_of before +ℤ all_totals more)) extent state (elements_of before ++ element alternative (length more) value (extent - span_of before) ∷ []) (children_of before ++ more)
    (subst (λ (b : Bool). has_form b (elements_of before ++ element alternative (length more) value (extent - span_of before) ∷ []) ≡ true) e (some_longer (elements_of before) (element alternative (length more) value (extent - span_of before))))
    (All-append (IsInForm g) (children_of before) more (form_children g before (All-head (IsInForm g) before more a)) (All-tail (IsInForm g) before more a))

pub form_reduced : (g : FlatGrammar) (number extent : ℕ) (state : Option ℕ) (children : List Tree) → FitsProduction g number children → All (IsInForm g) children → IsInForm g (reduced g number extent state children)
form_reduced g number extent state children r a =
    let s : left_of g number ≡ r.left = ap (λ (o : Option (ℕ × Production)). unwrap_or (option_map (λ p. p.0) o) 0) r.at in
    let l : Lengthens (form_of g (left_of g number) number) children = subst (λ (x : ℕ). Lengthens (form_of g x number) children) (sym s) r.lengthens in
    made_form (form_of g (left_of g number) number) g (left_of g number) number (value_of g number) extent state children (elements_by g (left_of g number) number) l a

-- ---- nodes of a rule

rule_form : (g : FlatGrammar) (symbol number : ℕ) → is_repetition g symbol ≡ false → form_of g symbol number ≡ of_rule
rule_form g symbol number e = ap (λ (b : Bool). if b then repetition_form (alternative_count g symbol) (number - first_production g symbol) else of_rule) e

pub rule_production : (g : FlatGrammar) (number extent : ℕ) (state : Option ℕ) (children : List Tree) → is_repetition g (left_of g number) ≡ false → production_of (reduced g number extent state children) ≡ Some number
rule_production g number extent state children e =
    subst (λ (f : Form). production_of (made_by f (left_of g number) number (value_of g number) extent state children) ≡ Some number) (sym (rule_form g (left_of g number) number e))
    (ap (λ (o : Tree-F Tree). o.production) (out-roll-Tree (over_layer (left_of g number) (Some number) (value_of g number +ℤ all_totals children) extent state [] children)))

pub rule_elements : (g : FlatGrammar) (number extent : ℕ) (state : Option ℕ) (children : List Tree) → is_repetition g (left_of g number) ≡ false → length (elements_of (reduced g number extent state children)) ≡ 0
rule_elements g number extent state children e =
    subst (λ (f : Form). length (elements_of (made_by f (left_of g number) number (value_of g number) extent state children)) ≡ 0) (sym (rule_form g (left_of g number) number e))
    (ap (λ (o : Tree-F Tree). length o.elements) (out-roll-Tree (over_layer (left_of g number) (Some number) (value_of g number +ℤ all_totals children) extent state [] children)))

-- ---- the root, leaves, extras, changed nodes

plain_form : (b : Bool) (es : List Element) → length es ≡ 0 → has_form b es ≡ true → has_form b [] ≡ true
plain_form b [] n h = h
plain_form b (e ∷ es) n h = absurd (omega (arith, n))

pub form_accepted : (g : FlatGrammar) (root : Tree) (before after : List Tree) (extent : ℕ) → length (elements_of root) ≡ 0 → IsInForm g root → All (IsInForm g) before → All (IsInForm g) after → IsInForm g (accepted root before after extent)
form_accepted g root before after extent n h b a =
    form_over g (symbol_of root) (production_of root) (total_of root) extent None [] ((before ++ children_of root) ++ after)
    (plain_form (is_repetition g (symbol_of root)) (elements_of root) n (form_out g root h).0)
    (All-append (IsInForm g) (before ++ children_of root) after (All-append (IsInForm g) before (children_of root) b (form_children g root h)) a)

token_plain : (g : FlatGrammar) (token : ℕ) → token < start_symbol g → is_repetition g token ≡ false
token_plain g token h =
    let e : nat_le (start_symbol g) token ≡ false = lt-leb (start_symbol g) token h in
    let n : symbol_rule g token ≡ None = rw e refl in
    ap (λ (o : Option FlatRule). unwrap_or (option_map (is_owned token) o) false) n

-- the layer of a leaf
abbrev pub token_layer : ℕ → ℕ → ℕ → ℕ → Option ℕ → Tree-F Tree
token_layer token pad size extent state = record {
  symbol = record { 0 = token };
  production = None;
  pad = pad;
  size = size;
  dynamic = pos 0;
  extent = extent;
  state = state;
  settled = true;
  extra = false;
  elements = [];
  children = [];
}

pub leaf_made : (token pad size extent : ℕ) (state : Option ℕ) → IsMadeWith token extent state (leaf_of token pad size extent state)
leaf_made token pad size extent state =
    let o = out-roll-Tree (token_layer token pad size extent state) in
    record {
      symbol_is = ap (λ (x : Tree-F Tree). x.symbol.0) o;
      extent_is = ap (λ (x : Tree-F Tree). x.extent) o;
      state_is = ap (λ (x : Tree-F Tree). x.state) o;
      settled = ap (λ (x : Tree-F Tree). x.settled) o;
      plain = ap (λ (x : Tree-F Tree). x.extra) o;
    }

pub form_leaf : (g : FlatGrammar) (token pad size extent : ℕ) (state : Option ℕ) → token < start_symbol g → IsInForm g (leaf_of token pad size extent state)
form_leaf g token pad size extent state h =
    fold-roll-Tree Bool (form_step g) (token_layer token pad size extent state)
    ∙ rw (token_plain g token h) refl

pub form_extra : (g : FlatGrammar) (t : Tree) → IsInForm g t → IsInForm g (as_extra t)
form_extra g t h =
    fold-roll-Tree Bool (form_step g) (record (out-Tree t) { extra = true })
    ∙ (sym (fold_out-Tree Bool (form_step g) t) ∙ h)

form_replaced : (g : FlatGrammar) (changes : List (ℕ × Tree)) (ts : List Tree) → All (λ (change : ℕ × Tree). IsInForm g change.1) changes → All (IsInForm g) ts → All (IsInForm g) (replaced changes ts)
form_replaced g [] ts c a = a
form_replaced g (change ∷ changes) ts c a =
    form_replaced g changes (set ts change.0 change.1) (All-tail (λ (x : ℕ × Tree). IsInForm g x.1) change changes c)
    (All-set (IsInForm g) ts change.0 change.1 (All-head (λ (x : ℕ × Tree). IsInForm g x.1) change changes c) a)

form_loosened : (b : Bool) (ks : List ℕ) (es : List Element) → has_form b es ≡ true → has_form b (loosened ks es) ≡ true
form_loosened b [] es h = h
form_loosened b (k ∷ ks) es h = form_loosened b ks (loosened_at k es) (one b k es h)
  where
    one : (c : Bool) (i : ℕ) (ds : List Element) → has_form c ds ≡ true → has_form c (loosened_at i ds) ≡ true
    one c i [] h = h
    one true zero (d ∷ ds) h = refl
    one true (suc i) (d ∷ ds) h = refl
    one false i (d ∷ ds) h = absurd (true≢false (sym h))

pub form_remade : (g : FlatGrammar) (t : Tree) (pad size : ℕ) (changes : List (ℕ × Tree)) (loose : List ℕ) → IsInForm g t → All (λ (change : ℕ × Tree). IsInForm g change.1) changes → IsInForm g (remade t pad size changes loose)
form_remade g t pad size changes loose h c =
    fold-roll-Tree Bool (form_step g) (record (out-Tree t) { pad = pad; size = size; settled = false; elements = loosened loose (elements_of t); children = replaced changes (children_of t) })
    ∙ both (has_form (is_repetition g (symbol_of t)) (loosened loose (elements_of t))) (all_forms g (replaced changes (children_of t)))
    (form_loosened (is_repetition g (symbol_of t)) loose (elements_of t) (form_out g t h).0)
    (all_in g (replaced changes (children_of t)) (form_replaced g changes (children_of t) c (form_children g t h)))
