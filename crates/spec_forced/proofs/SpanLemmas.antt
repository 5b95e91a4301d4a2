-- What a reduction reads, and that the trees of a forced run take just the bytes that it has read.
use Rattle.std.proofs.Common.{◌≡◌, ◌∙◌, sym, ap, refl, subst, ℕ, ◌+◌, ◌-◌, ◌≤◌, Bool, true, false, true≢false, List, [], ◌∷◌, ◌++◌, append_assoc, length, reverse, map, Option, Some, None, unwrap_or, option_map, arith}
use Rattle.std.proofs.lemmas.List.{reverse-append, reverse-reverse, length-map, length-reverse}
use lib.IntN.{ℤ, pos, ◌+ℤ◌}
use Rattle.ts_base.specs.Bytes.{Bytes}
use Rattle.ts_core.specs.declared.flat.FlatGrammar.{FlatGrammar}
use Rattle.ts_core.specs.declared.flat.Production.{Production}
use Rattle.ts_core.specs.declared.flat.Step.{Step}
use Rattle.ts_core.specs.declared.symbol.Symbol.{Symbol}
use Rattle.spec_grammar.specs.Symbols.{start_symbol, production_at}
use Rattle.spec_tables.specs.Fit.{Fit}
use Rattle.spec_trees.specs.declared.tree.Tree.{Tree}
use Rattle.spec_trees.specs.declared.tree.Element.{Element}
use Rattle.spec_trees.specs.declared.tree.Tree.TheOpen.{Tree-F}
use Rattle.spec_trees.specs.declared.tree.Tree.TheViews.{out-Tree, out-roll-Tree}
use Rattle.spec_trees.specs.Trees.{symbol_of, pad_of, size_of, is_extra_node, elements_of, children_of, total_of, all_totals, span_of, all_spans, first_pad, bare}
use Rattle.spec_trees.specs.Made.{leaf_of, as_extra, node_over, element, Form, of_rule, of_first, of_next, form_of, made_by, left_of, value_of, reduced, filling, step_symbols, BeginsFilled}
use Rattle.spec_runs.specs.Configurations.{stack_symbols, token_tree, IsReduction}
use Rattle.spec_runs.specs.Moves.{EndsWithProduction}
use Rattle.spec_runs.proofs.RuleLemmas.{from_rule}
use Rattle.spec_forced.specs.Forced.{ForcedRun, run_begins, run_shifts, run_passes, run_reduces}
use Rattle.spec_forced.specs.Laws.{ForcedLaws}
use Rattle.spec_forced.proofs.StackLemmas.{filling_append, filling_turned, filling_extras, filling_filled, spans_append, spans_turned, same_beginning}

-- ---- a node over children

abbrev pub over_layer : ℕ → Option ℕ → ℤ → ℕ → Option ℕ → List Element → List Tree → Tree-F Tree
over_layer symbol production dynamic extent state es ks = record {
  symbol = record { 0 = symbol };
  production = production;
  pad = first_pad ks;
  size = all_spans ks - first_pad ks;
  dynamic = dynamic;
  extent = extent;
  state = state;
  settled = true;
  extra = false;
  elements = es;
  children = ks;
}

-- what a node over these children is
pub record Over (symbol : ℕ) (ks : List Tree) (t : Tree) : Type 0 where
  pub symbol_is : symbol_of t ≡ symbol
  pub extra_is : is_extra_node t ≡ false
  pub children_is : children_of t ≡ ks
  pub span_is : span_of t ≡ all_spans ks

first_within : (ks : List Tree) → first_pad ks ≤ all_spans ks
first_within [] = omega arith
first_within (k ∷ ks) = omega arith

pub over_says : (symbol : ℕ) (production : Option ℕ) (dynamic : ℤ) (extent : ℕ) (state : Option ℕ) (es : List Element) (ks : List Tree) → Over symbol ks (node_over symbol production dynamic extent state es ks)
over_says symbol production dynamic extent state es ks =
    let o = out-roll-Tree (over_layer symbol production dynamic extent state es ks) in
    let t : Tree = node_over symbol production dynamic extent state es ks in
    let p : pad_of t ≡ first_pad ks = ap (λ (x : Tree-F Tree). x.pad) o in
    let z : size_of t ≡ all_spans ks - first_pad ks = ap (λ (x : Tree-F Tree). x.size) o in
    record {
      symbol_is = ap (λ (x : Tree-F Tree). x.symbol.0) o;
      extra_is = ap (λ (x : Tree-F Tree). x.extra) o;
      children_is = ap (λ (x : Tree-F Tree). x.children) o;
      span_is = omega (arith, p, z, first_within ks);
    }

-- the children that a node of a form has
abbrev pub kids_by : Form → List Tree → List Tree
kids_by of_rule ts = ts
kids_by (of_first a) ts = ts
kids_by (of_next a) [] = []
kids_by (of_next a) (t ∷ ts) = children_of t ++ ts

pub made_says : (f : Form) (symbol number : ℕ) (value : ℤ) (extent : ℕ) (state : Option ℕ) (ts : List Tree) → Over symbol (kids_by f ts) (made_by f symbol number value extent state ts)
made_says of_rule symbol number value extent state ts = over_says symbol (Some number) (value +ℤ all_totals ts) extent state [] ts
made_says (of_first a) symbol number value extent state ts = over_says symbol None (value +ℤ all_totals ts) extent state (element a (length ts) value extent ∷ []) ts
made_says (of_next a) symbol number value extent state [] = over_says symbol None value extent state [] []
made_says (of_next a) symbol number value extent state (t ∷ ts) =
    over_says symbol None (value +ℤ (total_of t +ℤ all_totals ts)) extent state (elements_of t ++ element a (length ts) value (extent - span_of t) ∷ []) (children_of t ++ ts)

-- where the first child of a repetition takes the bytes of its own children
pub kids_spans : (f : Form) (ts : List Tree) → ((a : ℕ) (t : Tree) (us : List Tree) → f ≡ of_next a → ts ≡ t ∷ us → span_of t ≡ all_spans (children_of t)) → all_spans (kids_by f ts) ≡ all_spans ts
kids_spans of_rule ts whole = refl
kids_spans (of_first a) ts whole = refl
kids_spans (of_next a) [] whole = refl
kids_spans (of_next a) (t ∷ ts) whole =
    let w : span_of t ≡ all_spans (children_of t) = whole a t ts refl refl in
    omega (arith, w, spans_append (children_of t) ts)

-- a tree that was made an extra is one
pub as_extra_is : (t : Tree) → is_extra_node (as_extra t) ≡ true
as_extra_is t = ap (λ (x : Tree-F Tree). x.extra) (out-roll-Tree (record (out-Tree t) { extra = true }))

-- ---- one tree

-- a node of a rule takes just the bytes of its children
pub record IsPiled (g : FlatGrammar) (t : Tree) : Type 0 where
  pub whole : is_extra_node t ≡ false → start_symbol g ≤ symbol_of t → span_of t ≡ all_spans (children_of t)

pub AllPiled : FlatGrammar → List Tree → Type 0
AllPiled g [] = Unit {0}
AllPiled g (t ∷ ts) = IsPiled g t × AllPiled g ts

piled_append : (g : FlatGrammar) (xs ys : List Tree) → AllPiled g xs → AllPiled g ys → AllPiled g (xs ++ ys)
unfolding AllPiled
piled_append g [] ys a b = b
piled_append g (x ∷ xs) ys a b = (a.0, piled_append g xs ys a.1 b)

piled_left : (g : FlatGrammar) (xs ys : List Tree) → AllPiled g (xs ++ ys) → AllPiled g xs
unfolding AllPiled
piled_left g [] ys a = tt
piled_left g (x ∷ xs) ys a = (a.0, piled_left g xs ys a.1)

piled_right : (g : FlatGrammar) (xs ys : List Tree) → AllPiled g (xs ++ ys) → AllPiled g ys
unfolding AllPiled
piled_right g [] ys a = a
piled_right g (x ∷ xs) ys a = piled_right g xs ys a.1

piled_last : (g : FlatGrammar) (xs : List Tree) (x : Tree) → AllPiled g (xs ++ x ∷ []) → IsPiled g x
unfolding AllPiled
piled_last g xs x a = (piled_right g xs (x ∷ []) a).0

module _ (laws : ForcedLaws) where
  pub bare_span : (t : Tree) → span_of (bare t) ≡ span_of t
  bare_span t = let k = laws.keeps t in let p = k.pad in let z = k.size in omega (arith, p, z)

  pub bare_spans : (ts : List Tree) → all_spans (map bare ts) ≡ all_spans ts
  bare_spans [] = refl
  bare_spans (t ∷ ts) = omega (arith, bare_span t, bare_spans ts)

  pub bare_fillings : (ts : List Tree) → filling (map bare ts) ≡ filling ts
  bare_fillings [] = refl
  bare_fillings (t ∷ ts) = by (is_extra_node t) refl (bare_fillings ts)
    where
      by : (b : Bool) → is_extra_node t ≡ b → filling (map bare ts) ≡ filling ts → filling (map bare (t ∷ ts)) ≡ filling (t ∷ ts)
      by true e more = let h : is_extra_node (bare t) ≡ true = (laws.keeps t).extra ∙ e in rw (h, e) more
      by false e more =
          let h : is_extra_node (bare t) ≡ false = (laws.keeps t).extra ∙ e in
          let s : symbol_of (bare t) ≡ symbol_of t = (laws.keeps t).symbol in
          rw (h, e) (ap (λ (n : ℕ). n ∷ filling (map bare ts)) s ∙ ap (λ (l : List ℕ). symbol_of t ∷ l) more)

  -- ---- leaves

  abbrev pub leaf_layer : ℕ → ℕ → ℕ → ℕ → Option ℕ → Tree-F Tree
  leaf_layer on pad size extent state = record {
    symbol = record { 0 = on };
    production = None;
    pad = pad;
    size = size;
    dynamic = pos 0;
    extent = extent;
    state = state;
    settled = true;
    extra = false;
    elements = [];
    children = [];
  }

  -- what a leaf is, and the same leaf as an extra
  pub record Leafs (on pad size : ℕ) (t : Tree) (kind : Bool) : Type 0 where
    pub symbol_is : symbol_of t ≡ on
    pub span_is : span_of t ≡ pad + size
    pub extra_is : is_extra_node t ≡ kind

  pub leaf_says : (on pad size extent : ℕ) (state : Option ℕ) → Leafs on pad size (leaf_of on pad size extent state) false
  leaf_says on pad size extent state =
      let o = out-roll-Tree (leaf_layer on pad size extent state) in
      let t : Tree = leaf_of on pad size extent state in
      let p : pad_of t ≡ pad = ap (λ (x : Tree-F Tree). x.pad) o in
      let z : size_of t ≡ size = ap (λ (x : Tree-F Tree). x.size) o in
      record {
        symbol_is = ap (λ (x : Tree-F Tree). x.symbol.0) o;
        span_is = omega (arith, p, z);
        extra_is = ap (λ (x : Tree-F Tree). x.extra) o;
      }

  pub extra_says : (on pad size : ℕ) (t : Tree) (kind : Bool) → Leafs on pad size t kind → Leafs on pad size (as_extra t) true
  extra_says on pad size t kind l =
      let o = out-roll-Tree (record (out-Tree t) { extra = true }) in
      let p : pad_of (as_extra t) ≡ pad_of t = ap (λ (x : Tree-F Tree). x.pad) o in
      let z : size_of (as_extra t) ≡ size_of t = ap (λ (x : Tree-F Tree). x.size) o in
      record {
        symbol_is = ap (λ (x : Tree-F Tree). x.symbol.0) o ∙ l.symbol_is;
        span_is = omega (arith, p, z, l.span_is);
        extra_is = ap (λ (x : Tree-F Tree). x.extra) o;
      }

  pub token_says : (s : Symbol) (pad size : ℕ) → Leafs s.0 pad size (token_tree s pad size) false
  token_says s pad size =
      let t : Tree = leaf_of s.0 pad size 0 None in
      let l = leaf_says s.0 pad size 0 None in
      let k = laws.keeps t in
      record {
        symbol_is = k.symbol ∙ l.symbol_is;
        span_is = bare_span t ∙ l.span_is;
        extra_is = k.extra ∙ l.extra_is;
      }

  pub passed_says : (s : Symbol) (pad size : ℕ) → Leafs s.0 pad size (as_extra (token_tree s pad size)) true
  passed_says s pad size = extra_says s.0 pad size (token_tree s pad size) false (token_says s pad size)

  -- ---- what a reduction reads

  -- the symbols before it end with the steps of its production, and its rule's symbol stands in their place
  pub record Reads (g : FlatGrammar) (number : ℕ) (read : List ℕ) (stack : List Tree) (node : Tree) (after children below : List Tree) : Type 0 where
    pub left : ℕ
    pub production : Production
    pub at : production_at g number ≡ Some (left, production)
    pub filled : filling children ≡ step_symbols production
    pub before : filling stack ++ read ≡ reverse (step_symbols production) ++ (filling below ++ read)
    pub behind : filling after ++ read ≡ left ∷ (filling below ++ read)
    pub symbol_is : symbol_of node ≡ left
    pub fills : is_extra_node node ≡ false
    pub children_are : children_of node ≡ map bare (kids_by (form_of g left number) children)
    pub span_is : span_of node ≡ all_spans (kids_by (form_of g left number) children)

  module _ (g : FlatGrammar) (number : ℕ) (read : List ℕ) (stack : List Tree) (node : Tree) (after : List Tree) (r : IsReduction g number stack node after) (ends : EndsWithProduction g (filling stack ++ read) number) where
    one_production : (r.left ≡ ends.left) × (r.production ≡ ends.production)
    one_production =
        let e : ◌≡◌ {A = Option (ℕ × Production)} (Some (r.left, r.production)) (Some (ends.left, ends.production)) = sym r.at ∙ ends.at in
        (ap (λ (o : Option (ℕ × Production)). (unwrap_or o (r.left, r.production)).0) e, ap (λ (o : Option (ℕ × Production)). (unwrap_or o (r.left, r.production)).1) e)

    steps_are : step_symbols r.production ≡ step_symbols ends.production
    steps_are = ap step_symbols one_production.1

    left_is : left_of g number ≡ r.left
    left_is = ap (λ (o : Option (ℕ × Production)). unwrap_or (option_map (λ (p : ℕ × Production). p.0) o) 0) r.at

    made_is : Over r.left (kids_by (form_of g r.left number) r.children) (reduced g number 0 None r.children)
    made_is = subst (λ (n : ℕ). Over n (kids_by (form_of g n number) r.children) (reduced g number 0 None r.children)) left_is
        (made_says (form_of g (left_of g number) number) (left_of g number) number (value_of g number) 0 None r.children)

    stack_reads : filling stack ++ read ≡ reverse (filling r.children) ++ (filling r.below ++ read)
    stack_reads =
        ap (λ (l : List ℕ). l ++ read)
        (ap filling r.stack_is ∙ filling_extras r.lifted (reverse r.children ++ r.below) r.extras
        ∙ filling_append (reverse r.children) r.below ∙ ap (λ (l : List ℕ). l ++ filling r.below) (filling_turned r.children))
        ∙ append_assoc (reverse (filling r.children)) (filling r.below) read

    filled_is : filling r.children ≡ step_symbols r.production
    filled_is =
        let many : length (reverse (filling r.children)) ≡ length (reverse (step_symbols ends.production)) =
        omega (
          arith,
          length-reverse (filling r.children),
          length-reverse (step_symbols ends.production),
          r.count,
          length-map r.production.steps (λ (step : Step). step.symbol.0),
          ap (λ (l : List ℕ). length l) steps_are,
        ) in
        let turned = same_beginning (reverse (filling r.children)) (reverse (step_symbols ends.production)) (filling r.below ++ read) ends.earlier many (sym stack_reads ∙ ends.read_is) in
        sym (reverse-reverse (filling r.children)) ∙ ap (λ (l : List ℕ). reverse l) turned.0 ∙ reverse-reverse (step_symbols ends.production) ∙ sym steps_are

    pub reads : Reads g number read stack node after r.children r.below
    reads =
        let t : Tree = reduced g number 0 None r.children in
        let k = laws.keeps t in
        let symbol : symbol_of node ≡ r.left = ap symbol_of r.node_is ∙ k.symbol ∙ made_is.symbol_is in
        let fills : is_extra_node node ≡ false = ap is_extra_node r.node_is ∙ k.extra ∙ made_is.extra_is in
        record {
          left = r.left;
          production = r.production;
          at = r.at;
          filled = filled_is;
          before = stack_reads ∙ ap (λ (l : List ℕ). reverse l ++ (filling r.below ++ read)) filled_is;
          behind = ap (λ (l : List ℕ). l ++ read)
              (ap filling r.after_is ∙ filling_extras r.lifted (node ∷ r.below) r.extras ∙ filling_filled node r.below fills ∙ ap (λ (n : ℕ). n ∷ filling r.below) symbol);
          symbol_is = symbol;
          fills = fills;
          children_are = ap children_of r.node_is ∙ k.children ∙ ap (λ (l : List Tree). map bare l) made_is.children_is;
          span_is = ap span_of r.node_is ∙ bare_span t ∙ made_is.span_is;
        }

  -- ---- the bytes of a run

  rule_is_high : (g : FlatGrammar) (number left : ℕ) (p : Production) → production_at g number ≡ Some (left, p) → start_symbol g ≤ left
  rule_is_high g number left p at = let f = from_rule (start_symbol g) g.rules number left p at in omega (arith, f.left_is)

  first_named : (t : Tree) (ts : List Tree) (x : ℕ) (xs : List ℕ) → is_extra_node t ≡ false → filling (t ∷ ts) ≡ x ∷ xs → symbol_of t ≡ x
  first_named t ts x xs fills e =
      let h : symbol_of t ∷ filling ts ≡ x ∷ xs = sym (filling_filled t ts fills) ∙ e in cc

  module _ (g : FlatGrammar) (fit : Fit g) where
    -- the node of a reduction takes the bytes of what was taken from the stack
    node_span : (number : ℕ) (read : List ℕ) (stack : List Tree) (node : Tree) (after : List Tree) (r : IsReduction g number stack node after) → Reads g number read stack node after r.children r.below → AllPiled g stack → span_of node ≡ all_spans r.children
    unfolding AllPiled
    node_span number read stack node after r x piled =
        x.span_is ∙ kids_spans (form_of g x.left number) r.children (λ a t us form is.
        let again = laws.repeats g fit number x.left a x.production x.at form in
        let fills : is_extra_node t ≡ false = first_filled t us is r.first_fills in
        let names : filling (t ∷ us) ≡ x.left ∷ again.next ∷ again.others = ap filling (sym is) ∙ x.filled ∙ again.steps_are in
        let symbol : symbol_of t ≡ x.left = first_named t us x.left (again.next ∷ again.others) fills names in
        let high = rule_is_high g number x.left x.production x.at in
        (here t us is).whole fills (omega (arith, symbol, high)))
      where
        first_filled : (t : Tree) (us : List Tree) → r.children ≡ t ∷ us → BeginsFilled r.children → is_extra_node t ≡ false
        first_filled t us is h = subst (λ (l : List Tree). BeginsFilled l) is h

        here : (t : Tree) (us : List Tree) → r.children ≡ t ∷ us → IsPiled g t
        here t us is =
            let all : AllPiled g (r.lifted ++ (reverse r.children ++ r.below)) = subst (λ (l : List Tree). AllPiled g l) r.stack_is piled in
            let kids : AllPiled g (reverse r.children) = piled_left g (reverse r.children) r.below (piled_right g r.lifted (reverse r.children ++ r.below) all) in
            let turned : reverse r.children ≡ reverse us ++ t ∷ [] = ap (λ (l : List Tree). reverse l) is ∙ reverse-append (t ∷ []) us in
            piled_last g (reverse us) t (subst (λ (l : List Tree). AllPiled g l) turned kids)

    -- the node of a reduction is piled, and the bytes of the stack stay
    reduced_piled : (number : ℕ) (read : List ℕ) (stack : List Tree) (node : Tree) (after : List Tree) (r : IsReduction g number stack node after) → Reads g number read stack node after r.children r.below → AllPiled g stack → AllPiled g after × (all_spans after ≡ all_spans stack)
    unfolding AllPiled
    reduced_piled number read stack node after r x piled =
        let all : AllPiled g (r.lifted ++ (reverse r.children ++ r.below)) = subst (λ (l : List Tree). AllPiled g l) r.stack_is piled in
        let span : span_of node ≡ all_spans r.children = node_span number read stack node after r x piled in
        let kids = kids_by (form_of g x.left number) r.children in
        let own : IsPiled g node = record { whole = λ fills high. x.span_is ∙ sym (bare_spans kids) ∙ ap all_spans (sym x.children_are) } in (
          subst (λ (l : List Tree). AllPiled g l) (sym r.after_is)
              (piled_append g r.lifted (node ∷ r.below) (piled_left g r.lifted (reverse r.children ++ r.below) all)
              (own, piled_right g (reverse r.children) r.below (piled_right g r.lifted (reverse r.children ++ r.below) all))),
          omega (
            arith,
            span,
            ap all_spans r.after_is,
            ap all_spans r.stack_is,
            spans_append r.lifted (node ∷ r.below),
            spans_append r.lifted (reverse r.children ++ r.below),
            spans_append (reverse r.children) r.below,
            spans_turned r.children,
          ),
        )

    pub piled : (read : List ℕ) (rest : Bytes) (extent : ℕ) (stack : List Tree) (m : ℕ) → ForcedRun g read rest extent stack m → AllPiled g stack × (m ≡ all_spans stack)
    unfolding AllPiled
    piled read rest extent _ _ run_begins = (tt, refl)
    piled read rest extent _ _ (run_shifts stack m s pad size e d seen fits only) =
        let h = piled read rest extent stack m d in
        let l = token_says s pad size in
        let low = (laws.shifts g (stack_symbols stack ++ read) s.0 only.stays).0 in
        let own : IsPiled g (token_tree s pad size) = record { whole = λ fills high. absurd (let k = low.1 in omega (arith, high, k, l.symbol_is)) } in
        ((own, h.0), omega (arith, h.1, l.span_is))
    piled read rest extent _ _ (run_passes stack m s pad size e d seen fits extra idle) =
        let h = piled read rest extent stack m d in
        let l = passed_says s pad size in
        let own : IsPiled g (as_extra (token_tree s pad size)) = record { whole = λ fills high. absurd (true≢false (sym l.extra_is ∙ fills)) } in
        ((own, h.0), omega (arith, h.1, l.span_is))
    piled read rest extent _ _ (run_reduces stack m s pad size e number node after d seen fits only steps r shallow) =
        let h = piled read rest extent stack m d in
        let x = reads g number read stack node after r (laws.reduces g (stack_symbols stack ++ read) s.0 number only.stays) in
        let k = reduced_piled number read stack node after r x h.0 in
        (k.0, omega (arith, h.1, k.1))
