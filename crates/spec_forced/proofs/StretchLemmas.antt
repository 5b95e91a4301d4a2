-- Elements one after another that stand behind a repetition: it may be lengthened by all of them at once.
use Rattle.std.proofs.Common.{◌≡◌, ◌∙◌, sym, ap, subst, ℕ, ◌+◌, ◌-◌, ◌≤◌, max, false, List, [], ◌∷◌, ◌++◌, append_assoc, append-nil, length, map, Option, Some, None, unwrap_or, option_map, arith}
use Rattle.std.proofs.lemmas.List.{map-append}
use Rattle.std.proofs.Math.IntN.{+ℤ_assoc, +ℤ_comm, +ℤ_idl, +ℤ_idr}
use lib.IntN.{ℤ, pos, ◌+ℤ◌}
use Rattle.ts_core.specs.declared.flat.FlatGrammar.{FlatGrammar}
use Rattle.ts_core.specs.declared.flat.Production.{Production}
use Rattle.spec_grammar.specs.Symbols.{production_at}
use Rattle.spec_trees.specs.declared.tree.Tree.{Tree}
use Rattle.spec_trees.specs.declared.tree.Element.{Element}
use Rattle.spec_trees.specs.declared.tree.Tree.TheOpen.{Tree-F}
use Rattle.spec_trees.specs.declared.tree.Tree.TheViews.{roll-Tree, out-roll-Tree}
use Rattle.spec_trees.specs.declared.tree.Tree.TheFolds.{fold_out-Tree, fold-roll-Tree}
use Rattle.spec_trees.specs.Trees.{symbol_of, elements_of, children_of, total_of, all_totals, all_values, span_of, all_spans, first_pad, depth_step, tree_depth, greatest_depth, bare, bare_node, bare_element}
use Rattle.spec_trees.specs.Made.{node_over, element, Form, form_of, of_next, made_by, left_of, value_of, reduced, lengthened}
use Rattle.spec_forced.specs.Behind.{IsOfSymbol, LaterElement, alternative_of, added_elements, added_children, added}
use Rattle.spec_forced.proofs.StackLemmas.{spans_append}
use Rattle.spec_forced.proofs.SpanLemmas.{over_layer, Over, over_says}
use Rattle.spec_forced.proofs.KeepLemmas.{Given, over_given}

-- ---- one element after another

-- the production of this number appends an element to a repetition of this symbol
abbrev pub Appends : FlatGrammar → ℕ → ℕ → Type 0
Appends g symbol number =
    (p : Production) × (alternative : ℕ) × (production_at g number ≡ Some (symbol, p)) × (form_of g symbol number ≡ of_next alternative)

-- the production of each of them does
abbrev pub AllAppend : FlatGrammar → ℕ → List LaterElement → Type 0
AllAppend g symbol [] = Unit {0}
AllAppend g symbol (e ∷ es) = Appends g symbol e.number × AllAppend g symbol es

-- the repetition with these elements appended one by one; this extent and state are given to it
abbrev pub appended : FlatGrammar → ℕ → Option ℕ → Tree → List LaterElement → Tree
appended g extent state t [] = t
appended g extent state t (e ∷ es) = appended g extent state (reduced g e.number extent state (t ∷ e.children)) es

-- ---- what a longer repetition is

-- one element more
appended_is : (g : FlatGrammar) (symbol number alternative : ℕ) (p : Production) → production_at g number ≡ Some (symbol, p) → form_of g symbol number ≡ of_next alternative → (extent : ℕ) (state : Option ℕ) (t : Tree) (ts : List Tree)
    → reduced g number extent state (t ∷ ts) ≡ node_over symbol None (value_of g number +ℤ (total_of t +ℤ all_totals ts)) extent state (elements_of t ++ element alternative (length ts) (value_of g number) (extent - span_of t) ∷ []) (children_of t ++ ts)
appended_is g symbol number alternative p at form extent state t ts =
    ap (λ (n : ℕ). made_by (form_of g n number) n number (value_of g number) extent state (t ∷ ts)) left_is
    ∙ ap (λ (f : Form). made_by f symbol number (value_of g number) extent state (t ∷ ts)) form
  where
    left_is : left_of g number ≡ symbol
    left_is = ap (λ (o : Option (ℕ × Production)). unwrap_or (option_map (λ (q : ℕ × Production). q.0) o) 0) at

total_is : (symbol : ℕ) (production : Option ℕ) (dynamic : ℤ) (extent : ℕ) (state : Option ℕ) (es : List Element) (ks : List Tree) → total_of (node_over symbol production dynamic extent state es ks) ≡ dynamic
total_is symbol production dynamic extent state es ks = ap (λ (x : Tree-F Tree). x.dynamic) (out-roll-Tree (over_layer symbol production dynamic extent state es ks))

-- ---- sums

totals_append : (xs ys : List Tree) → all_totals (xs ++ ys) ≡ all_totals xs +ℤ all_totals ys
totals_append [] ys = sym (+ℤ_idl (all_totals ys))
totals_append (x ∷ xs) ys = ap (λ (z : ℤ). total_of x +ℤ z) (totals_append xs ys) ∙ sym (+ℤ_assoc (total_of x) (all_totals xs) (all_totals ys))

-- what elements add to the total
abbrev sum_of_added : FlatGrammar → ℕ → List LaterElement → ℤ
sum_of_added g symbol es = all_values (added_elements g symbol es) +ℤ all_totals (added_children es)

moved_on : (v t m z : ℤ) → (v +ℤ (t +ℤ m)) +ℤ z ≡ t +ℤ ((v +ℤ m) +ℤ z)
moved_on v t m z =
    ap (λ (x : ℤ). x +ℤ z) (sym (+ℤ_assoc v t m) ∙ ap (λ (x : ℤ). x +ℤ m) (+ℤ_comm v t) ∙ +ℤ_assoc t v m)
    ∙ +ℤ_assoc t (v +ℤ m) z

crossed : (v m a b : ℤ) → (v +ℤ m) +ℤ (a +ℤ b) ≡ (v +ℤ a) +ℤ (m +ℤ b)
crossed v m a b =
    +ℤ_assoc v m (a +ℤ b)
    ∙ ap (λ (x : ℤ). v +ℤ x) (sym (+ℤ_assoc m a b) ∙ ap (λ (x : ℤ). x +ℤ b) (+ℤ_comm m a) ∙ +ℤ_assoc a m b)
    ∙ sym (+ℤ_assoc v a (m +ℤ b))

sum_more : (g : FlatGrammar) (symbol : ℕ) (e : LaterElement) (es : List LaterElement) (z : ℤ) → (value_of g e.number +ℤ (z +ℤ all_totals e.children)) +ℤ sum_of_added g symbol es ≡ z +ℤ sum_of_added g symbol (e ∷ es)
sum_more g symbol e es z =
    let v : ℤ = value_of g e.number in
    let m : ℤ = all_totals e.children in
    let a : ℤ = all_values (added_elements g symbol es) in
    let b : ℤ = all_totals (added_children es) in
    moved_on v z m (a +ℤ b)
    ∙ ap (λ (x : ℤ). z +ℤ x) (crossed v m a b ∙ ap (λ (x : ℤ). (v +ℤ a) +ℤ x) (sym (totals_append e.children (added_children es))))

-- ---- nodes that are one node of a parse tree

abbrev over_bare : ℕ → ℤ → List Element → List Tree → Tree-F Tree
over_bare symbol d es ks = record {
  symbol = record { 0 = symbol };
  production = None;
  pad = first_pad ks;
  size = all_spans ks - first_pad ks;
  dynamic = d;
  extent = 0;
  state = None;
  settled = false;
  extra = false;
  elements = es;
  children = map bare ks;
}

bare_over : (symbol : ℕ) (d : ℤ) (extent : ℕ) (state : Option ℕ) (es : List Element) (ks : List Tree) → bare (node_over symbol None d extent state es ks) ≡ roll-Tree (over_bare symbol d (map bare_element es) ks)
bare_over symbol d extent state es ks = fold-roll-Tree Tree bare_node (over_layer symbol None d extent state es ks)

same_bare : (symbol other : ℕ) (d e : ℤ) (extent : ℕ) (state : Option ℕ) (xs ys : List Element) (ks ls : List Tree) → symbol ≡ other → d ≡ e → map bare_element xs ≡ map bare_element ys → ks ≡ ls
    → bare (node_over symbol None d extent state xs ks) ≡ bare (node_over other None e extent state ys ls)
same_bare symbol other d e extent state xs ys ks ls symbols dynamic elements children =
    bare_over symbol d extent state xs ks
    ∙ ap (λ (n : ℕ). roll-Tree (over_bare n d (map bare_element xs) ks)) symbols
    ∙ ap (λ (z : ℤ). roll-Tree (over_bare other z (map bare_element xs) ks)) dynamic
    ∙ ap (λ (l : List Element). roll-Tree (over_bare other e l ks)) elements
    ∙ ap (λ (l : List Tree). roll-Tree (over_bare other e (map bare_element ys) l)) children
    ∙ sym (bare_over other e extent state ys ls)

module _ (g : FlatGrammar) (symbol extent : ℕ) (state : Option ℕ) where
  abbrev over : ℤ → List Element → List Tree → Tree
  over dynamic es ks = node_over symbol None dynamic extent state es ks

  same_over : (d e : ℤ) (xs ys : List Element) (ks ls : List Tree) → d ≡ e → xs ≡ ys → ks ≡ ls → over d xs ks ≡ over e ys ls
  same_over d e xs ys ks ls dynamic elements children =
      ap (λ (z : ℤ). over z xs ks) dynamic ∙ ap (λ (l : List Element). over e l ks) elements ∙ ap (λ (l : List Tree). over e ys l) children

  -- a repetition with one element more
  pub record OneMore (t : Tree) (e : LaterElement) : Type 0 where
    pub own : Element
    pub named : bare_element own ≡ bare_element (element (alternative_of (form_of g symbol e.number)) (length e.children) (value_of g e.number) e.extent)
    pub is : reduced g e.number extent state (t ∷ e.children) ≡ over (value_of g e.number +ℤ (total_of t +ℤ all_totals e.children)) (elements_of t ++ own ∷ []) (children_of t ++ e.children)
    pub total : total_of (reduced g e.number extent state (t ∷ e.children)) ≡ value_of g e.number +ℤ (total_of t +ℤ all_totals e.children)
    pub says : Over symbol (children_of t ++ e.children) (reduced g e.number extent state (t ∷ e.children))
    pub given : Given extent state (elements_of t ++ own ∷ []) (reduced g e.number extent state (t ∷ e.children))

  pub one_more : (t : Tree) (e : LaterElement) → Appends g symbol e.number → OneMore t e
  one_more t e (p, alternative, at, form) =
      let v : ℤ = value_of g e.number in
      let own : Element = element alternative (length e.children) v (extent - span_of t) in
      let sum : ℤ = v +ℤ (total_of t +ℤ all_totals e.children) in
      let es : List Element = elements_of t ++ own ∷ [] in
      let ks : List Tree = children_of t ++ e.children in
      let is : reduced g e.number extent state (t ∷ e.children) ≡ over sum es ks = appended_is g symbol e.number alternative p at form extent state t e.children in
      record {
        own = own;
        named = ap (λ (f : Form). bare_element (element (alternative_of f) (length e.children) v e.extent)) (sym form);
        is = is;
        total = ap total_of is ∙ total_is symbol None sum extent state es ks;
        says = subst (λ (x : Tree). Over symbol ks x) (sym is) (over_says symbol None sum extent state es ks);
        given = subst (λ (x : Tree). Given extent state es x) (sym is) (over_given symbol None sum extent state es ks);
      }

  -- it is a node over its children
  abbrev IsOver : Tree → Type 0
  IsOver t = t ≡ over (total_of t) (elements_of t) (children_of t)

  longer_over : (es : List LaterElement) (t : Tree) → AllAppend g symbol es → IsOver t → IsOver (appended g extent state t es)
  longer_over [] t all is = is
  longer_over (e ∷ es) t all is =
      let o = one_more t e all.0 in
      let node : Tree = reduced g e.number extent state (t ∷ e.children) in
      let sum : ℤ = value_of g e.number +ℤ (total_of t +ℤ all_totals e.children) in
      longer_over es node all.1 (o.is ∙ same_over sum (total_of node) (elements_of t ++ o.own ∷ []) (elements_of node) (children_of t ++ e.children) (children_of node) (sym o.total) (sym o.given.elements_are) (sym o.says.children_is))

  some_over : (es : List LaterElement) (t : Tree) (e : LaterElement) → AllAppend g symbol (e ∷ es) → IsOver (appended g extent state t (e ∷ es))
  some_over es t e all =
      let o = one_more t e all.0 in
      let node : Tree = reduced g e.number extent state (t ∷ e.children) in
      let sum : ℤ = value_of g e.number +ℤ (total_of t +ℤ all_totals e.children) in
      longer_over es node all.1 (o.is ∙ same_over sum (total_of node) (elements_of t ++ o.own ∷ []) (elements_of node) (children_of t ++ e.children) (children_of node) (sym o.total) (sym o.given.elements_are) (sym o.says.children_is))

  longer_total : (es : List LaterElement) (t : Tree) → AllAppend g symbol es → total_of (appended g extent state t es) ≡ total_of t +ℤ sum_of_added g symbol es
  longer_total [] t all = sym (ap (λ (z : ℤ). total_of t +ℤ z) (+ℤ_idr (pos 0)) ∙ +ℤ_idr (total_of t))
  longer_total (e ∷ es) t all =
      let o = one_more t e all.0 in
      longer_total es (reduced g e.number extent state (t ∷ e.children)) all.1
      ∙ ap (λ (z : ℤ). z +ℤ sum_of_added g symbol es) o.total ∙ sum_more g symbol e es (total_of t)

  longer_elements : (es : List LaterElement) (t : Tree) → AllAppend g symbol es → map bare_element (elements_of (appended g extent state t es)) ≡ map bare_element (elements_of t) ++ map bare_element (added_elements g symbol es)
  longer_elements [] t all = sym (append-nil (map bare_element (elements_of t)))
  longer_elements (e ∷ es) t all =
      let o = one_more t e all.0 in
      let more : List Element = map bare_element (added_elements g symbol es) in
      longer_elements es (reduced g e.number extent state (t ∷ e.children)) all.1
      ∙ ap (λ (l : List Element). map bare_element l ++ more) o.given.elements_are
      ∙ ap (λ (l : List Element). l ++ more) (map-append bare_element (elements_of t) (o.own ∷ []))
      ∙ append_assoc (map bare_element (elements_of t)) (bare_element o.own ∷ []) more
      ∙ ap (λ (x : Element). map bare_element (elements_of t) ++ x ∷ more) o.named

  -- ---- what it keeps

  pub longer_children : (es : List LaterElement) (t : Tree) → AllAppend g symbol es → children_of (appended g extent state t es) ≡ children_of t ++ added_children es
  longer_children [] t all = sym (append-nil (children_of t))
  longer_children (e ∷ es) t all =
      let o = one_more t e all.0 in
      longer_children es (reduced g e.number extent state (t ∷ e.children)) all.1
      ∙ ap (λ (l : List Tree). l ++ added_children es) o.says.children_is ∙ append_assoc (children_of t) e.children (added_children es)

  -- it takes just the bytes of its children
  abbrev pub IsWhole : Tree → Type 0
  IsWhole t = span_of t ≡ all_spans (children_of t)

  pub one_whole : (t : Tree) (e : LaterElement) → Appends g symbol e.number → IsWhole (reduced g e.number extent state (t ∷ e.children))
  one_whole t e own =
      let o = one_more t e own in
      o.says.span_is ∙ sym (ap all_spans o.says.children_is)

  pub one_span : (t : Tree) (e : LaterElement) → Appends g symbol e.number → IsWhole t → span_of (reduced g e.number extent state (t ∷ e.children)) ≡ span_of t + all_spans e.children
  one_span t e own whole =
      let o = one_more t e own in
      o.says.span_is ∙ spans_append (children_of t) e.children ∙ (let q : all_spans (children_of t) + all_spans e.children ≡ span_of t + all_spans e.children = omega (arith, whole) in q)

  -- all at once
  pub flat : (e : LaterElement) (es : List LaterElement) (t : Tree) → AllAppend g symbol (e ∷ es) → IsOfSymbol symbol t → bare (appended g extent state t (e ∷ es)) ≡ bare (lengthened t (added g symbol (e ∷ es)) extent state)
  flat e es t all of =
      let n : Tree = appended g extent state t (e ∷ es) in
      let more : List Element = added_elements g symbol (e ∷ es) in
      ap bare (some_over es t e all)
      ∙ same_bare symbol (symbol_of t) (total_of n) (total_of t +ℤ sum_of_added g symbol (e ∷ es)) extent state (elements_of n) (elements_of t ++ more) (children_of n) (children_of t ++ added_children (e ∷ es))
      (sym of.0) (longer_total (e ∷ es) t all) (longer_elements (e ∷ es) t all ∙ sym (map-append bare_element (elements_of t) more)) (longer_children (e ∷ es) t all)

  -- ---- depth

  greatest_append : (xs ys : List Tree) → greatest_depth (xs ++ ys) ≡ max (greatest_depth xs) (greatest_depth ys)
  greatest_append [] ys = omega arith
  greatest_append (x ∷ xs) ys = omega (arith, greatest_append xs ys)

  depth_is : (t : Tree) → tree_depth t ≡ 1 + greatest_depth (children_of t)
  depth_is t = fold_out-Tree ℕ depth_step t

  -- it is no less deep
  pub longer_depth : (es : List LaterElement) (t : Tree) → AllAppend g symbol es → tree_depth t ≤ tree_depth (appended g extent state t es)
  longer_depth es t all =
      let n : Tree = appended g extent state t es in
      let kids : greatest_depth (children_of n) ≡ greatest_depth (children_of t ++ added_children es) = ap greatest_depth (longer_children es t all) in
      omega (arith, depth_is t, depth_is n, kids, greatest_append (children_of t) (added_children es))
