-- A bare tree is a tree without extents, states and marks, and is all else that the tree is.
use Rattle.std.proofs.Common.{◌≡◌, ◌∙◌, sym, ap, refl, ℕ, zero, suc, ◌+◌, ◌-◌, ◌≤◌, max, true, false, List, [], ◌∷◌, ◌++◌, length, map, take, drop, Option, Some, None, unwrap_or, ℤ, arith}
use Rattle.std.proofs.Math.Nat.{le-max_left, le-max_right}
use Rattle.std.proofs.lemmas.List.{length-map, map-append}
use Rattle.std.specs.List.{concat}
use lib.IntN.{◌+ℤ◌}
use Rattle.ts_core.specs.declared.flat.FlatGrammar.{FlatGrammar}
use Rattle.spec_trees.specs.declared.tree.Tree.{Tree}
use Rattle.spec_trees.specs.declared.tree.Element.{Element}
use Rattle.spec_trees.specs.declared.tree.Stretch.{Stretch}
use Rattle.spec_trees.specs.declared.tree.Tree.TheOpen.{Tree-F}
use Rattle.spec_trees.specs.declared.tree.Tree.TheViews.{out-Tree, roll-Tree, out-roll-Tree}
use Rattle.spec_trees.specs.declared.tree.Tree.TheFolds.{fold_out-Tree, fold-roll-Tree}
use Rattle.spec_trees.specs.Trees.{symbol_of, production_of, pad_of, size_of, elements_of, children_of, total_of, is_extra_node, span_of, all_spans, all_totals, all_values, first_pad, tree_depth, depth_step, greatest_depth, bare, bare_element, bare_node}
use Rattle.spec_trees.specs.Made.{as_extra, node_over, element, Form, of_rule, of_first, of_next, made_by, form_of, left_of, value_of, reduced, accepted, lengthened, bare_stretch}
use Rattle.spec_trees.specs.Choice.{code_of, code_step, inner_code, element_codes}
use Rattle.spec_runs.specs.BareTrees.{KeepsAll}

-- ---- induction over a tree

abbrev pub Each : (Tree → Type 0) → List Tree → Type 0
Each P [] = Unit {0}
Each P (t ∷ ts) = P t × Each P ts

each_of : (P : Tree → Type 0) (n : ℕ) → ((t : Tree) → tree_depth t ≤ n → P t) → (ts : List Tree) → greatest_depth ts ≤ n → Each P ts
each_of P n f [] h = tt
each_of P n f (t ∷ ts) h =
    (f t (omega (arith, h, le-max_left (tree_depth t) (greatest_depth ts))), each_of P n f ts (omega (arith, h, le-max_right (tree_depth t) (greatest_depth ts))))

by_depth : (P : Tree → Type 0) → ((t : Tree) → Each P (children_of t) → P t) → (n : ℕ) (t : Tree) → tree_depth t ≤ n → P t
by_depth P step zero t h = absurd (omega (arith, h, fold_out-Tree ℕ depth_step t))
by_depth P step (suc n) t h = step t (each_of P n (by_depth P step n) (children_of t) (omega (arith, h, fold_out-Tree ℕ depth_step t)))

-- what follows for a tree from its children holds of every tree
pub over_tree : (P : Tree → Type 0) → ((t : Tree) → Each P (children_of t) → P t) → (t : Tree) → P t
over_tree P step t = by_depth P step (tree_depth t) t (omega arith)

-- ---- a bare tree, one level down

abbrev pub bare_layer : Tree → Tree-F Tree
bare_layer t = record {
  symbol = record { 0 = symbol_of t };
  production = production_of t;
  pad = pad_of t;
  size = size_of t;
  dynamic = total_of t;
  extent = 0;
  state = None;
  settled = false;
  extra = is_extra_node t;
  elements = map bare_element (elements_of t);
  children = map bare (children_of t);
}

pub bare_is : (t : Tree) → bare t ≡ roll-Tree (bare_layer t)
bare_is t = fold_out-Tree Tree bare_node t

pub bare_out : (t : Tree) → out-Tree (bare t) ≡ bare_layer t
bare_out t = ap out-Tree (bare_is t) ∙ out-roll-Tree (bare_layer t)

pub bare_roll : (o : Tree-F Tree) → bare (roll-Tree o) ≡ roll-Tree (record o { extent = 0; state = None; settled = false; elements = map bare_element o.elements; children = map bare o.children })
bare_roll o = fold-roll-Tree Tree bare_node o

pub bare_children : (t : Tree) → children_of (bare t) ≡ map bare (children_of t)
bare_children t = ap (λ (o : Tree-F Tree). o.children) (bare_out t)

pub bare_elements : (t : Tree) → elements_of (bare t) ≡ map bare_element (elements_of t)
bare_elements t = ap (λ (o : Tree-F Tree). o.elements) (bare_out t)

pub bare_total : (t : Tree) → total_of (bare t) ≡ total_of t
bare_total t = ap (λ (o : Tree-F Tree). o.dynamic) (bare_out t)

pub bare_pad : (t : Tree) → pad_of (bare t) ≡ pad_of t
bare_pad t = ap (λ (o : Tree-F Tree). o.pad) (bare_out t)

pub bare_size : (t : Tree) → size_of (bare t) ≡ size_of t
bare_size t = ap (λ (o : Tree-F Tree). o.size) (bare_out t)

pub bare_symbol : (t : Tree) → symbol_of (bare t) ≡ symbol_of t
bare_symbol t = ap (λ (o : Tree-F Tree). o.symbol.0) (bare_out t)

pub bare_production : (t : Tree) → production_of (bare t) ≡ production_of t
bare_production t = ap (λ (o : Tree-F Tree). o.production) (bare_out t)

pub bare_extra : (t : Tree) → is_extra_node (bare t) ≡ is_extra_node t
bare_extra t = ap (λ (o : Tree-F Tree). o.extra) (bare_out t)

pub bare_span : (t : Tree) → span_of (bare t) ≡ span_of t
bare_span t = let p = bare_pad t in let s = bare_size t in omega arith

-- ---- all the way down

depths_same : (ts : List Tree) → Each (λ t. tree_depth (bare t) ≡ tree_depth t) ts → greatest_depth (map bare ts) ≡ greatest_depth ts
depths_same [] e = refl
depths_same (t ∷ ts) e = ap (λ (d : ℕ). max d (greatest_depth (map bare ts))) e.0 ∙ ap (λ (d : ℕ). max (tree_depth t) d) (depths_same ts e.1)

pub bare_depth : (t : Tree) → tree_depth (bare t) ≡ tree_depth t
bare_depth = over_tree (λ t. tree_depth (bare t) ≡ tree_depth t) (λ t e.
    fold_out-Tree ℕ depth_step (bare t)
    ∙ ap (λ (ts : List Tree). 1 + greatest_depth ts) (bare_children t)
    ∙ ap (λ (d : ℕ). 1 + d) (depths_same (children_of t) e)
    ∙ sym (fold_out-Tree ℕ depth_step t))

codes_same : (ts : List Tree) → Each (λ t. code_of (bare t) ≡ code_of t) ts → map code_of (map bare ts) ≡ map code_of ts
codes_same [] e = refl
codes_same (t ∷ ts) e = let h = e.0 in let k = codes_same ts e.1 in cc

code_is : (t : Tree) → code_of t ≡ symbol_of t ∷ unwrap_or (production_of t) 0 ∷ pad_of t ∷ size_of t ∷ inner_code (elements_of t) (map code_of (children_of t))
code_is t = fold_out-Tree (List ℕ) code_step t

bare_element_codes : (es : List Element) (cs : List (List ℕ)) → element_codes (map bare_element es) cs ≡ element_codes es cs
bare_element_codes [] cs = refl
bare_element_codes (e ∷ es) cs = ap (λ (l : List ℕ). e.alternative ∷ e.children ∷ (concat (take e.children cs) ++ l)) (bare_element_codes es (drop e.children cs))

bare_inner_code : (es : List Element) (cs : List (List ℕ)) → inner_code (map bare_element es) cs ≡ inner_code es cs
bare_inner_code [] cs = refl
bare_inner_code (e ∷ es) cs =
    let l : length (map bare_element (e ∷ es)) ≡ length (e ∷ es) = length-map (e ∷ es) bare_element in
    let k = bare_element_codes (e ∷ es) cs in
    cc

same_code : (s s' : ℕ) (p p' : Option ℕ) (d d' z z' : ℕ) (es es' : List Element) (cs cs' : List (List ℕ)) → s ≡ s' → p ≡ p' → d ≡ d' → z ≡ z' → es ≡ map bare_element es' → cs ≡ cs'
    → s ∷ unwrap_or p 0 ∷ d ∷ z ∷ inner_code es cs ≡ s' ∷ unwrap_or p' 0 ∷ d' ∷ z' ∷ inner_code es' cs'
same_code s s' p p' d d' z z' es es' cs cs' a b c e f h = let k = bare_inner_code es' cs' in cc

pub bare_code : (t : Tree) → code_of (bare t) ≡ code_of t
bare_code = over_tree (λ t. code_of (bare t) ≡ code_of t) (λ t e.
    code_is (bare t)
    ∙ same_code (symbol_of (bare t)) (symbol_of t) (production_of (bare t)) (production_of t) (pad_of (bare t)) (pad_of t) (size_of (bare t)) (size_of t) (elements_of (bare t)) (elements_of t)
    (map code_of (children_of (bare t))) (map code_of (children_of t))
    (bare_symbol t) (bare_production t) (bare_pad t) (bare_size t) (bare_elements t)
    (ap (λ (ts : List Tree). map code_of ts) (bare_children t) ∙ codes_same (children_of t) e)
    ∙ sym (code_is t))

pub keeps_all : (t : Tree) → KeepsAll t
keeps_all t = record {
  symbol = bare_symbol t;
  production = bare_production t;
  pad = bare_pad t;
  size = bare_size t;
  total = bare_total t;
  extra = bare_extra t;
  elements = bare_elements t;
  children = bare_children t;
  depth = bare_depth t;
  code = bare_code t;
}

all_once : (ts : List Tree) → Each (λ t. bare (bare t) ≡ bare t) ts → map bare (map bare ts) ≡ map bare ts
all_once [] e = refl
all_once (t ∷ ts) e = let h = e.0 in let k = all_once ts e.1 in cc

elements_once : (es : List Element) → map bare_element (map bare_element es) ≡ map bare_element es
elements_once [] = refl
elements_once (e ∷ es) = ap (λ (l : List Element). bare_element e ∷ l) (elements_once es)

pub bare_once : (t : Tree) → bare (bare t) ≡ bare t
bare_once = over_tree (λ t. bare (bare t) ≡ bare t) (λ t e.
    ap bare (bare_is t) ∙ bare_roll (bare_layer t)
    ∙ ap (λ (es : List Element). roll-Tree (record (bare_layer t) { elements = es; children = map bare (map bare (children_of t)) })) (elements_once (elements_of t))
    ∙ ap (λ (ts : List Tree). roll-Tree (record (bare_layer t) { children = ts })) (all_once (children_of t) e)
    ∙ sym (bare_is t))

pub bare_all_once : (ts : List Tree) → map bare (map bare ts) ≡ map bare ts
bare_all_once [] = refl
bare_all_once (t ∷ ts) = let h = bare_once t in let k = bare_all_once ts in cc

-- ---- what is made of bare children

bare_first_pad : (ts : List Tree) → first_pad (map bare ts) ≡ first_pad ts
bare_first_pad [] = refl
bare_first_pad (t ∷ ts) = bare_pad t

pub bare_spans : (ts : List Tree) → all_spans (map bare ts) ≡ all_spans ts
bare_spans [] = refl
bare_spans (t ∷ ts) = let h = bare_span t in let k = bare_spans ts in omega arith

bare_totals : (ts : List Tree) → all_totals (map bare ts) ≡ all_totals ts
bare_totals [] = refl
bare_totals (t ∷ ts) = let h = bare_total t in let k = bare_totals ts in cc

abbrev over_by : ℕ → Option ℕ → ℕ → ℕ → ℤ → List Element → List Tree → Tree
over_by symbol production pad size dynamic elements children = roll-Tree (record {
  symbol = record { 0 = symbol };
  production = production;
  pad = pad;
  size = size;
  dynamic = dynamic;
  extent = 0;
  state = None;
  settled = false;
  extra = false;
  elements = elements;
  children = children;
})

over_is : (symbol : ℕ) (production : Option ℕ) (dynamic : ℤ) (extent : ℕ) (state : Option ℕ) (es : List Element) (ks : List Tree)
    → bare (node_over symbol production dynamic extent state es ks) ≡ over_by symbol production (first_pad ks) (all_spans ks - first_pad ks) dynamic (map bare_element es) (map bare ks)
over_is symbol production dynamic extent state es ks = bare_roll (record {
  symbol = record { 0 = symbol };
  production = production;
  pad = first_pad ks;
  size = all_spans ks - first_pad ks;
  dynamic = dynamic;
  extent = extent;
  state = state;
  settled = true;
  extra = false;
  elements = es;
  children = ks;
})

same_over : (symbol : ℕ) (production : Option ℕ) (p q z y : ℕ) (d e : ℤ) (es fs : List Element) (ks ms : List Tree) → p ≡ q → z ≡ y → d ≡ e → es ≡ fs → ks ≡ ms
    → over_by symbol production p z d es ks ≡ over_by symbol production q y e fs ms
same_over symbol production p q z y d e es fs ks ms a b c f h = cc

pub node_over_bare : (symbol : ℕ) (production : Option ℕ) (d e : ℤ) (extent : ℕ) (state : Option ℕ) (es fs : List Element) (ks ms : List Tree) → d ≡ e → map bare_element es ≡ map bare_element fs → ms ≡ map bare ks
    → bare (node_over symbol production d extent state es ks) ≡ bare (node_over symbol production e 0 None fs ms)
node_over_bare symbol production d e extent state es fs ks ms same els children =
    let p : first_pad ks ≡ first_pad ms = sym (ap first_pad children ∙ bare_first_pad ks) in
    let s : all_spans ks ≡ all_spans ms = sym (ap all_spans children ∙ bare_spans ks) in
    over_is symbol production d extent state es ks
    ∙ same_over symbol production (first_pad ks) (first_pad ms) (all_spans ks - first_pad ks) (all_spans ms - first_pad ms) d e (map bare_element es) (map bare_element fs) (map bare ks) (map bare ms)
    p (let a = p in let b = s in cc) same els (sym (ap (λ (l : List Tree). map bare l) children ∙ bare_all_once ks))
    ∙ sym (over_is symbol production e 0 None fs ms)

map_append : (ts us : List Tree) → map bare (ts ++ us) ≡ map bare ts ++ map bare us
map_append [] us = refl
map_append (t ∷ ts) us = ap (λ (l : List Tree). bare t ∷ l) (map_append ts us)

elements_after : (es fs : List Element) (e f : Element) → fs ≡ map bare_element es → bare_element e ≡ bare_element f → map bare_element (es ++ e ∷ []) ≡ map bare_element (fs ++ f ∷ [])
elements_after es fs e f is last =
    map-append bare_element es (e ∷ [])
    ∙ ap (λ (x : Element). map bare_element es ++ x ∷ []) last
    ∙ ap (λ (l : List Element). l ++ bare_element f ∷ []) (sym (ap (map bare_element) is ∙ elements_once es))
    ∙ sym (map-append bare_element fs (f ∷ []))

made_bare : (form : Form) (symbol number : ℕ) (value : ℤ) (extent : ℕ) (state : Option ℕ) (ks : List Tree) → bare (made_by form symbol number value extent state ks) ≡ bare (made_by form symbol number value 0 None (map bare ks))
made_bare of_rule symbol number value extent state ks =
    node_over_bare symbol (Some number) (value +ℤ all_totals ks) (value +ℤ all_totals (map bare ks)) extent state [] [] ks (map bare ks) (ap (λ (n : ℤ). value +ℤ n) (sym (bare_totals ks))) refl refl
made_bare (of_first alternative) symbol number value extent state ks =
    node_over_bare symbol None (value +ℤ all_totals ks) (value +ℤ all_totals (map bare ks)) extent state (element alternative (length ks) value extent ∷ []) (element alternative (length (map bare ks)) value 0 ∷ []) ks (map bare ks)
    (ap (λ (n : ℤ). value +ℤ n) (sym (bare_totals ks))) (ap (λ (n : ℕ). bare_element (element alternative n value 0) ∷ []) (sym (length-map ks bare))) refl
made_bare (of_next alternative) symbol number value extent state [] =
    node_over_bare symbol None value value extent state [] [] [] [] refl refl refl
made_bare (of_next alternative) symbol number value extent state (k ∷ ks) =
    node_over_bare symbol None (value +ℤ (total_of k +ℤ all_totals ks)) (value +ℤ (total_of (bare k) +ℤ all_totals (map bare ks))) extent state
    (elements_of k ++ element alternative (length ks) value (extent - span_of k) ∷ []) (elements_of (bare k) ++ element alternative (length (map bare ks)) value (0 - span_of (bare k)) ∷ []) (children_of k ++ ks) (children_of (bare k) ++ map bare ks)
    (let a = bare_total k in let b = bare_totals ks in cc)
    (elements_after (elements_of k) (elements_of (bare k)) (element alternative (length ks) value (extent - span_of k)) (element alternative (length (map bare ks)) value (0 - span_of (bare k)))
    (bare_elements k) (ap (λ (n : ℕ). bare_element (element alternative n value 0)) (sym (length-map ks bare))))
    (ap (λ (l : List Tree). l ++ map bare ks) (bare_children k) ∙ sym (map_append (children_of k) ks))

pub reduced_bare : (g : FlatGrammar) (number extent : ℕ) (state : Option ℕ) (ks : List Tree) → bare (reduced g number extent state ks) ≡ bare (reduced g number 0 None (map bare ks))
reduced_bare g number extent state ks = made_bare (form_of g (left_of g number) number) (left_of g number) number (value_of g number) extent state ks

pub accepted_bare : (root : Tree) (before after : List Tree) (extent : ℕ) → bare (accepted root before after extent) ≡ bare (accepted (bare root) (map bare before) (map bare after) 0)
accepted_bare root before after extent =
    let s = bare_symbol root in
    let p = bare_production root in
    node_over_bare (symbol_of root) (production_of root) (total_of root) (total_of (bare root)) extent None [] [] ((before ++ children_of root) ++ after) ((map bare before ++ children_of (bare root)) ++ map bare after)
    (sym (bare_total root)) refl
    (ap (λ (l : List Tree). (map bare before ++ l) ++ map bare after) (bare_children root)
    ∙ sym (map_append (before ++ children_of root) after ∙ ap (λ (l : List Tree). l ++ map bare after) (map_append before (children_of root))))
    ∙ same_parts (symbol_of root) (symbol_of (bare root)) (production_of root) (production_of (bare root)) (total_of (bare root)) ((map bare before ++ children_of (bare root)) ++ map bare after) (sym s) (sym p)
  where
    same_parts : (s t : ℕ) (p q : Option ℕ) (d : ℤ) (ks : List Tree) → s ≡ t → p ≡ q → bare (node_over s p d 0 None [] ks) ≡ bare (node_over t q d 0 None [] ks)
    same_parts s t p q d ks a b = ap (λ (x : ℕ). bare (node_over x p d 0 None [] ks)) a ∙ ap (λ (x : Option ℕ). bare (node_over t x d 0 None [] ks)) b

bare_values : (es : List Element) → all_values (map bare_element es) ≡ all_values es
bare_values [] = refl
bare_values (e ∷ es) = ap (λ (n : ℤ). e.dynamic +ℤ n) (bare_values es)

pub lengthened_bare : (before : Tree) (more : Stretch) (extent : ℕ) (state : Option ℕ) → bare (lengthened before more extent state) ≡ bare (lengthened (bare before) (bare_stretch more) 0 None)
lengthened_bare before more extent state =
    let b = bare_total before in
    let v = bare_values more.elements in
    let t = bare_totals more.children in
    let d : ℤ = total_of before +ℤ (all_values more.elements +ℤ all_totals more.children) in
    let e : ℤ = total_of (bare before) +ℤ (all_values (map bare_element more.elements) +ℤ all_totals (map bare more.children)) in
    let same : d ≡ e = cc in
    node_over_bare (symbol_of before) None d e extent state
    (elements_of before ++ more.elements) (elements_of (bare before) ++ map bare_element more.elements)
    (children_of before ++ more.children) (children_of (bare before) ++ map bare more.children)
    same
    (map-append bare_element (elements_of before) more.elements
    ∙ ap (λ (l : List Element). l ++ map bare_element more.elements) (sym (ap (map bare_element) (bare_elements before) ∙ elements_once (elements_of before)))
    ∙ ap (λ (l : List Element). map bare_element (elements_of (bare before)) ++ l) (sym (elements_once more.elements))
    ∙ sym (map-append bare_element (elements_of (bare before)) (map bare_element more.elements)))
    (ap (λ (l : List Tree). l ++ map bare more.children) (bare_children before) ∙ sym (map_append (children_of before) more.children))
    ∙ ap (λ (x : ℕ). bare (node_over x None e 0 None (elements_of (bare before) ++ map bare_element more.elements) (children_of (bare before) ++ map bare more.children))) (sym (bare_symbol before))

pub extra_bare : (t : Tree) → bare (as_extra t) ≡ as_extra (bare t)
extra_bare t =
    bare_roll (record (out-Tree t) { extra = true })
    ∙ ap (λ (o : Tree-F Tree). roll-Tree (record o { extra = true })) (sym (bare_out t))
