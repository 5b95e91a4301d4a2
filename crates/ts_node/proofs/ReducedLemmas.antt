-- What a reduction makes of children that can be reduced is a node.
use Rattle.std.proofs.Common.{◌≡◌, ◌∙◌, ℕ, ◌+◌, ◌-◌, ◌*◌, ◌<◌, ◌≤◌, ◌^◌, sym, ap, subst, refl, arith, List, [], ◌∷◌, ◌++◌, length, Option, Some, None, true, false, length-append}
use Rattle.std.specs.Prelude.{All, option_map, unwrap_or}
use Rattle.std.specs.Int.RustNames.{unsigned_abs}
use Rattle.std.proofs.lemmas.List.Elements.{All-head, All-tail, All-append, All-nil, All-cons}
use Rattle.std.proofs.lemmas.Int.{ints}
use lib.IntN.{ℤ, ◌+ℤ◌}
use Rattle.ts_core.specs.declared.flat.FlatGrammar.{FlatGrammar}
use Rattle.ts_core.specs.declared.flat.Production.{Production}
use Rattle.spec_trees.specs.declared.tree.Tree.{Tree}
use Rattle.spec_trees.specs.declared.tree.Element.{Element}
use Rattle.spec_trees.specs.declared.tree.Tree.TheOpen.{Tree-F}
use Rattle.spec_trees.specs.declared.tree.Tree.TheViews.{out-roll-Tree}
use Rattle.spec_trees.specs.declared.tree.Tree.TheFolds.{fold-roll-Tree, fold_out-Tree}
use Rattle.spec_trees.specs.Trees.{symbol_of, elements_of, children_of, is_settled, total_of, all_totals, pad_of, size_of, span_of, node_extent, all_spans, first_pad, node_count, nodes_step, all_nodes, tree_depth, depth_step, greatest_depth}
use Rattle.spec_trees.specs.Made.{IsNode, IsSettledWell, accepted, node_over, element, made_by, reduced, Form, of_rule, of_first, of_next, form_of, left_of, value_of, Lengthens, EndBy, AreCounted, AreElementsWell, IsTotalOf, children_count, reach_of, most_span, most_depth, node_limit}
use Rattle.spec_trees.specs.Reducible.{IsReducible}
use Rattle.ts_node.specs.Standing.{CanBeReduced, IsMadeWith, depth_by}
use Rattle.ts_node.specs.Falls.{all_nodes-append}
use Rattle.ts_node.proofs.RunLemmas.{greatest_depth-append}
use Rattle.ts_node.proofs.ElementLemmas.{all_spans-append, children_count_append, all_totals-append, all_values-append, reach-append, reach_one, well-append, well_one, counted_by, some_counted, total_by, some_total}
use Rattle.ts_node.proofs.TotalLemmas.{abs_sum}

-- ---- a node over children

abbrev pub over_layer : ℕ → Option ℕ → ℤ → ℕ → Option ℕ → List Element → List Tree → Tree-F Tree
over_layer symbol production dynamic extent state es ks = record {
  symbol = record { 0 = symbol };
  production = production;
  pad = first_pad ks;
  size = all_spans ks - first_pad ks;
  dynamic = dynamic;
  extent = extent;
  state = state;
  settled = true;
  extra = false;
  elements = es;
  children = ks;
}

pub first_pad_within : (ks : List Tree) → first_pad ks ≤ all_spans ks
first_pad_within [] = omega arith
first_pad_within (k ∷ ks) = omega arith

-- what is asked of elements over children, beside how many they are
pub record HasElements (dynamic : ℤ) (extent : ℕ) (es : List Element) (ks : List Tree) : Type 0 where
  pub totalled : IsTotalOf dynamic es ks
  pub settled : All (λ e. e.settled ≡ true) es
  pub reach : reach_of es ks ≤ extent
  pub well : AreElementsWell es ks

-- what is asked of children and elements for a node over them
pub record IsFit (dynamic : ℤ) (extent : ℕ) (es : List Element) (ks : List Tree) : Type 0 where
  pub few : 1 + (length es + all_nodes ks) < node_limit
  pub short : all_spans ks ≤ most_span
  pub shallow : 1 + greatest_depth ks ≤ most_depth
  pub counted : AreCounted es ks
  pub modest : unsigned_abs dynamic ≤ 2 ^ 31 * (1 + (length es + all_nodes ks))
  pub past : all_spans ks < extent
  pub inner : All (λ child. is_settled child ≡ true) ks
  pub covers : EndBy extent 0 ks
  pub elements : HasElements dynamic extent es ks

pub fit_is_node : (symbol : ℕ) (production : Option ℕ) (dynamic : ℤ) (extent : ℕ) (state : Option ℕ) (es : List Element) (ks : List Tree) → IsFit dynamic extent es ks → IsNode (node_over symbol production dynamic extent state es ks)
fit_is_node symbol production dynamic extent state es ks f =
    let layer = over_layer symbol production dynamic extent state es ks in
    let t = node_over symbol production dynamic extent state es ks in
    let o = out-roll-Tree layer in
    let n : node_count t ≡ 1 + (length es + all_nodes ks) = fold-roll-Tree ℕ nodes_step layer in
    let d : tree_depth t ≡ 1 + greatest_depth ks = fold-roll-Tree ℕ depth_step layer in
    let p : pad_of t ≡ first_pad ks = ap (λ (x : Tree-F Tree). x.pad) o in
    let z : size_of t ≡ all_spans ks - first_pad ks = ap (λ (x : Tree-F Tree). x.size) o in
    let e : node_extent t ≡ extent = ap (λ (x : Tree-F Tree). x.extent) o in
    let c : children_of t ≡ ks = ap (λ (x : Tree-F Tree). x.children) o in
    let es' : elements_of t ≡ es = ap (λ (x : Tree-F Tree). x.elements) o in
    let v : total_of t ≡ dynamic = ap (λ (x : Tree-F Tree). x.dynamic) o in
    let s : span_of t ≡ all_spans ks = omega (arith, p, z, first_pad_within ks) in
    record {
      sized = record {
        few = omega (arith, n, f.few);
        short = omega (arith, s, f.short);
        within = let w : all_spans (children_of t) ≡ all_spans ks = ap all_spans c in omega (arith, w, s);
        shallow = omega (arith, d, f.shallow);
      };
      counted = subst (λ (x : List Element). AreCounted x (children_of t)) (sym es') (subst (λ (x : List Tree). AreCounted es x) (sym c) f.counted);
      modest = let m : unsigned_abs (total_of t) ≡ unsigned_abs dynamic = ap unsigned_abs v in omega (arith, m, n, f.modest);
      totalled = subst (λ (x : ℤ). IsTotalOf x (elements_of t) (children_of t)) (sym v)
          (subst (λ (x : List Element). IsTotalOf dynamic x (children_of t)) (sym es') (subst (λ (x : List Tree). IsTotalOf dynamic es x) (sym c) f.elements.totalled));
      elements = subst (λ (x : List Element). AreElementsWell x (children_of t)) (sym es') (subst (λ (x : List Tree). AreElementsWell es x) (sym c) f.elements.well);
      settled = λ h. record {
        past = omega (arith, s, e, f.past);
        elements = subst (λ (x : List Element). All (λ y. y.settled ≡ true) x) (sym es') f.elements.settled;
        reach =
            let r : reach_of (elements_of t) (children_of t) ≡ reach_of es (children_of t) = ap (λ (x : List Element). reach_of x (children_of t)) es' in
            let q : reach_of es (children_of t) ≡ reach_of es ks = ap (reach_of es) c in
            omega (arith, r, q, e, f.elements.reach);
        inner = subst (λ (x : List Tree). All (λ child. is_settled child ≡ true) x) (sym c) f.inner;
        covers = subst (λ (x : List Tree). EndBy (node_extent t) 0 x) (sym c) (subst (λ (x : ℕ). EndBy x 0 ks) (sym e) f.covers);
      };
    }

-- ---- totals

modest_totals : (ks : List Tree) → All IsNode ks → unsigned_abs (all_totals ks) ≤ 2 ^ 31 * all_nodes ks
modest_totals [] a = omega arith
modest_totals (k ∷ ks) a =
    let m : unsigned_abs (total_of k) ≤ 2 ^ 31 * node_count k = (All-head IsNode k ks a).modest in
    let r : unsigned_abs (all_totals ks) ≤ 2 ^ 31 * all_nodes ks = modest_totals ks (All-tail IsNode k ks a) in
    omega (arith, m, r, abs_sum (total_of k) (all_totals ks))

-- ---- what nodes examined

-- nodes that stand further to the left, before a place further to the right
pub end_by_wider : (end end' place place' : ℕ) (ks : List Tree) → end ≤ end' → place' ≤ place → EndBy end place ks → EndBy end' place' ks
end_by_wider end end' place place' [] h i e = tt
end_by_wider end end' place place' (k ∷ ks) h i e =
    (omega (arith, e.0, h, i), end_by_wider end end' (place + span_of k) (place' + span_of k) ks h (omega (arith, i)) e.1)

pub end_by_both : (end place : ℕ) (ks more : List Tree) → EndBy end place ks → EndBy end (place + all_spans ks) more → EndBy end place (ks ++ more)
end_by_both end place [] more a b = end_by_wider end end (place + 0) place more (omega arith) (omega arith) b
end_by_both end place (k ∷ ks) more a b =
    (a.0, end_by_both end (place + span_of k) ks more a.1 (end_by_wider end end (place + (span_of k + all_spans ks)) (place + span_of k + all_spans ks) more (omega arith) (omega arith) b))

-- nodes further to the right, by as much
pub end_by_moved : (by end place : ℕ) (ks : List Tree) → EndBy end place ks → EndBy (by + end) (by + place) ks
end_by_moved by end place [] e = tt
end_by_moved by end place (k ∷ ks) e =
    (omega (arith, e.0), end_by_wider (by + end) (by + end) (by + (place + span_of k)) (by + place + span_of k) ks (omega arith) (omega arith) (end_by_moved by end (place + span_of k) ks e.1))

-- nodes further to the left, by as much
pub end_by_back : (by end place : ℕ) (ks : List Tree) → EndBy end (by + place) ks → EndBy (end - by) place ks
end_by_back by end place [] e = tt
end_by_back by end place (k ∷ ks) e =
    (omega (arith, e.0), end_by_back by end (place + span_of k) ks (end_by_wider end end (by + place + span_of k) (by + (place + span_of k)) ks (omega arith) (omega arith) e.1))

-- ---- elements

pub none_has : (dynamic : ℤ) (extent : ℕ) (ks : List Tree) → HasElements dynamic extent [] ks
none_has dynamic extent ks = record {
  totalled = tt;
  settled = All-nil (λ (e : Element). e.settled ≡ true);
  reach = omega arith;
  well = tt;
}

pub first_has : (value : ℤ) (extent alternative : ℕ) (ks : List Tree) → all_spans ks < extent → All (λ child. is_settled child ≡ true) ks → EndBy extent 0 ks
    → HasElements (value +ℤ all_totals ks) extent (element alternative (length ks) value extent ∷ []) ks
first_has value extent alternative ks past settled covers =
    let e = element alternative (length ks) value extent in
    record {
      totalled = omega (arith, ints);
      settled = All-cons (λ (d : Element). d.settled ≡ true) e [] refl (All-nil (λ (d : Element). d.settled ≡ true));
      reach = omega (arith, reach_one e ks refl, past);
      well = well_one e ks refl (record { past = past; inner = settled; covers = covers });
    }

pub next_has : (value : ℤ) (extent alternative : ℕ) (before : Tree) (more : List Tree) → IsNode before → IsSettledWell before → 0 < length (elements_of before) → 0 + node_extent before ≤ extent → span_of before + all_spans more < extent
    → All (λ child. is_settled child ≡ true) more → EndBy extent (0 + span_of before) more
    → HasElements (value +ℤ (total_of before +ℤ all_totals more)) extent (elements_of before ++ element alternative (length more) value (extent - span_of before) ∷ []) (children_of before ++ more)
next_has value extent alternative before more b w some head past settled tail =
    let es = elements_of before in
    let ks = children_of before in
    let added = element alternative (length more) value (extent - span_of before) in
    let last = added ∷ [] in
    let within : all_spans ks ≤ span_of before = b.sized.within in
    let own : children_count es ≡ length ks = some_counted es ks some b.counted in
    record {
      totalled = total_by (value +ℤ (total_of before +ℤ all_totals more)) (es ++ last) (ks ++ more)
          (omega (arith, ints, some_total (total_of before) es ks some b.totalled, all_values-append es last, all_totals-append ks more));
      settled = All-append (λ (e : Element). e.settled ≡ true) es last w.elements
          (All-cons (λ (e : Element). e.settled ≡ true) added [] refl (All-nil (λ (e : Element). e.settled ≡ true)));
      reach = omega (arith, reach-append es last ks more own, reach_one added more refl, w.reach, head, past, within);
      well = well-append es last ks more own b.elements (well_one added more refl (record {
        past = omega (arith, past);
        inner = settled;
        covers = end_by_back (span_of before) extent 0 more (end_by_wider extent extent (0 + span_of before) (span_of before + 0) more (omega arith) (omega arith) tail);
      }));
    }

-- ---- the three forms

-- what is asked of the children of each form
record AreStanding (extent : ℕ) (ks : List Tree) : Type 0 where
  nodes : All IsNode ks
  settled : All (λ child. is_settled child ≡ true) ks
  few : 2 + all_nodes ks < node_limit
  short : all_spans ks ≤ most_span
  past : all_spans ks < extent
  covers : EndBy extent 0 ks

rule_fits : (value : ℤ) (extent : ℕ) (ks : List Tree) → unsigned_abs value ≤ 2 ^ 31 → AreStanding extent ks → 1 + greatest_depth ks ≤ most_depth → IsFit (value +ℤ all_totals ks) extent [] ks
rule_fits value extent ks v r shallow = record {
  few = omega (arith, r.few);
  short = r.short;
  shallow = shallow;
  counted = tt;
  elements = none_has (value +ℤ all_totals ks) extent ks;
  modest = omega (arith, v, abs_sum value (all_totals ks), modest_totals ks r.nodes);
  past = r.past;
  inner = r.settled;
  covers = r.covers;
}

first_fits : (value : ℤ) (extent alternative : ℕ) (ks : List Tree) → unsigned_abs value ≤ 2 ^ 31 → AreStanding extent ks → 1 + greatest_depth ks ≤ most_depth → IsFit (value +ℤ all_totals ks) extent (element alternative (length ks) value extent ∷ []) ks
first_fits value extent alternative ks v r shallow = record {
  few = omega (arith, r.few);
  short = r.short;
  shallow = shallow;
  counted = omega arith;
  elements = first_has value extent alternative ks r.past r.settled r.covers;
  modest = omega (arith, v, abs_sum value (all_totals ks), modest_totals ks r.nodes);
  past = r.past;
  inner = r.settled;
  covers = r.covers;
}

next_fits : (value : ℤ) (extent alternative : ℕ) (before : Tree) (more : List Tree) → unsigned_abs value ≤ 2 ^ 31 → 0 < length (elements_of before) → AreStanding extent (before ∷ more) → 1 + greatest_depth (children_of before ++ more) ≤ most_depth → IsFit (value +ℤ (total_of before +ℤ all_totals more)) extent (elements_of before ++ element alternative (length more) value (extent - span_of before) ∷ []) (children_of before ++ more)
next_fits value extent alternative before more v some r shallow =
    let es = elements_of before in
    let ks = children_of before in
    let added = element alternative (length more) value (extent - span_of before) in
    let last = added ∷ [] in
    let b : IsNode before = All-head IsNode before more r.nodes in
    let w : IsSettledWell before = b.settled (All-head (λ child. is_settled child ≡ true) before more r.settled) in
    let n : node_count before ≡ 1 + (length es + all_nodes ks) = fold_out-Tree ℕ nodes_step before in
    let within : all_spans ks ≤ span_of before = b.sized.within in
    let own : children_count es ≡ length ks = some_counted es ks some b.counted in
    let m : unsigned_abs (total_of before) ≤ 2 ^ 31 * node_count before = b.modest in
    let others : unsigned_abs (all_totals more) ≤ 2 ^ 31 * all_nodes more = modest_totals more (All-tail IsNode before more r.nodes) in
    let head : 0 + node_extent before ≤ extent = r.covers.0 in
    let tail : EndBy extent (0 + span_of before) more = r.covers.1 in
    record {
      few = omega (arith, r.few, n, all_nodes-append ks more, length-append es last);
      short = omega (arith, r.short, within, all_spans-append ks more);
      shallow = shallow;
      counted = counted_by (es ++ last) (ks ++ more) (omega (arith, own, children_count_append es last, length-append ks more));
      elements = next_has value extent alternative before more b w some head (omega (arith, r.past)) (All-tail (λ child. is_settled child ≡ true) before more r.settled) tail;
      modest = omega (arith, v, m, others, n, abs_sum value (total_of before +ℤ all_totals more), abs_sum (total_of before) (all_totals more), all_nodes-append ks more, length-append es last);
      past = omega (arith, r.past, within, all_spans-append ks more);
      inner = All-append (λ child. is_settled child ≡ true) ks more w.inner (All-tail (λ child. is_settled child ≡ true) before more r.settled);
      covers = end_by_both extent 0 ks more
          (end_by_wider (node_extent before) extent 0 0 ks (omega (arith, head)) (omega arith) w.covers)
          (end_by_wider extent extent (0 + span_of before) (0 + all_spans ks) more (omega arith) (omega (arith, within)) tail);
    }

-- ---- depth

over_depth : (symbol : ℕ) (production : Option ℕ) (dynamic : ℤ) (extent : ℕ) (state : Option ℕ) (es : List Element) (ks : List Tree) → tree_depth (node_over symbol production dynamic extent state es ks) ≡ 1 + greatest_depth ks
over_depth symbol production dynamic extent state es ks = fold-roll-Tree ℕ depth_step (over_layer symbol production dynamic extent state es ks)

both_depth : (before : Tree) (more : List Tree) → 1 + greatest_depth (children_of before ++ more) ≡ depth_by (of_next 0) (before ∷ more)
both_depth before more =
    let d : tree_depth before ≡ 1 + greatest_depth (children_of before) = fold_out-Tree ℕ depth_step before in
    omega (arith, d, greatest_depth-append (children_of before) more)

made_depth : (f : Form) (symbol number : ℕ) (value : ℤ) (extent : ℕ) (state : Option ℕ) (ks : List Tree) → tree_depth (made_by f symbol number value extent state ks) ≡ depth_by f ks
made_depth of_rule symbol number value extent state ks = over_depth _ _ _ _ _ _ ks
made_depth (of_first alternative) symbol number value extent state ks = over_depth _ _ _ _ _ _ ks
made_depth (of_next alternative) symbol number value extent state [] = over_depth _ _ _ _ _ _ []
made_depth (of_next alternative) symbol number value extent state (before ∷ more) =
    over_depth _ _ _ _ _ _ (children_of before ++ more) ∙ both_depth before more

pub reduced_depth : (g : FlatGrammar) (number extent : ℕ) (state : Option ℕ) (children : List Tree) → tree_depth (reduced g number extent state children) ≡ depth_by (form_of g (left_of g number) number) children
reduced_depth g number extent state children = made_depth (form_of g (left_of g number) number) (left_of g number) number (value_of g number) extent state children

depth_least : (f : Form) (ks : List Tree) → depth_by f ks ≤ 1 + greatest_depth ks
depth_least of_rule ks = omega arith
depth_least (of_first alternative) ks = omega arith
depth_least (of_next alternative) [] = omega arith
depth_least (of_next alternative) (before ∷ more) = omega arith

-- ---- what a reduction makes

made_node : (f : Form) (symbol number : ℕ) (value : ℤ) (extent : ℕ) (state : Option ℕ) (ks : List Tree) → unsigned_abs value ≤ 2 ^ 31 → Lengthens f ks → AreStanding extent ks → depth_by f ks ≤ most_depth → IsNode (made_by f symbol number value extent state ks)
made_node of_rule symbol number value extent state ks v l r d =
    fit_is_node symbol (Some number) (value +ℤ all_totals ks) extent state [] ks (rule_fits value extent ks v r (omega (arith, d)))
made_node (of_first alternative) symbol number value extent state ks v l r d =
    fit_is_node symbol None (value +ℤ all_totals ks) extent state (element alternative (length ks) value extent ∷ []) ks (first_fits value extent alternative ks v r (omega (arith, d)))
made_node (of_next alternative) symbol number value extent state [] v l r d = elim l [ ]
made_node (of_next alternative) symbol number value extent state (before ∷ more) v l r d =
    fit_is_node symbol None (value +ℤ (total_of before +ℤ all_totals more)) extent state (elements_of before ++ element alternative (length more) value (extent - span_of before) ∷ []) (children_of before ++ more) (next_fits value extent alternative before more v l r (omega (arith, d, both_depth before more)))

pub can_be_node : (g : FlatGrammar) (number extent : ℕ) (state : Option ℕ) (children : List Tree) → CanBeReduced g number extent state children → IsNode (reduced g number extent state children)
can_be_node g number extent state children r =
    let s : left_of g number ≡ r.fits.left = ap (λ (o : Option (ℕ × Production)). unwrap_or (option_map (λ p. p.0) o) 0) r.fits.at in
    let l : Lengthens (form_of g (left_of g number) number) children = subst (λ (x : ℕ). Lengthens (form_of g x number) children) (sym s) r.fits.lengthens in
    made_node (form_of g (left_of g number) number) (left_of g number) number (value_of g number) extent state children r.value l
    (record { nodes = r.nodes; settled = r.settled; few = r.few; short = r.short; past = r.past; covers = r.covers })
    (omega (arith, r.shallow, reduced_depth g number extent state children))

pub reduced_node : (g : FlatGrammar) (number extent : ℕ) (state : Option ℕ) (children : List Tree) → IsReducible g number extent children → IsNode (reduced g number extent state children)
reduced_node g number extent state children r = can_be_node g number extent state children (record {
  fits = r.fits;
  value = r.value;
  nodes = r.standing.nodes;
  settled = r.standing.settled;
  few = r.standing.few;
  short = r.standing.short;
  shallow = omega (arith, reduced_depth g number extent state children, depth_least (form_of g (left_of g number) number) children, r.standing.shallow);
  past = r.standing.past;
  covers = r.standing.covers;
})

-- ---- what is so of it

over_made : (symbol : ℕ) (production : Option ℕ) (dynamic : ℤ) (extent : ℕ) (state : Option ℕ) (es : List Element) (ks : List Tree) → IsMadeWith symbol extent state (node_over symbol production dynamic extent state es ks)
over_made symbol production dynamic extent state es ks =
    let o = out-roll-Tree (over_layer symbol production dynamic extent state es ks) in
    record {
      symbol_is = ap (λ (x : Tree-F Tree). x.symbol.0) o;
      extent_is = ap (λ (x : Tree-F Tree). x.extent) o;
      state_is = ap (λ (x : Tree-F Tree). x.state) o;
      settled = ap (λ (x : Tree-F Tree). x.settled) o;
      plain = ap (λ (x : Tree-F Tree). x.extra) o;
    }

form_made : (f : Form) (symbol number : ℕ) (value : ℤ) (extent : ℕ) (state : Option ℕ) (ks : List Tree) → IsMadeWith symbol extent state (made_by f symbol number value extent state ks)
form_made of_rule symbol number value extent state ks = over_made _ _ _ _ _ _ ks
form_made (of_first alternative) symbol number value extent state ks = over_made _ _ _ _ _ _ ks
form_made (of_next alternative) symbol number value extent state [] = over_made _ _ _ _ _ _ []
form_made (of_next alternative) symbol number value extent state (before ∷ more) = over_made _ _ _ _ _ _ (children_of before ++ more)

pub reduced_made : (g : FlatGrammar) (number extent : ℕ) (state : Option ℕ) (children : List Tree) → IsMadeWith (left_of g number) extent state (reduced g number extent state children)
reduced_made g number extent state children = form_made (form_of g (left_of g number) number) (left_of g number) number (value_of g number) extent state children

pub accepted_made : (root : Tree) (before after : List Tree) (extent : ℕ) → IsMadeWith (symbol_of root) extent None (accepted root before after extent)
accepted_made root before after extent = over_made _ _ _ _ _ _ ((before ++ children_of root) ++ after)
