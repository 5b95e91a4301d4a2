-- What acceptance makes of a live stack.
use Rattle.std.proofs.Common.{◌≡◌, ◌∙◌, sym, ap, refl, subst, ℕ, suc, ◌+◌, ◌*◌, ◌^◌, ◌<◌, ◌≤◌, Bool, true, false, true≢false, IsTrue, is_some, List, [], ◌∷◌, ◌++◌, append_assoc, append-nil, length, map, reverse, Some, None, All, arith}
use Rattle.std.specs.Int.RustNames.{unsigned_abs}
use Rattle.std.proofs.Math.Nat.{mul-le-mul_right}
use Rattle.std.proofs.lemmas.List.{map-append, reverse-append, reverse-reverse}
use Rattle.std.proofs.lemmas.List.Elements.{All-cons, All-nil, All-append}
use Rattle.ts_core.specs.declared.flat.FlatGrammar.{FlatGrammar}
use Rattle.spec_grammar.specs.Symbols.{start_symbol, is_repetition}
use Rattle.spec_tables.specs.Fit.{Fit}
use Rattle.spec_trees.specs.declared.tree.Tree.{Tree}
use Rattle.spec_trees.specs.declared.tree.Element.{Element}
use Rattle.spec_trees.specs.declared.tree.Tree.TheOpen.{Tree-F}
use Rattle.spec_trees.specs.declared.tree.Tree.TheViews.{out-roll-Tree}
use Rattle.spec_trees.specs.declared.tree.Tree.TheFolds.{fold-roll-Tree, fold_out-Tree}
use Rattle.spec_trees.specs.Trees.{symbol_of, production_of, elements_of, children_of, is_extra_node, is_settled, total_of, node_extent, span_of, all_spans, node_count, nodes_step, all_nodes, tree_depth, depth_step, greatest_depth, bare}
use Rattle.spec_trees.specs.Made.{IsNode, accepted, filling, BeginsFilled, EndBy, most_span}
use Rattle.spec_trees.specs.Choice.{IsInForm, form_step, has_form}
use Rattle.spec_runs.specs.Configurations.{AreExtras}
use Rattle.ts_table.specs.declared.view.ParseTable.{ParseTable}
use Rattle.ts_gss.specs.declared.layer.Layer.{Layer}
use Rattle.ts_gss.specs.Stacks.{trees_on, tree_on, under_top}
use Rattle.ts_gss.specs.Paths.{IsLifted}
use Rattle.ts_steps.specs.MoveLaws.{Laws}
use Rattle.ts_steps.specs.Good.{IsGoodTree, AreGoodTrees}
use Rattle.ts_steps.specs.LiveHeads.{IsGoodStack, IsRootOf}
use Rattle.ts_steps.proofs.NodeLemmas.{filling_fills, all_spans-append, greatest_depth-append, end_by_wider, end_by_both, each_left, each_right, each_turned, each_settled, over_layer, forms, own_forms, forms_append, forms_each, both, form_of_none}
use Rattle.ts_steps.proofs.StackLemmas.{turned_bare, end_by_split, turned, spans_turned, extras_turned, filling_extras, extras_bare}
use Rattle.ts_node.specs.Falls.{all_nodes-append}
use Rattle.ts_node.proofs.ReducedLemmas.{fit_is_node, none_has}

-- what lies under the extras on top: the root, and extras
pub record Rooted (under : List Layer) (start : ℕ) : Type 0 where
  pub top : Layer
  pub rest : List Layer
  pub is : under ≡ top ∷ rest
  pub fills : is_extra_node top.tree ≡ false
  pub symbol : symbol_of top.tree ≡ start
  pub none : filling (trees_on rest) ≡ []

pub rooted : (under : List Layer) (start : ℕ) → filling (trees_on under) ≡ start ∷ [] → BeginsFilled (trees_on under) → Rooted under start
rooted [] start e b = absurd (let h : [] ≡ start ∷ [] = e in cc)
rooted (l ∷ rest) start e b =
    let all : symbol_of l.tree ∷ filling (trees_on rest) ≡ start ∷ [] = sym (filling_fills l.tree (trees_on rest) b) ∙ e in
    record { top = l; rest = rest; is = refl; fills = b; symbol = cc; none = cc }

-- nothing that fills a step is left
pub emptied : (under : List Layer) → filling (trees_on under) ≡ [] → BeginsFilled (trees_on under) → under ≡ []
emptied [] e b = refl
emptied (l ∷ rest) e b = absurd (let h : symbol_of l.tree ∷ filling (trees_on rest) ≡ [] = sym (filling_fills l.tree (trees_on rest) b) ∙ e in cc)

end_by_shift : (k end place : ℕ) (ts : List Tree) → EndBy end place ts → EndBy (k + end) (k + place) ts
end_by_shift k end place [] e = tt
end_by_shift k end place (t ∷ ts) e =
    (let h = e.0 in omega arith, subst (λ (n : ℕ). EndBy (k + end) n ts) (let a : k + (place + span_of t) ≡ k + place + span_of t = omega arith in a) (end_by_shift k end (place + span_of t) ts e.1))

flat_depth : (g : FlatGrammar) (ts : List Tree) → AreGoodTrees g ts → AreExtras ts → greatest_depth ts ≤ 1
flat_depth g [] a e = omega arith
flat_depth g (t ∷ ts) a e = let h = a.0.flat_extra e.0 in omega (arith, h, flat_depth g ts a.1 e.1)

-- an extra is one node with bytes
flat_few : (g : FlatGrammar) (ts : List Tree) → AreGoodTrees g ts → AreExtras ts → all_nodes ts ≤ 2 * all_spans ts
flat_few g [] a e = omega arith
flat_few g (t ∷ ts) a e =
    let d = a.0.flat_extra e.0 in
    let s = a.0.some_extra e.0 in
    let n = a.0.light.nodes in
    let p = a.0.light.parts in
    let c : node_count t ≡ 1 + (length (elements_of t) + all_nodes (children_of t)) = fold_out-Tree ℕ nodes_step t in
    let k : greatest_depth (children_of t) ≡ 0 = let f = fold_out-Tree ℕ depth_step t in omega arith in
    let z : children_of t ≡ [] = childless (children_of t) k in
    let m : all_nodes (children_of t) ≡ 0 = ap all_nodes z in
    omega (arith, flat_few g ts a.1 e.1, c, m, p, s)
  where
    childless : (ks : List Tree) → greatest_depth ks ≡ 0 → ks ≡ []
    childless [] h = refl
    childless (k ∷ ks) h = absurd (let f = fold_out-Tree ℕ depth_step k in omega arith)

all_extra : (ts : List Tree) → AreExtras ts → All (λ node. is_extra_node node ≡ true) ts
all_extra [] a = All-nil (λ node. is_extra_node node ≡ true)
all_extra (t ∷ ts) a = All-cons (λ node. is_extra_node node ≡ true) t ts a.0 (all_extra ts a.1)

no_elements : (kind : Bool) (es : List Element) → kind ≡ false → has_form kind es ≡ true → length es ≡ 0
no_elements kind [] k h = refl
no_elements true (e ∷ es) k h = absurd (true≢false k)
no_elements false (e ∷ es) k h = absurd (true≢false (sym h))

module _ (laws : Laws) (t : ParseTable) (size place : ℕ) (stack under low rest : List Layer) (lifted lowest before after : List Tree) (root : Tree) where
  -- what was lifted and what is under it
  pub record Taken : Type 0 where
    pub fit : Fit t.grammar
    pub short : size ≤ most_span
    pub good : IsGoodStack t size stack place
    pub first : IsLifted stack lifted under
    pub read : filling (trees_on stack) ≡ start_symbol t.grammar ∷ []
    pub top : Some root ≡ tree_on under
    pub low_is : low ≡ under_top under
    pub second : IsLifted low lowest rest
    pub after_is : after ≡ reverse lifted
    pub before_is : before ≡ reverse lowest

  pub root_there : IsLifted stack lifted under → filling (trees_on stack) ≡ start_symbol t.grammar ∷ [] → Rooted under (start_symbol t.grammar)
  root_there l read = rooted under (start_symbol t.grammar) (sym (ap filling l.trees ∙ filling_extras lifted (trees_on under) l.all_extras) ∙ read) l.no_more

  pub record Whole : Type 0 where
    pub trees : trees_on stack ≡ reverse after ++ root ∷ reverse before
    pub before_extras : AreExtras before
    pub after_extras : AreExtras after
    pub fills : is_extra_node root ≡ false
    pub symbol : symbol_of root ≡ start_symbol t.grammar

  pub whole : Taken → Whole
  whole k =
      let r = root_there k.first k.read in
      let top : root ≡ r.top.tree = let h : Some root ≡ Some r.top.tree = k.top ∙ ap tree_on r.is in cc in
      let low_rest : low ≡ r.rest = k.low_is ∙ ap under_top r.is in
      let none : filling (trees_on rest) ≡ [] = sym (ap filling k.second.trees ∙ filling_extras lowest (trees_on rest) k.second.all_extras) ∙ ap (λ (l : List Layer). filling (trees_on l)) low_rest ∙ r.none in
      let empty : rest ≡ [] = emptied rest none k.second.no_more in
      let low_trees : trees_on low ≡ lowest = k.second.trees ∙ ap (λ (l : List Layer). lowest ++ trees_on l) empty ∙ append-nil lowest in
      let a : reverse after ≡ lifted = ap (λ (l : List Tree). reverse l) k.after_is ∙ reverse-reverse lifted in
      let b : reverse before ≡ lowest = ap (λ (l : List Tree). reverse l) k.before_is ∙ reverse-reverse lowest in
      let under_trees : trees_on under ≡ root ∷ reverse before =
      ap trees_on r.is ∙ ap (λ (x : Tree). x ∷ trees_on r.rest) (sym top) ∙ ap (λ (l : List Layer). root ∷ trees_on l) (sym low_rest) ∙ ap (λ (l : List Tree). root ∷ l) (low_trees ∙ sym b) in
      record {
        trees = k.first.trees ∙ ap (λ (l : List Tree). l ++ trees_on under) (sym a) ∙ ap (λ (l : List Tree). reverse after ++ l) under_trees;
        before_extras = subst AreExtras (sym k.before_is) (extras_turned lowest k.second.all_extras);
        after_extras = subst AreExtras (sym k.after_is) (extras_turned lifted k.first.all_extras);
        fills = ap is_extra_node top ∙ r.fills;
        symbol = ap symbol_of top ∙ r.symbol;
      }

  turned_whole : reverse (reverse after ++ root ∷ reverse before) ≡ before ++ root ∷ after
  turned_whole =
      reverse-append (reverse after) (root ∷ reverse before)
      ∙ ap (λ (l : List Tree). l ++ reverse (reverse after)) (turned root (reverse before))
      ∙ ap (λ (l : List Tree). (l ++ root ∷ []) ++ reverse (reverse after)) (reverse-reverse before)
      ∙ ap (λ (l : List Tree). (before ++ root ∷ []) ++ l) (reverse-reverse after)
      ∙ append_assoc before (root ∷ []) after

  pub record Ready : Type 0 where
    pub rule : IsTrue (is_some (production_of root))
    pub before_all : All (λ node. is_extra_node node ≡ true) before
    pub after_all : All (λ node. is_extra_node node ≡ true) after
    pub node : IsNode (accepted root before after (suc size))
    pub form : IsInForm t.grammar (accepted root before after (suc size))

  pub ready : Taken → Ready
  ready k =
      let w = whole k in
      let g = t.grammar in
      let good : AreGoodTrees g (before ++ root ∷ after) = subst (λ (l : List Tree). AreGoodTrees g l) (ap (λ (l : List Tree). reverse l) w.trees ∙ turned_whole) (each_turned (IsGoodTree g) (trees_on stack) k.good.good) in
      let good_before : AreGoodTrees g before = each_left (IsGoodTree g) before (root ∷ after) good in
      let good_rest : AreGoodTrees g (root ∷ after) = each_right (IsGoodTree g) before (root ∷ after) good in
      let r = good_rest.0 in
      let reach : EndBy (suc size) 0 (before ++ root ∷ after) = subst (λ (l : List Tree). EndBy (suc size) 0 l) (ap (λ (l : List Tree). reverse l) w.trees ∙ turned_whole) k.good.reach in
      let parts = end_by_split (suc size) 0 before (root ∷ after) reach in
      let ks = children_of root in
      let own = r.node.settled r.settled in
      let own_form = own_forms g root r.form in
      let plain : is_repetition g (symbol_of root) ≡ false = ap (is_repetition g) w.symbol ∙ laws.start_rule g k.fit in
      let no_parts : length (elements_of root) ≡ 0 = no_elements (is_repetition g (symbol_of root)) (elements_of root) plain own_form.0 in
      let count : node_count root ≡ 1 + (length (elements_of root) + all_nodes ks) = fold_out-Tree ℕ nodes_step root in
      let depth : tree_depth root ≡ 1 + greatest_depth ks = fold_out-Tree ℕ depth_step root in
      let shallow = r.node.sized.shallow in
      let inside = r.node.sized.within in
      let nodes = r.light.nodes in
      let deep : tree_depth root * span_of root ≤ 1000 * span_of root = mul-le-mul_right (span_of root) shallow in
      let few_before = flat_few g before good_before w.before_extras in
      let few_after = flat_few g after good_rest.1 w.after_extras in
      let low_before = flat_depth g before good_before w.before_extras in
      let low_after = flat_depth g after good_rest.1 w.after_extras in
      let total : all_spans (trees_on stack) ≡ all_spans (before ++ root ∷ after) = sym (spans_turned (trees_on stack)) ∙ ap all_spans (ap (λ (l : List Tree). reverse l) w.trees ∙ turned_whole) in
      let sum = all_spans-append before (root ∷ after) in
      let all = all_nodes-append (before ++ ks) after in
      let all' = all_nodes-append before ks in
      let spans = all_spans-append (before ++ ks) after in
      let spans' = all_spans-append before ks in
      let depths = greatest_depth-append (before ++ ks) after in
      let depths' = greatest_depth-append before ks in
      let placed = k.good.spans in
      let within = k.good.within in
      let short = k.short in
      let m : unsigned_abs (total_of root) ≤ 2 ^ 31 * node_count root = r.node.modest in
      let inner : forms g ((before ++ ks) ++ after) ≡ true = forms_append g (before ++ ks) after (forms_append g before ks (forms_each g before good_before) own_form.1) (forms_each g after good_rest.1) in
      record {
        rule = r.rule w.symbol;
        before_all = all_extra before w.before_extras;
        after_all = all_extra after w.after_extras;
        node = fit_is_node (symbol_of root) (production_of root) (total_of root) (suc size) None [] ((before ++ ks) ++ after) (record {
          few = omega arith;
          short = omega arith;
          shallow = omega arith;
          counted = tt;
          modest = omega arith;
          past = omega arith;
          inner = All-append (λ child. is_settled child ≡ true) (before ++ ks) after (All-append (λ child. is_settled child ≡ true) before ks (each_settled g before good_before) own.inner) (each_settled g after good_rest.1);
          elements = none_has (total_of root) (suc size) ((before ++ ks) ++ after);
          covers = end_by_both (suc size) 0 (before ++ ks) after
              (end_by_both (suc size) 0 before ks parts.0
              (end_by_wider (all_spans before + node_extent root) (suc size) (all_spans before + 0) (0 + all_spans before) ks (let h = parts.1.0 in omega arith) (omega arith) (end_by_shift (all_spans before) (node_extent root) 0 ks own.covers)))
              (end_by_wider (suc size) (suc size) (0 + all_spans before + span_of root) (0 + all_spans (before ++ ks)) after (omega arith) (omega arith) parts.1.1);
        });
        form = fold-roll-Tree Bool (form_step g) (over_layer (symbol_of root) (production_of root) (total_of root) (suc size) None [] ((before ++ ks) ++ after))
            ∙ both (has_form (is_repetition g (symbol_of root)) []) (forms g ((before ++ ks) ++ after)) (form_of_none (is_repetition g (symbol_of root)) plain) inner;
      }

  pub is_root : (u : Tree) → Taken → u ≡ accepted root before after (suc size) → IsRootOf (map bare (trees_on stack)) (bare u)
  is_root u k is =
      let w = whole k in
      record {
        before = map bare before;
        root = bare root;
        after = map bare after;
        stack_is = ap (λ (l : List Tree). map bare l) w.trees ∙ map-append bare (reverse after) (root ∷ reverse before)
            ∙ ap (λ (l : List Tree). l ++ bare root ∷ map bare (reverse before)) (turned_bare after) ∙ ap (λ (l : List Tree). reverse (map bare after) ++ bare root ∷ l) (turned_bare before);
        before_extras = extras_bare laws before w.before_extras;
        root_fills = (laws.keeps root).extra ∙ w.fills;
        after_extras = extras_bare laws after w.after_extras;
        tree_is = ap bare is ∙ laws.accepted_bare root before after (suc size);
      }

  -- ---- the same of other forms of the lists

  pub ready_before : (bs : List Tree) → bs ≡ before → Taken → All (λ node. is_extra_node node ≡ true) bs
  ready_before bs e k = subst (λ (l : List Tree). All (λ node. is_extra_node node ≡ true) l) (sym e) (ready k).before_all

  pub ready_after : (cs : List Tree) → cs ≡ after → Taken → All (λ node. is_extra_node node ≡ true) cs
  ready_after cs e k = subst (λ (l : List Tree). All (λ node. is_extra_node node ≡ true) l) (sym e) (ready k).after_all

  pub same_accepted : (bs cs : List Tree) (extent : ℕ) → bs ≡ before → cs ≡ after → extent ≡ suc size → accepted root bs cs extent ≡ accepted root before after (suc size)
  same_accepted bs cs extent b a e = ap (λ (l : List Tree). accepted root l cs extent) b ∙ ap (λ (l : List Tree). accepted root before l extent) a ∙ ap (λ (n : ℕ). accepted root before after n) e

  pub ready_node : (bs cs : List Tree) (extent : ℕ) → bs ≡ before → cs ≡ after → extent ≡ suc size → Taken → IsNode (accepted root bs cs extent)
  ready_node bs cs extent b a e k = subst IsNode (sym (same_accepted bs cs extent b a e)) (ready k).node

  pub root_by : (bs cs : List Tree) (extent : ℕ) (u : Tree) → bs ≡ before → cs ≡ after → extent ≡ suc size → u ≡ accepted root bs cs extent → Taken → IsRootOf (map bare (trees_on stack)) (bare u)
  root_by bs cs extent u b a e is k = is_root u k (is ∙ same_accepted bs cs extent b a e)

  pub form_by : (bs cs : List Tree) (extent : ℕ) (u : Tree) → bs ≡ before → cs ≡ after → extent ≡ suc size → u ≡ accepted root bs cs extent → Taken → IsInForm t.grammar u
  form_by bs cs extent u b a e is k = subst (λ (x : Tree). IsInForm t.grammar x) (sym (is ∙ same_accepted bs cs extent b a e)) (ready k).form

  -- it examined no more than the text and its end, so it lies in the text
  pub within_by : (bs cs : List Tree) (extent : ℕ) (u : Tree) → bs ≡ before → cs ≡ after → extent ≡ suc size → u ≡ accepted root bs cs extent → Taken → span_of u ≤ size
  within_by bs cs extent u b a e is k =
      let o = out-roll-Tree (over_layer (symbol_of root) (production_of root) (total_of root) (suc size) None [] ((before ++ children_of root) ++ after)) in
      let made : is_settled (accepted root before after (suc size)) ≡ true = ap (λ (x : Tree-F Tree). x.settled) o in
      let reach : node_extent (accepted root before after (suc size)) ≡ suc size = ap (λ (x : Tree-F Tree). x.extent) o in
      let p = ((ready k).node.settled made).past in
      let same : span_of u ≡ span_of (accepted root before after (suc size)) = ap span_of (is ∙ same_accepted bs cs extent b a e) in
      omega (arith, p, reach, same)

-- something lies under the extras on top
pub some_under : (t : ParseTable) (stack under : List Layer) (lifted : List Tree) → IsLifted stack lifted under → filling (trees_on stack) ≡ start_symbol t.grammar ∷ [] → 0 < length under
some_under t stack under lifted l read =
    let r = rooted under (start_symbol t.grammar) (sym (ap filling l.trees ∙ filling_extras lifted (trees_on under) l.all_extras) ∙ read) l.no_more in
    omega (arith, ap (λ (x : List Layer). length x) r.is)
