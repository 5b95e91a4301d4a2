-- What a reduction of the only stack comes to: its node has its state, and its trees stand.
use Rattle.std.proofs.Common.{◌≡◌, ◌∙◌, sym, ap, refl, subst, ℕ, ◌+◌, ◌-◌, ◌<◌, ◌≤◌, ◌↔◌, Bool, true, false, IsTrue, is_some, List, [], ◌∷◌, ◌++◌, append_assoc, length, map, reverse, drop, get_or, Option, Some, None, arith}
use Rattle.std.proofs.lemmas.List.{map-append, reverse-append, reverse-reverse, drop-drop, drop_all}
use lib.IntN.{ℤ, ◌+ℤ◌}
use Rattle.ts_base.specs.Bytes.{Bytes}
use Rattle.ts_core.specs.declared.flat.FlatGrammar.{FlatGrammar}
use Rattle.ts_core.specs.declared.flat.Production.{Production}
use Rattle.ts_core.specs.declared.symbol.Symbol.{Symbol}
use Rattle.spec_lexing.specs.Lexing.{token}
use Rattle.spec_tables.specs.Actions.{Act, reduce}
use Rattle.spec_trees.specs.declared.tree.Tree.{Tree}
use Rattle.spec_trees.specs.declared.tree.Element.{Element}
use Rattle.spec_trees.specs.declared.tree.Tree.TheOpen.{Tree-F}
use Rattle.spec_trees.specs.declared.tree.Tree.TheViews.{out-roll-Tree}
use Rattle.spec_trees.specs.Trees.{elements_of, children_of, state_of, span_of, all_spans, total_of, all_totals, tree_depth, bare}
use Rattle.spec_trees.specs.Made.{Form, of_rule, of_first, of_next, form_of, value_of, made_by, node_over, element, reduced, filling, BeginsFilled, Lengthens, EndBy, most_span, most_depth}
use Rattle.spec_runs.specs.Configurations.{IsReduction, AreExtras, AreValidTokens, stack_symbols}
use Rattle.spec_packing.specs.Packing.{PackedTree, PackedStack, packed_trees, packed_depths, IsPackedReduction}
use Rattle.spec_forced.specs.Forced.{IsDecided, IsOnlyMove, StandInTurn, MakesNode}
use Rattle.spec_forced.specs.Sound.{States, IsStateAfter, EachHasState, IsWholeSoFar, StandOnStack}
use Rattle.spec_trees.specs.Reducible.{HasSmallValue}
use Rattle.ts_table.specs.declared.view.ParseTable.{ParseTable}
use Rattle.ts_table.specs.Tables.{IsTable, IsStateOf, by_goto}
use Rattle.ts_gss.specs.declared.layer.Layer.{Layer}
use Rattle.ts_gss.specs.Stacks.{stack_at, trees_on, state_on}
use Rattle.ts_gss.specs.Paths.{AreDepthsOf}
use Rattle.ts_steps.specs.declared.head.StackHead.{StackHead}
use Rattle.ts_steps.specs.declared.lines.ProductionLine.{ProductionLine}
use Rattle.ts_steps.specs.MoveLaws.{Laws}
use Rattle.ts_steps.specs.Lines.{IsLine}
use Rattle.ts_steps.specs.Good.{CanReduce, EachTree, AreGoodTrees}
use Rattle.ts_steps.specs.Making.{depth_by}
use Rattle.ts_steps.specs.LiveHeads.{config_of, packed_of, packed_tree, packed_own, packed_layers, IsGoodStack, IsLiveHead, read_on, CanPut, IsGathered, AreLayersTaken, AreAlone, IsReducedTo}
use Rattle.ts_steps.proofs.NodeLemmas.{reduced_shape, reduced_good, reduced_is, fits, over_layer, each_append, each_left, each_right, each_turned, end_by_both, end_by_wider}
use Rattle.ts_steps.proofs.StackLemmas.{turned_bare, extras_turned, filling_extras, filling_append, filling_bare, extras_bare, begins_bare, same_config, state_top, spans_turned}
use Rattle.ts_steps.proofs.MakingLemmas.{dropped, reduced_depth}
use Rattle.ts_steps.proofs.LayerLemmas.{map_turned, layers_trees, own_trees, over_depths, own_less, alone_left, alone_right, alone_back, depths_alone, bare_depths, own_exact}
use Rattle.ts_steps.proofs.PutLemmas.{can_reduce, can_put, stands}
use Rattle.ts_steps.specs.declared.ahead.TokenAhead.{TokenAhead}
use Rattle.ts_steps.specs.Laws.{SoundLaws}
use Rattle.ts_steps.proofs.OverLemmas.{made_reduced}
use Rattle.ts_steps.specs.Heads.{AreStatesOf, state_where, IsOwnWithin, IsMadeNode, IsOwnHead, StandOnHead, IsMoveAhead}
use Rattle.ts_steps.specs.Reducing.{CoversMaking, IsWithoutChoice, IsNodePut}
use Rattle.ts_steps.proofs.OwnLemmas.{own_over, own_children, each_at}
use Rattle.ts_steps.proofs.TableLemmas.{state_after, valid_tokens}
use Rattle.ts_steps.proofs.HeadLemmas.{only_of}

-- ---- lists

-- the children and the extras behind them, the last one first
pub turned_both : (children extras below : List Tree) → reverse (children ++ extras) ++ below ≡ reverse extras ++ (reverse children ++ below)
turned_both children extras below =
    ap (λ (l : List Tree). l ++ below) (reverse-append children extras) ∙ append_assoc (reverse extras) (reverse children) below

pub both_have : (xs ys : List Tree) → EachHasState xs → EachHasState ys → EachHasState (xs ++ ys)
both_have [] ys a b = b
both_have (x ∷ xs) ys a b = (a.0, both_have xs ys a.1 b)

-- ---- which of a list have states

pub lacks : (o : Option ℕ) → is_some o ≡ false → o ≡ None
lacks None e = refl
lacks (Some n) e = let k : true ≡ false = e in cc

pub has_one : (o : Option ℕ) → is_some o ≡ true → (n : ℕ) × (o ≡ Some n)
has_one None e = let k : false ≡ true = e in cc
has_one (Some n) e = (n, refl)

pub has_none : (ts : List Tree) (i : ℕ) (t : Tree) → i < length ts → t ≡ get_or ts i t → state_of t ≡ None → EachHasState ts ↔ EachHasState (drop i ts) → EachHasState ts → ⊥
has_none ts i t low is none inv each =
    let w : EachHasState (t ∷ drop (i + 1) ts) = subst EachHasState (dropped ts i t low is) (inv.0 each) in
    let h : None ≡ Some w.0.0 = sym none ∙ w.0.1 in
    cc

pub has_more : (ts : List Tree) (i : ℕ) (t : Tree) → i < length ts → t ≡ get_or ts i t → (n : ℕ) × (state_of t ≡ Some n) → EachHasState ts ↔ EachHasState (drop i ts) → EachHasState ts ↔ EachHasState (drop (i + 1) ts)
has_more ts i t low is some inv =
    let d = dropped ts i t low is in
    ((λ each. (subst EachHasState d (inv.0 each)).1), (λ rest. inv.1 (subst EachHasState (sym d) (some, rest))))

pub has_all : (ts : List Tree) (i : ℕ) → length ts ≤ i → EachHasState ts ↔ EachHasState (drop i ts) → EachHasState ts
has_all ts i past inv = inv.1 (subst EachHasState (sym (drop_all i ts past)) tt)

-- ---- whether a choice was made

pub without : (only stated out : Bool) (steps : ℕ) (children extras : List Tree) → IsTrue out ↔ ((only ≡ true) × (stated ≡ true) × (0 < steps)) → IsTrue stated ↔ (EachHasState children × EachHasState extras)
    → IsTrue out ↔ IsWithoutChoice only steps children extras
without only stated out steps children extras a b = (
  (λ h. let w = a.0 h in let each = b.0 w.1 in record { move = w.0; some = w.2; inner = each.0; lifted = each.1 }),
  (λ k. a.1 (k.move, b.1 (k.inner, k.lifted), k.some)),
)

pub state_has : (only out : Bool) (steps low n : ℕ) (s : Option ℕ) (children extras : List Tree) → s ≡ state_where out low → IsTrue out ↔ IsWithoutChoice only steps children extras → s ≡ Some n → (n ≡ low) × IsWithoutChoice only steps children extras
state_has only out steps low n s children extras is with some =
    let o = only_of out low n (sym is ∙ some) in (sym o.1, with.0 o.0)

one_left : (a b : ℕ) (p q : Production) → ◌≡◌ {A = Option (ℕ × Production)} (Some (a, p)) (Some (b, q)) → a ≡ b
one_left a b p q e = let both : ◌≡◌ {A = ℕ × Production} (a, p) (b, q) = cc in ap (λ (x : ℕ × Production). x.0) both

-- ---- the nodes in the node

pub over_children : (symbol : ℕ) (production : Option ℕ) (dynamic : ℤ) (extent : ℕ) (s : Option ℕ) (es : List Element) (ks : List Tree) → children_of (node_over symbol production dynamic extent s es ks) ≡ ks
over_children symbol production dynamic extent s es ks = ap (λ (x : Tree-F Tree). x.children) (out-roll-Tree (over_layer symbol production dynamic extent s es ks))

made_own : (g : FlatGrammar) (f : Form) (symbol number : ℕ) (value : ℤ) (extent : ℕ) (s : Option ℕ) (ks : List Tree) → EachTree (IsOwnWithin g) ks → EachTree (IsOwnWithin g) (children_of (made_by f symbol number value extent s ks))
made_own g of_rule symbol number value extent s ks each =
    subst (λ (l : List Tree). EachTree (IsOwnWithin g) l) (sym (over_children symbol (Some number) (value +ℤ all_totals ks) extent s [] ks)) each
made_own g (of_first a) symbol number value extent s ks each =
    subst (λ (l : List Tree). EachTree (IsOwnWithin g) l) (sym (over_children symbol None (value +ℤ all_totals ks) extent s (element a (length ks) value extent ∷ []) ks)) each
made_own g (of_next a) symbol number value extent s [] each =
    subst (λ (l : List Tree). EachTree (IsOwnWithin g) l) (sym (over_children symbol None value extent s [] [])) tt
made_own g (of_next a) symbol number value extent s (k ∷ ks) each =
    subst (λ (l : List Tree). EachTree (IsOwnWithin g) l) (sym (over_children symbol None (value +ℤ (total_of k +ℤ all_totals ks)) extent s (elements_of k ++ element a (length ks) value (extent - span_of k) ∷ []) (children_of k ++ ks)))
    (each_append (IsOwnWithin g) (children_of k) ks (own_children g k each.0) each.1)

module _ (laws : Laws) (g : FlatGrammar) (number left : ℕ) (p : Production) (extent : ℕ) (ks : List Tree) (c : CanReduce g number left p extent ks) where
  pub node_own : (s : Option ℕ) → tree_depth (reduced g number extent s ks) ≤ most_depth → EachTree (IsOwnWithin g) ks → IsOwnWithin g (reduced g number extent s ks)
  node_own s shallow each =
      let u = reduced g number extent s ks in
      let good = reduced_good laws g number left p extent s ks c shallow in
      let sh = reduced_shape laws g number left p extent s ks c in
      let own_kids : children_of u ≡ sh.children = ap children_of sh.is ∙ over_children left sh.production sh.dynamic extent s sh.elements sh.children in
      let whole : span_of u ≡ all_spans (children_of u) = good.1.span ∙ sym sh.same ∙ sym (ap all_spans own_kids) in
      let kids : EachTree (IsOwnWithin g) (children_of u) =
      subst (λ (x : Tree). EachTree (IsOwnWithin g) (children_of x)) (sym (reduced_is laws g number left p extent s ks c.at)) (made_own g (form_of g left number) left number (value_of g number) extent s ks each) in
      own_over g u (record { good = good.0; filled = λ h. whole }) (λ k v at. each_at (IsOwnWithin g) (children_of u) k v kids at)

  -- where a repetition is lengthened, the one so far takes just the bytes of its children, and its elements have them
  pub whole_so_far : IsWholeSoFar g left number ks
  whole_so_far a t others form is =
      let f = fits laws g number left p extent ks c in
      let same : f.left ≡ left = one_left f.left left f.production p (sym f.at ∙ c.at) in
      let longer : Lengthens (form_of g left number) ks = subst (λ (n : ℕ). Lengthens (form_of g n number) ks) same f.lengthens in
      let longer' : Lengthens (of_next a) (t ∷ others) = subst (λ (l : List Tree). Lengthens (of_next a) l) is (subst (λ (x : Form). Lengthens x ks) form longer) in
      let good : AreGoodTrees g (t ∷ others) = subst (λ (l : List Tree). AreGoodTrees g l) is c.good in
      (sym (good.0.whole longer'), good.0.node.counted)

-- ---- the stack after it

same_layers : (ls ms : List PackedTree) (place : ℕ) → ls ≡ ms → ◌≡◌ {A = PackedStack} (record { stack = ls; place = place }) (record { stack = ms; place = place })
same_layers ls ms place e = ap {B = PackedStack} (λ (l : List PackedTree). record { stack = l; place = place }) e

module _ (laws : Laws) (t : ParseTable) (size number on : ℕ) (old : List (List Layer)) (h : StackHead) (l : ProductionLine) (stays : Act t.grammar (read_on old h) on (reduce number)) (line : IsLine t.grammar number l) (small : HasSmallValue t.grammar number)
    (extras children : List Tree) (extent : ℕ) (below : List Layer) (gat : IsGathered t size (stack_at old h.top) h.place l.steps extras children extent below) (table : IsTable t) (short : size ≤ most_span)
    (first others : ℕ) (layers : AreLayersTaken (stack_at old h.top) extras children first others below) where
  abbrev g : FlatGrammar
  g = t.grammar

  can : CanReduce g number l.left.0 line.production extent children
  can = can_reduce laws t size number on old h l stays line small extras children extent below gat table short

  module _ (s : Option ℕ) where
    abbrev node : Tree
    node = reduced g number extent s children

    abbrev after : List Tree
    after = map bare (reverse extras) ++ bare node ∷ map bare (trees_on below)

    reduction : IsReduction g number (config_of old h).stack (bare node) after
    reduction = record {
      left = l.left.0;
      production = line.production;
      at = line.at;
      lifted = map bare (reverse extras);
      children = map bare children;
      below = map bare (trees_on below);
      stack_is = ap (λ (l : List Tree). map bare l) gat.trees ∙ map-append bare (reverse extras) (reverse children ++ trees_on below)
          ∙ ap (λ (l : List Tree). map bare (reverse extras) ++ l) (map-append bare (reverse children) (trees_on below) ∙ ap (λ (l : List Tree). l ++ map bare (trees_on below)) (turned_bare children));
      extras = extras_bare laws (reverse extras) (extras_turned extras gat.all_extras);
      all_lifted = subst BeginsFilled (map-append bare (reverse children) (trees_on below) ∙ ap (λ (l : List Tree). l ++ map bare (trees_on below)) (turned_bare children)) (begins_bare laws (reverse children ++ trees_on below) gat.no_more);
      count = ap (λ (x : List ℕ). length x) (filling_bare laws children) ∙ gat.filled ∙ line.steps;
      first_fills = begins_bare laws children gat.begins;
      node_is = laws.reduced_bare g number extent s children;
      after_is = refl;
    }

    -- ---- the layers

    abbrev over : ℕ
    over = depth_by l.lengthens first others

    abbrev layer : PackedTree
    layer = packed_tree node over

    abbrev front : List PackedTree
    front = map packed_own (reverse extras)

    abbrev left : List PackedTree
    left = front ++ layer ∷ packed_layers below

    low_trees : packed_trees (reverse layers.taken ++ packed_layers below) ≡ map bare (reverse children ++ trees_on below)
    low_trees =
        map-append (λ (x : PackedTree). x.tree) (reverse layers.taken) (packed_layers below)
        ∙ ap (λ (ts : List Tree). ts ++ packed_trees (packed_layers below)) (map_turned (λ (x : PackedTree). x.tree) layers.taken ∙ ap (λ (ts : List Tree). reverse ts) layers.trees ∙ sym (turned_bare children))
        ∙ ap (λ (ts : List Tree). map bare (reverse children) ++ ts) (layers_trees below)
        ∙ sym (map-append bare (reverse children) (trees_on below))

    packed : IsPackedReduction g number (packed_of old h).stack layer left
    packed = record {
      left = l.left.0;
      production = line.production;
      at = line.at;
      lifted = front;
      children = layers.taken;
      below = packed_layers below;
      stack_is = layers.layers;
      extras = subst AreExtras (sym (own_trees (reverse extras))) (extras_bare laws (reverse extras) (extras_turned extras gat.all_extras));
      all_lifted = subst BeginsFilled (sym low_trees) (begins_bare laws (reverse children ++ trees_on below) gat.no_more);
      count = ap (λ (ts : List Tree). length (filling ts)) layers.trees ∙ ap (λ (x : List ℕ). length x) (filling_bare laws children) ∙ gat.filled ∙ line.steps;
      first_fills = subst BeginsFilled (sym layers.trees) (begins_bare laws children gat.begins);
      tree_is = laws.reduced_bare g number extent s children ∙ ap (λ (ts : List Tree). bare (reduced g number 0 None ts)) (sym layers.trees);
      depth_is = ap (λ (b : Bool). depth_by b first others) (sym line.lengthens) ∙ sym (over_depths (form_of g l.left.0 number) (packed_depths layers.taken) first others layers.depths);
      after_is = refl;
    }

    -- the layer is as deep as its tree where all are on the stack
    exact_layer : AreAlone (packed_of old h).stack → over ≡ tree_depth (bare node)
    exact_layer all =
        let low = alone_right front (reverse layers.taken ++ packed_layers below) (subst AreAlone layers.layers all) in
        let taken = alone_back layers.taken (alone_left (reverse layers.taken) (packed_layers below) low) in
        let depths : packed_depths layers.taken ≡ map tree_depth children =
        depths_alone layers.taken taken ∙ ap (λ (ts : List Tree). map tree_depth ts) layers.trees ∙ bare_depths laws.keeps children in
        own_exact l.lengthens children first others (subst (λ (ds : List ℕ). AreDepthsOf ds first others) depths layers.depths)
        ∙ sym (reduced_depth laws g number l.left.0 line.production extent s l.lengthens children can line.lengthens) ∙ sym (laws.keeps node).depth

    -- the layer is too deep
    pub done_none : (new : List (List Layer)) → most_depth < over → IsReducedTo t size number old new h None
    done_none new deep = record { node = bare node; after = after; reduction = reduction; layer = layer; layers = left; packed = packed; same = refl; exact = exact_layer; done = deep }

    -- the node is no deeper than its layer
    pub within_layer : tree_depth node ≤ over
    within_layer = omega (arith, reduced_depth laws g number l.left.0 line.production extent s l.lengthens children can line.lengthens, own_less l.lengthens children (packed_depths layers.taken) first others layers.covers layers.depths)

    module _ (u : Tree) (u_is : u ≡ node) (fits : over ≤ most_depth) where
      shallow : tree_depth node ≤ most_depth
      shallow = omega (arith, within_layer, fits)

      -- the node can be put on the stack below
      put_can : CanPut t size (all_spans (trees_on below)) l.left.0 u over extras
      put_can =
          subst (λ (x : Tree). CanPut t size (all_spans (trees_on below)) l.left.0 x over extras) (sym u_is)
          (can_put laws t size number on old h l stays line small extras children extent below gat s over table short within_layer fits)

      module _ (new : List (List Layer)) (top : ℕ) (there : top < length new) (trees : trees_on (stack_at new top) ≡ reverse extras ++ u ∷ trees_on below)
          (good : (place : ℕ) → IsGoodStack t size below place → CanPut t size place l.left.0 u over extras → IsGoodStack t size (stack_at new top) (place + (span_of u + all_spans extras))) where
        span_is : span_of u ≡ all_spans children
        span_is = ap span_of u_is ∙ (reduced_good laws g number l.left.0 line.production extent s children can shallow).1.span

        live : IsLiveHead t size new (record { top = top; place = h.place })
        live =
            let place : all_spans (trees_on below) + (span_of u + all_spans extras) ≡ h.place = omega (arith, span_is, gat.place_is) in
            record { there = there; stack = subst (λ (n : ℕ). IsGoodStack t size (stack_at new top) n) place (good (all_spans (trees_on below)) gat.base put_can) }

        -- the node was put there
        pub done_some : packed_layers (stack_at new top) ≡ front ++ packed_tree u over ∷ packed_layers below → IsReducedTo t size number old new h (Some (record { top = top; place = h.place }))
        done_some lies =
            let stack : map bare (trees_on (stack_at new top)) ≡ after =
            ap (λ (l : List Tree). map bare l) trees ∙ map-append bare (reverse extras) (u ∷ trees_on below)
            ∙ ap (λ (x : Tree). map bare (reverse extras) ++ bare x ∷ map bare (trees_on below)) u_is in
            record {
              node = bare node;
              after = after;
              reduction = reduction;
              layer = layer;
              layers = left;
              packed = packed;
              same = refl;
              exact = exact_layer;
              done = (
                subst (λ (n : ℕ). n ≤ most_depth) (sym (laws.keeps node).depth) shallow,
                live,
                same_config (map bare (trees_on (stack_at new top))) after h.place h.place stack refl,
                fits,
                same_layers (packed_layers (stack_at new top)) left h.place (lies ∙ ap (λ (x : Tree). front ++ packed_tree x over ∷ packed_layers below) u_is),
              );
            }

        pub done_own : EachTree (IsOwnWithin g) (trees_on (stack_at old h.top)) → EachTree (IsMadeNode g) (trees_on (stack_at old h.top)) → IsOwnHead t size new (record { top = top; place = h.place })
        done_own each each_made =
            let all : EachTree (IsOwnWithin g) (reverse extras ++ (reverse children ++ trees_on below)) = subst (λ (l : List Tree). EachTree (IsOwnWithin g) l) gat.trees each in
            let front = each_left (IsOwnWithin g) (reverse extras) (reverse children ++ trees_on below) all in
            let rest = each_right (IsOwnWithin g) (reverse extras) (reverse children ++ trees_on below) all in
            let kids : EachTree (IsOwnWithin g) children =
            subst (λ (l : List Tree). EachTree (IsOwnWithin g) l) (reverse-reverse children) (each_turned (IsOwnWithin g) (reverse children) (each_left (IsOwnWithin g) (reverse children) (trees_on below) rest)) in
            let all_made : EachTree (IsMadeNode g) (reverse extras ++ (reverse children ++ trees_on below)) = subst (λ (l : List Tree). EachTree (IsMadeNode g) l) gat.trees each_made in
            let rest_made = each_right (IsMadeNode g) (reverse extras) (reverse children ++ trees_on below) all_made in
            let own : IsOwnWithin g u = subst (λ (x : Tree). IsOwnWithin g x) (sym u_is) (node_own laws g number l.left.0 line.production extent children can s shallow kids) in
            record {
              live = live;
              own = subst (λ (l : List Tree). EachTree (IsOwnWithin g) l) (sym trees)
                  (each_append (IsOwnWithin g) (reverse extras) (u ∷ trees_on below) front (own, each_right (IsOwnWithin g) (reverse children) (trees_on below) rest));
              made = subst (λ (l : List Tree). EachTree (IsMadeNode g) l) (sym trees)
                  (each_append (IsMadeNode g) (reverse extras) (u ∷ trees_on below) (each_left (IsMadeNode g) (reverse extras) (reverse children ++ trees_on below) all_made)
                  (subst (λ (x : Tree). IsMadeNode g x) (sym u_is) (made_reduced g number extent s children), each_right (IsMadeNode g) (reverse children) (trees_on below) rest_made));
            }

        -- what the node is
        pub done_put : (a : TokenAhead) (stated : Bool) → CoversMaking extent a.found.extent children extras → s ≡ state_where stated (state_on below)
            → IsTrue stated ↔ IsWithoutChoice a.only l.steps children extras → IsNodePut t number a (trees_on (stack_at old h.top)) (trees_on (stack_at new top))
        done_put a stated covers s_is with = record {
          left = l.left.0;
          production = line.production;
          at = line.at;
          extras = extras;
          children = children;
          below = trees_on below;
          all_extras = gat.all_extras;
          old_is = gat.trees;
          no_more = gat.no_more;
          begins = gat.begins;
          count = gat.filled ∙ line.steps;
          state = state_on below;
          leads = state_top t below gat.base.states;
          stated = stated;
          choice = subst (λ (n : ℕ). IsTrue stated ↔ IsWithoutChoice a.only n children extras) line.steps with;
          extent = extent;
          covers = covers;
          new_is = trees ∙ ap (λ (x : Tree). reverse extras ++ x ∷ trees_on below) (u_is ∙ ap (λ (o : Option ℕ). reduced g number extent o children) s_is);
        }

        -- ---- its trees stand

        module _ (sound : SoundLaws) (states : States) (text : Bytes) (are : AreStatesOf t states) (a : TokenAhead) (covers : CoversMaking extent a.found.extent children extras) (ahead : IsMoveAhead t text old h a (reduce number))
            (s_has : (n : ℕ) → s ≡ Some n → (n ≡ state_on below) × IsWithoutChoice a.only l.steps children extras) (stand : StandOnHead t states text old h) where
          abbrev low : List ℕ
          low = filling (trees_on below)

          abbrev rest : Bytes
          rest = drop (all_spans (trees_on below)) text

          stand_all : StandOnStack g states text (reverse extras ++ (reverse children ++ trees_on below))
          stand_all = subst (λ (l : List Tree). StandOnStack g states text l) gat.trees stand

          read_is : read_on old h ≡ stack_symbols (reverse children) ++ low
          read_is =
              ap filling gat.trees
              ∙ filling_extras (reverse extras) (reverse children ++ trees_on below) (extras_turned extras gat.all_extras)
              ∙ filling_append (reverse children) (trees_on below)

          text_is : drop h.place text ≡ drop (all_spans children + all_spans (reverse extras)) rest
          text_is =
              let sum : all_spans (trees_on below) + (all_spans children + all_spans (reverse extras)) ≡ h.place = omega (arith, gat.place_is, spans_turned extras) in
              ap (λ (n : ℕ). drop n text) (sym sum) ∙ sym (drop-drop (all_spans children + all_spans (reverse extras)) (all_spans (trees_on below)) text)

          makes : IsWithoutChoice a.only l.steps children extras → MakesNode g low rest number children (reverse extras) extent
          makes w = record {
            left = l.left.0;
            production = line.production;
            at = line.at;
            some = omega (arith, w.some, line.steps);
            stand = subst (λ (x : List Tree). StandInTurn g low rest (children ++ x)) (sym (reverse-reverse extras))
                (sound.in_turn g states text (children ++ extras) (trees_on below) (both_have children extras w.inner w.lifted)
                (subst (λ (l : List Tree). StandOnStack g states text l) (sym (turned_both children extras (trees_on below))) stand_all));
            covers = subst (λ (x : List Tree). EndBy extent 0 (children ++ x)) (sym (reverse-reverse extras))
                (end_by_both extent 0 children extras covers.inner (end_by_wider extent extent (all_spans children) (0 + all_spans children) extras (omega arith) (omega arith) covers.lifted));
            all_extras = extras_turned extras gat.all_extras;
            begins = gat.begins;
            ends = can.ends;
            count = gat.filled ∙ line.steps;
            symbol = a.found.token;
            pad = a.found.pad;
            size = a.found.size;
            ahead = a.found.extent;
            seen = subst (λ (x : List ℕ). IsDecided g x (drop (all_spans children + all_spans (reverse extras)) rest) (token a.found.token a.found.pad a.found.size) a.found.extent) read_is
                (subst (λ (x : Bytes). IsDecided g (read_on old h) x (token a.found.token a.found.pad a.found.size) a.found.extent) text_is ahead.decided);
            only = subst (λ (x : List ℕ). IsOnlyMove g x a.found.token.0 (reduce number)) read_is (ahead.only w.move);
            reach = let r = covers.reach in let e = spans_turned extras in omega arith;
          }

          own : (n : ℕ) → s ≡ Some n → IsStateAfter g states n low × MakesNode g low rest number children (reverse extras) extent × EachHasState children
          own n e =
              let w = s_has n e in
              let st : IsStateOf t low n = subst (λ (k : ℕ). IsStateOf t low k) (sym w.0) (state_top t below gat.base.states) in
              (state_after t states low n table are st, makes w.1, w.1.inner)

          valid : (v : List Symbol) × AreValidTokens g (l.left.0 ∷ low) v
          valid =
              let st = state_top t below gat.base.states in
              let before = stands laws t size number on old h l stays line small extras children extent below gat in
              let next = (table.gotos low (state_on below) l.left.0 st).1 before in
              let v = sound.tokens t next.0 in
              (v.0, valid_tokens laws t (l.left.0 ∷ low) next.0 v.0 table (by_goto low (state_on below) l.left.0 next.0 st next.1) v.1)

          pub done_stands : StandOnStack g states text (trees_on (stack_at new top))
          done_stands =
              subst (λ (l : List Tree). StandOnStack g states text l) (ap (λ (x : Tree). reverse extras ++ x ∷ trees_on below) (sym u_is) ∙ sym trees)
              (sound.put g can.fit states text number l.left.0 line.production children (reverse extras) (trees_on below) extent s valid.0 line.at can.filled (whole_so_far laws g number l.left.0 line.production extent children can)
              (extras_turned extras gat.all_extras) valid.1 shallow own stand_all)
