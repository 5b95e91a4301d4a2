-- The topmost tree of a stack is laid above those below it.
use Rattle.std.proofs.Common.{◌≡◌, ◌∙◌, sym, ap, refl, subst, ℕ, suc, ◌+◌, ◌<◌, ◌≤◌, ◌⊎◌, inl, inr, ⊎_elim, Bool, true, false, List, [], ◌∷◌, ◌++◌, length, map, reverse, slice_get, Some, arith}
use Rattle.std.specs.List.{Contains}
use Rattle.std.proofs.lemmas.List.{map-append, reverse-append}
use Rattle.ts_base.specs.Bytes.{Bytes}
use Rattle.ts_core.specs.declared.flat.FlatGrammar.{FlatGrammar}
use Rattle.spec_trees.specs.declared.tree.Tree.{Tree}
use Rattle.spec_trees.specs.declared.tree.Tree.TheFolds.{fold_out-Tree}
use Rattle.spec_trees.specs.Trees.{symbol_of, is_extra_node, node_extent, span_of, all_spans, elements_of, children_of, node_count, nodes_step, all_nodes, tree_depth, bare}
use Rattle.spec_trees.specs.Made.{EndBy, filling}
use Rattle.spec_graph.specs.declared.graph.Head.{Head}
use Rattle.spec_graph.specs.declared.graph.Link.{Link}
use Rattle.spec_graph.specs.States.{LeadsTo, at_first, by_goto, ShareState}
use Rattle.spec_packing.specs.Packing.{PackedTree, packed_trees}
use Rattle.spec_graph.specs.Laying.{Parsing, from_start, IsMet, Lays}
use Rattle.spec_graph.specs.Links.{IsAt, HasLayer}
use Rattle.ts_table.specs.declared.view.ParseTable.{ParseTable}
use Rattle.ts_table.specs.Tables.{goto_of}
use Rattle.ts_gss.specs.declared.layer.Layer.{Layer}
use Rattle.ts_gss.specs.Stacks.{trees_on, state_on}
use Rattle.ts_graph.specs.declared.view.GraphView.{GraphView}
use Rattle.ts_graph.specs.Down.{place_at}
use Rattle.ts_reductions.specs.SoundLinks.{bare_links}
use Rattle.ts_reductions.specs.Laying.{head_at, CanLayOn, IsLaid}
use Rattle.ts_reductions.specs.Good.{IsGoodTree}
use Rattle.ts_steps.specs.Good.{IsGoodTree as IsGoodOnStack}
use Rattle.ts_steps.specs.LiveHeads.{packed_tree, packed_layers, HaveStates}
use Rattle.ts_steps.proofs.LayerLemmas.{layers_trees}
use Rattle.ts_crossing.specs.Laws.{EnterLaws}
use Rattle.ts_reductions.specs.Sound.{Base, base_at, parsing_from}
use Rattle.ts_crossing.specs.Entering.{Stands, LaidTo}
use Rattle.ts_crossing.proofs.BareLemmas.{filling_append, filling_tree, filling_bare, span_bare, spans_bare, spans_append}
use Rattle.ts_crossing.proofs.TableLemmas.{state_leads, lead_once, lead_from}
use Rattle.ts_crossing.proofs.MemberLemmas.{place_is_at}
use Rattle.ts_crossing.proofs.KeepLemmas.{new_own, new_stand}
use Rattle.ts_crossing.proofs.PartLemmas.{end_by_split, spans_turned}

-- a good tree of a stack is one of a graph
graph_tree : (g : FlatGrammar) (u : Tree) → IsGoodOnStack g u → 0 < span_of u → IsGoodTree g u
graph_tree g u good some =
    let count : node_count u ≡ 1 + (length (elements_of u) + all_nodes (children_of u)) = fold_out-Tree ℕ nodes_step u in
    let parts = good.light.parts in
    let nodes = good.light.nodes in
    record {
      node = good.node;
      settled = good.settled;
      form = good.form;
      some = some;
      few = omega (arith, count, parts, nodes, some);
      flat = good.flat_extra;
    }

last_reach : (end : ℕ) (u : Tree) (ts : List Tree) → EndBy end 0 (reverse (u ∷ ts)) → all_spans ts + node_extent u ≤ end
last_reach end u ts e =
    let r = end_by_split end 0 (reverse ts) (u ∷ []) (subst (λ (l : List Tree). EndBy end 0 l) (reverse-append (u ∷ []) ts) e) in
    let h = r.1.0 in
    let s = spans_turned ts in
    omega (arith, h, s)

filling_one : (u : Tree) (ts : List Tree) → filling (u ∷ []) ++ filling ts ≡ filling (u ∷ ts)
filling_one u ts = sym (filling_append (u ∷ []) ts)

-- over one more tree lists of symbols of one state lead to one state
lead_tree : (t : ParseTable) (u : Tree) (read other : List ℕ) (n : ℕ) → ShareState (goto_of t) read other → LeadsTo (goto_of t) (filling (u ∷ []) ++ read) n → LeadsTo (goto_of t) (filling (u ∷ []) ++ other) n
lead_tree t u read other n share leads = by (is_extra_node u) refl
  where
    by : (b : Bool) → is_extra_node u ≡ b → LeadsTo (goto_of t) (filling (u ∷ []) ++ other) n
    by true e =
        let none : filling (u ∷ []) ≡ [] = rw e refl in
        let here : LeadsTo (goto_of t) read n = subst (λ (r : List ℕ). LeadsTo (goto_of t) (r ++ read) n) none leads in
        let there : LeadsTo (goto_of t) other n = subst (λ (m : ℕ). LeadsTo (goto_of t) other m) (lead_once (goto_of t) read share.0 n share.1 here) share.2 in
        subst (λ (r : List ℕ). LeadsTo (goto_of t) (r ++ other) n) (sym none) there
    by false e =
        let one : filling (u ∷ []) ≡ symbol_of u ∷ [] = filling_tree u [] e in
        let here : LeadsTo (goto_of t) (symbol_of u ∷ read) n = subst (λ (r : List ℕ). LeadsTo (goto_of t) (r ++ read) n) one leads in
        subst (λ (r : List ℕ). LeadsTo (goto_of t) (r ++ other) n) (sym one)
        (by_goto other share.0 (symbol_of u) n share.2 (lead_from (goto_of t) read (symbol_of u) n share.0 share.1 here))

module _ (laws : EnterLaws) (t : ParseTable) (text : Bytes) (base : Base) (l : Layer) (lower : List Layer) (stands : Stands t text base (l ∷ lower)) (g : GraphView) (top : ℕ) (laid : LaidTo t text base lower g top) where
  abbrev P : Parsing
  P = parsing_from t text base

  abbrev under : List Tree
  under = map bare (trees_on lower)

  abbrev from : ℕ
  from = all_spans (trees_on lower)

  abbrev u : Tree
  u = bare l.tree

  from_is : all_spans under ≡ from
  from_is = spans_bare laws.keeps (trees_on lower)

  leads_up : LeadsTo (goto_of t) (filling (u ∷ []) ++ filling under) l.state
  leads_up = subst (λ (r : List ℕ). LeadsTo (goto_of t) r l.state)
      (sym (filling_bare laws.keeps (trees_on (l ∷ lower))) ∙ sym (filling_one u under))
      (state_leads t (filling (trees_on (l ∷ lower))) l.state stands.states.0)

  leads_low : LeadsTo (goto_of t) (filling under) (state_on lower)
  leads_low = by lower stands.states.1
    where
      by : (ls : List Layer) → HaveStates t ls → LeadsTo (goto_of t) (filling (map bare (trees_on ls))) (state_on ls)
      by [] s = at_first
      by (m ∷ ls) s = subst (λ (r : List ℕ). LeadsTo (goto_of t) r m.state) (sym (filling_bare laws.keeps (trees_on (m ∷ ls)))) (state_leads t (filling (trees_on (m ∷ ls))) m.state s.0)

  -- what is laid on the layers below is laid on their trees
  abbrev low : List Tree
  low = packed_trees (packed_layers lower)

  low_is : low ≡ under
  low_is = layers_trees lower

  moved : (Q : Parsing) (v : Tree) → Lays Q (filling low) (all_spans low) (v ∷ []) (all_spans low + span_of u) (filling (u ∷ []) ++ filling low) → Lays Q (filling under) from (v ∷ []) (from + span_of l.tree) (filling (u ∷ []) ++ filling under)
  moved Q v lays =
      subst (λ (n : ℕ). Lays Q (filling under) from (v ∷ []) (from + n) (filling (u ∷ []) ++ filling under)) (span_bare laws.keeps l.tree)
      (subst (λ (n : ℕ). Lays Q (filling under) n (v ∷ []) (n + span_of u) (filling (u ∷ []) ++ filling under)) from_is
      (subst (λ (ts : List Tree). Lays Q (filling ts) (all_spans ts) (v ∷ []) (all_spans ts + span_of u) (filling (u ∷ []) ++ filling ts)) low_is lays))

  abbrev layer : PackedTree
  layer = packed_tree l.tree l.depth

  lays_up : Lays P (filling under) from (u ∷ []) (from + span_of l.tree) (filling (u ∷ []) ++ filling under)
  lays_up =
      let p = laid.sound.parsed in
      moved P u (laws.own_laid P p.fit p.states p.grounded stands.low.0 (packed_layers lower) layer stands.low.1)

  deep_up : IsMet P → (v : Tree) × Lays (from_start P) (filling under) from (v ∷ []) (from + span_of l.tree) (filling (u ∷ []) ++ filling under) × (tree_depth v ≡ l.depth)
  deep_up met =
      let p = laid.sound.parsed in
      let d = laws.deep_laid P p.fit p.states met stands.low.0 (packed_layers lower) layer stands.low.1 in
      (d.0, moved (from_start P) d.0 d.1, d.2)

  good : IsGoodTree t.grammar l.tree
  good = graph_tree t.grammar l.tree stands.good.0 stands.bytes.0

  at_top : IsAt P g.heads top (filling under) from
  at_top = record { head = head_at (state_on lower) from; is = laid.at; state = leads_low; place_is = refl }

  pub layer_can : CanLayOn P g top l.tree l.depth l.state
  layer_can = record {
    sound = laid.sound;
    read = filling under;
    from = from;
    at = at_top;
    fits = record {
      now = filling (u ∷ []) ++ filling under;
      leads = leads_up;
      lays = lays_up;
      shallow = stands.depths.0.own;
      flat = λ e. stands.depths.0.flat e ∙ good.flat e;
      deepest = deep_up;
      form = good.form;
      some = good.some;
      reach = last_reach (suc (length text)) l.tree (trees_on lower) stands.reach;
      within = let w = stands.within in omega (arith, w);
      not_deep = stands.depths.0.shallow;
    };
  }

  module _ (new : GraphView) (above : ℕ) (is : IsLaid P g new top (place_at g.heads top) l.tree l.depth l.state above) where
    abbrev end : ℕ
    end = all_spans (trees_on (l ∷ lower))

    abbrev Q : Parsing
    Q = parsing_from t text (base_at (packed_layers (l ∷ lower)) end)

    place_is : place_at g.heads top + span_of l.tree ≡ end
    place_is = let p = place_is_at g.heads top (head_at (state_on lower) from) laid.at in omega (arith, p)

    at_above : slice_get new.heads above ≡ Some (head_at l.state end)
    at_above = subst (λ (n : ℕ). slice_get new.heads above ≡ Some (head_at l.state n)) place_is is.at

    -- the head of the state and the place below is the one on which the tree was laid
    is_top : (b : ℕ) (read : List ℕ) (place : ℕ) → (a : IsAt Q new.heads b read place) → place ≡ from → ShareState (goto_of t) (filling under) read → b ≡ top
    is_top b read place a at_from share = by (is.only b a.head a.is)
      where
        by : (slice_get g.heads b ≡ Some a.head) ⊎ (b ≡ above) → b ≡ top
        by (inl old) = laid.alone b a.head old (a.place_is ∙ at_from)
        by (inr same) =
            absurd (let e : Some a.head ≡ Some (head_at l.state end) = sym a.is ∙ ap (λ (n : ℕ). slice_get new.heads n) same ∙ at_above in
            let there : a.head ≡ head_at l.state end = cc in
            let high = ap (λ (x : Head). x.place) there in
            let here = a.place_is in
            let some = good.some in
            omega (arith, high, here, at_from, some))

    stood_here : (b : ℕ) (read : List ℕ) (place : ℕ) → IsAt Q new.heads b read place → place ≡ from → ShareState (goto_of t) (filling under) read → HasLayer Q new.heads (bare_links new.links) b layer (place + span_of u) (filling (u ∷ []) ++ read)
    stood_here b read place a at_from share =
        let same = is_top b read place a at_from share in
        let has = is.has in
        record {
          link = has.link;
          there = has.there;
          below = has.below_is ∙ sym same;
          above = subst (λ (n : ℕ). IsAt Q new.heads n (filling (u ∷ []) ++ read) (place + span_of u)) (sym has.above_is)
              (record {
                head = head_at l.state end;
                is = at_above;
                state = lead_tree t u (filling under) read l.state share leads_up;
                place_is = let s = span_bare laws.keeps l.tree in omega (arith, at_from, s);
              });
          tree = has.replaces;
          depth = has.no_less;
        }

    -- links that were there stand for what they stood for
    stood_still : (b : ℕ) (v : PackedTree) (place : ℕ) (now : List ℕ) → HasLayer (parsing_from t text (base_at (packed_layers lower) from)) g.heads (bare_links g.links) b v place now → HasLayer Q new.heads (bare_links new.links) b v place now
    stood_still b v place now has =
        let n = is.grows.links has.link has.there in
        record {
          link = n.0;
          there = n.1;
          below = n.3 ∙ has.below;
          above = subst (λ (k : ℕ). IsAt Q new.heads k now place) (sym n.2)
              (record { head = has.above.head; is = is.grows.stay has.link.above has.above.head has.above.is; state = has.above.state; place_is = has.above.place_is });
          tree = laws.through n.0.tree has.link.tree v.tree n.4 has.tree;
          depth = let d = has.depth in let m = n.5 in omega (arith, d, m);
        }

    stood_low : (b : ℕ) (read : List ℕ) (place : ℕ) (v : PackedTree) (over below : List PackedTree) → IsAt Q new.heads b read place → packed_layers lower ≡ over ++ v ∷ below → place ≡ all_spans (packed_trees below) → ShareState (goto_of t) (filling (packed_trees below)) read → HasLayer Q new.heads (bare_links new.links) b v (place + span_of v.tree) (filling (v.tree ∷ []) ++ read)
    stood_low b read place v over below a split place_below share = by (is.only b a.head a.is)
      where
        by : (slice_get g.heads b ≡ Some a.head) ⊎ (b ≡ above) → HasLayer Q new.heads (bare_links new.links) b v (place + span_of v.tree) (filling (v.tree ∷ []) ++ read)
        by (inl old) = stood_still b v (place + span_of v.tree) (filling (v.tree ∷ []) ++ read)
            (laid.stood.each b read place v over below (record { head = a.head; is = old; state = a.state; place_is = a.place_is }) split place_below share)
        by (inr same) =
            absurd (let both : Some a.head ≡ Some (head_at l.state end) = sym a.is ∙ ap (λ (n : ℕ). slice_get new.heads n) same ∙ at_above in
            let one : a.head ≡ head_at l.state end = cc in
            let far : place ≡ end = sym a.place_is ∙ ap (λ (x : Head). x.place) one in
            let parts : all_spans under ≡ all_spans (packed_trees over ++ v.tree ∷ packed_trees below) = ap all_spans (sym low_is) ∙ ap (λ (ls : List PackedTree). all_spans (packed_trees ls)) split ∙ ap all_spans (map-append (λ (x : PackedTree). x.tree) over (v ∷ below)) in
            let s = spans_append (packed_trees over) (v.tree ∷ packed_trees below) in
            let f = from_is in
            let b = good.some in
            omega (arith, far, parts, s, f, b, place_below))

    stood_each : (b : ℕ) (read : List ℕ) (place : ℕ) (v : PackedTree) (over below : List PackedTree) → IsAt Q new.heads b read place → Q.layers ≡ over ++ v ∷ below → place ≡ all_spans (packed_trees below) → ShareState (goto_of t) (filling (packed_trees below)) read → HasLayer Q new.heads (bare_links new.links) b v (place + span_of v.tree) (filling (v.tree ∷ []) ++ read)
    stood_each b read place v [] below a split place_below share =
        let e : layer ∷ packed_layers lower ≡ v ∷ below = split in
        let first : layer ≡ v = cc in
        let rest : packed_layers lower ≡ below = cc in
        let trees : packed_trees below ≡ under = ap (λ (ls : List PackedTree). packed_trees ls) (sym rest) ∙ low_is in
        let at_from : place ≡ from = place_below ∙ ap all_spans trees ∙ from_is in
        subst (λ (x : PackedTree). HasLayer Q new.heads (bare_links new.links) b x (place + span_of x.tree) (filling (x.tree ∷ []) ++ read)) first
        (stood_here b read place a at_from (subst (λ (ts : List Tree). ShareState (goto_of t) (filling ts) read) trees share))
    stood_each b read place v (x ∷ over) below a split place_below share =
        let e : layer ∷ packed_layers lower ≡ x ∷ (over ++ v ∷ below) = split in
        stood_low b read place v over below a (let h : packed_layers lower ≡ over ++ v ∷ below = cc in h) place_below share

    new_good : (k : Link) → Contains new.links k → IsGoodTree t.grammar k.tree
    new_good k there = ⊎_elim
        (λ one. subst (λ (x : Tree). IsGoodTree t.grammar x) (sym one.1) good)
        (λ old. subst (λ (x : Tree). IsGoodTree t.grammar x) (sym old.4) (laid.good old.0 old.1)) (is.trees k there)

    low_by : (k : ℕ) (head : Head) → slice_get new.heads k ≡ Some head → (slice_get g.heads k ≡ Some head) ⊎ (k ≡ above) → head.place ≤ end
    low_by k head at (inl old) = let h = laid.low k head old in omega (arith, h)
    low_by k head at (inr same) =
        let both : Some head ≡ Some (head_at l.state end) = sym at ∙ ap (λ (n : ℕ). slice_get new.heads n) same ∙ at_above in
        let one : head ≡ head_at l.state end = cc in
        let e : head.place ≡ end = ap (λ (x : Head). x.place) one in
        omega (arith, e)

    low_all : (k : ℕ) (head : Head) → slice_get new.heads k ≡ Some head → head.place ≤ end
    low_all k head at = low_by k head at (is.only k head at)

    pub layer_laid : LaidTo t text base (l ∷ lower) new above
    layer_laid = record {
      sound = is.sound;
      good = new_good;
      at = at_above;
      stood = record { each = stood_each };
      own = new_own laws t text base l lower stands g top laid new above is;
      stand = new_stand laws t text base l lower stands g top laid new above is low_all;
      low = low_all;
      alone = λ k head at e. top_alone k head e (is.only k head at);
    }
      where
        top_alone : (k : ℕ) (head : Head) → head.place ≡ end → (slice_get g.heads k ≡ Some head) ⊎ (k ≡ above) → k ≡ above
        top_alone k head e (inl old) = absurd (let low = laid.low k head old in let some = good.some in omega (arith, low, e, some))
        top_alone k head e (inr same) = same
