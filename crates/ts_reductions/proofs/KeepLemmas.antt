-- What a parser knows of its own trees is kept where nodes of them are laid.
use Rattle.std.proofs.Common.{◌≡◌, ◌∙◌, sym, ap, refl, subst, ℕ, ◌+◌, ◌-◌, ◌<◌, ◌≤◌, ⊎_elim, false, List, [], ◌∷◌, ◌++◌, length, reverse, slice_get, Some, None, arith}
use Rattle.std.specs.List.{Contains}
use Rattle.std.proofs.lemmas.List.{reverse-append}
use Rattle.std.proofs.lemmas.List.Elements.{Contains-append_left, Contains-append_right, Contains-append_cases}
use lib.IntN.{ℤ, ◌+ℤ◌}
use Rattle.ts_base.specs.Bytes.{Bytes}
use Rattle.ts_core.specs.declared.flat.FlatGrammar.{FlatGrammar}
use Rattle.spec_trees.specs.declared.tree.Tree.{Tree}
use Rattle.spec_trees.specs.Trees.{is_extra_node, state_of, elements_of, children_of, total_of, all_totals, span_of, all_spans, tree_depth}
use Rattle.spec_trees.specs.Made.{Form, of_rule, of_first, of_next, form_of, value_of, element, made_by, reduced, most_depth}
use Rattle.spec_forced.specs.Sound.{States, StandsForState, AllSound, HasState}
use Rattle.spec_forced.proofs.SoundLemmas.{sound_none, sound_one, sound_inside, sound_append, sound_tail}
use Rattle.spec_forced.proofs.KeepLemmas.{sound_left}
use Rattle.spec_graph.specs.declared.graph.Head.{Head}
use Rattle.spec_graph.specs.declared.graph.Link.{Link}
use Rattle.spec_graph.specs.Links.{IsWay, IsLinked, way_trees}
use Rattle.ts_graph.specs.declared.view.GraphView.{GraphView}
use Rattle.ts_graph.specs.Down.{KeepNumbers, place_at}
use Rattle.ts_table.specs.declared.view.ParseTable.{ParseTable}
use Rattle.ts_table.specs.Tables.{IsTable}
use Rattle.ts_reductions.specs.declared.made.Made.{Made}
use Rattle.ts_reductions.specs.SoundLinks.{bare_link, IsHeld, IsSoundFor}
use Rattle.ts_reductions.specs.Laying.{placed, TreesFrom}
use Rattle.ts_steps.specs.Good as steps
use Rattle.ts_steps.specs.Good.{EachTree}
use Rattle.ts_steps.specs.Heads.{IsOwnWithin}
use Rattle.ts_steps.specs.MoveLaws.{Laws}
use Rattle.ts_steps.proofs.NodeLemmas.{each_turned, reduced_is}
use Rattle.ts_steps.proofs.OwnLemmas.{own_self}
use Rattle.ts_steps.proofs.ReduceLemmas.{over_children, node_own, whole_so_far}
use Rattle.ts_reductions.specs.Laws.{ReductionLaws, NodeLaws}
use Rattle.ts_reductions.specs.declared.batch.Batch.{Batch}
use Rattle.ts_reductions.specs.declared.setting.Setting.{Setting}
use Rattle.ts_reductions.specs.declared.top.Top.{Top}
use Rattle.ts_reductions.specs.Good.{AreGoodTrees}
use Rattle.ts_reductions.specs.Sound.{Base, parsing_from}
use Rattle.ts_reductions.specs.Asking.{inner_of, outer_of, children_on, IsReadyAt, IsMadeFor}
use Rattle.ts_reductions.specs.Keeping.{AreOwn, StandOnGraph, KeepsTrees}
use Rattle.ts_reductions.proofs.SmallLemmas.{bare_member, none_contained, first_or_later, place_is_at, spans_turned}
use Rattle.ts_reductions.proofs.WayLemmas.{way_spans}
use Rattle.ts_reductions.proofs.AskLemmas as ask
use Rattle.ts_reductions.proofs.MadeLemmas as making

-- ---- a graph that grows by trees at places

-- what is kept of a tree that is laid at a place
pub record IsKept (g : FlatGrammar) (text : Bytes) (base : Base) (old : GraphView) (place : ℕ) (u : Tree) : Type 0 where
  pub own : AreOwn g old → IsOwnWithin g u
  pub inner : (states : States) → AreOwn g old → StandOnGraph g states text base old → AllSound g states text (u ∷ []) place
  pub none : (states : States) → StandOnGraph g states text base old → state_of u ≡ None

pub has_none : (u : Tree) → state_of u ≡ None → HasState u → ⊥
has_none u n h = let e : Some h.0 ≡ None = sym h.1 ∙ n in cc

module _ (t : ParseTable) (text : Bytes) (base : Base) (old new : GraphView) (sound : IsSoundFor (parsing_from t text base) old) (keep : KeepNumbers old.heads new.heads) where
  linked : (o : Link) → Contains old.links o → IsLinked (parsing_from t text base) old.heads (bare_link o)
  linked o there = sound.graph.linked (bare_link o) (bare_member old.links o there)

  low_stays : (o : Link) → Contains old.links o → place_at new.heads o.below ≡ place_at old.heads o.below
  low_stays o there =
      let k = (linked o there).below in
      place_is_at new.heads o.below k.head (keep o.below k.head k.is) ∙ sym (place_is_at old.heads o.below k.head k.is)

  high_stays : (o : Link) → Contains old.links o → place_at new.heads o.above ≡ place_at old.heads o.above
  high_stays o there =
      let k = (linked o there).above in
      place_is_at new.heads o.above k.head (keep o.above k.head k.is) ∙ sym (place_is_at old.heads o.above k.head k.is)

  module _ (ps : List (ℕ × Tree)) (trees : TreesFrom old new ps) (each : (p : ℕ × Tree) → Contains ps p → IsKept t.grammar text base old p.0 p.1) where
    at_place : (l : Link) → Contains ps (place_at new.heads l.below, l.tree) → IsKept t.grammar text base old (place_at new.heads l.below) l.tree
    at_place l h = each (place_at new.heads l.below, l.tree) h

    own_all : AreOwn t.grammar old → AreOwn t.grammar new
    own_all all l there = ⊎_elim (λ h. (at_place l h).own all) (λ w. subst (λ (x : Tree). IsOwnWithin t.grammar x) (sym w.4) (all w.0 w.1)) (trees l there)

    module _ (states : States) (all : AreOwn t.grammar old) (s : StandOnGraph t.grammar states text base old) where
      inner_at : (l : Link) → Contains new.links l → AllSound t.grammar states text (l.tree ∷ []) (place_at new.heads l.below)
      inner_at l there = ⊎_elim (λ h. (at_place l h).inner states all s)
          (λ w.
          subst (λ (x : Tree). AllSound t.grammar states text (x ∷ []) (place_at new.heads l.below)) (sym w.4)
          (subst (λ (n : ℕ). AllSound t.grammar states text (w.0.tree ∷ []) n) (sym (low_stays w.0 w.1) ∙ ap (place_at new.heads) w.3) (s.inner w.0 w.1)))
          (trees l there)

      abbrev Stand : Head → Tree → Type 0
      Stand head u = StandsForState t.grammar states text head.place head.state u × (is_extra_node u ≡ false → state_of u ≡ Some head.state)

      stands_at : (l : Link) (head : Head) → Contains new.links l → slice_get new.heads l.below ≡ Some head → HasState l.tree → Stand head l.tree
      stands_at l head there at has = ⊎_elim (λ h. absurd (has_none l.tree ((at_place l h).none states s) has)) (λ w. by w.0 w.1 w.3 w.4) (trees l there)
        where
          by : (o : Link) → Contains old.links o → o.below ≡ l.below → l.tree ≡ o.tree → Stand head l.tree
          by o is low same =
              let k = (linked o is).below in
              let f : Some k.head ≡ Some head = sym (keep o.below k.head k.is) ∙ ap (λ (h : ℕ). slice_get new.heads h) low ∙ at in
              let e : k.head ≡ head = cc in
              subst (λ (x : Tree). Stand head x) (sym same)
              (subst (λ (h : Head). Stand h o.tree) e (s.stands o k.head is k.is (subst (λ (x : Tree). HasState x) same has)))

      none_at : (l : Link) → Contains new.links l → base.place < place_at new.heads l.above → state_of l.tree ≡ None
      none_at l there past = ⊎_elim (λ h. (at_place l h).none states s)
          (λ w.
          ap state_of w.4
          ∙ s.none w.0 w.1 (let e = high_stays w.0 w.1 in let f = ap (place_at new.heads) w.2 in omega (arith, past, e, f)))
          (trees l there)

    pub keeps_from : KeepsTrees t.grammar text base old new
    keeps_from = record {
      own = own_all;
      stand = λ states all s. record {
        inner = inner_at states all s;
        stands = stands_at states all s;
        none = none_at states all s;
      };
    }

-- nothing was laid
pub keeps_none : (g : FlatGrammar) (text : Bytes) (base : Base) (graph : GraphView) → KeepsTrees g text base graph graph
keeps_none g text base graph = record { own = λ all. all; stand = λ states all s. s }

-- one step after another
pub keeps_on : (g : FlatGrammar) (text : Bytes) (base : Base) (a b c : GraphView) → KeepsTrees g text base a b → KeepsTrees g text base b c → KeepsTrees g text base a c
keeps_on g text base a b c f h = record {
  own = λ all. h.own (f.own all);
  stand = λ states all s. h.stand states (f.own all) (f.stand states all s);
}

-- ---- trees at their places

placed_append : (n : ℕ) (xs ys : List Tree) → placed n (xs ++ ys) ≡ placed n xs ++ placed (n + all_spans xs) ys
placed_append n [] ys = let e : n ≡ n + 0 = omega arith in ap (λ (m : ℕ). placed m ys) e
placed_append n (x ∷ xs) ys =
    let e : n + span_of x + all_spans xs ≡ n + all_spans (x ∷ xs) = omega arith in
    ap {B = List (ℕ × Tree)} (λ (l : List (ℕ × Tree)). (n, x) ∷ l) (placed_append (n + span_of x) xs ys ∙ ap (λ (m : ℕ). placed (n + span_of x) xs ++ placed m ys) e)

pub placed_in : (n : ℕ) (xs : List Tree) (p : ℕ × Tree) → Contains (placed n xs) p → Contains xs p.1
placed_in n [] p h = absurd (none_contained p h)
placed_in n (x ∷ xs) p h = ⊎_elim (λ e. subst (λ (y : Tree). Contains (x ∷ xs) y) (ap (λ (q : ℕ × Tree). q.1) e) (Contains-append_left (x ∷ []) xs x (0, omega arith, refl)))
    (λ w. Contains-append_right (x ∷ []) xs p.1 (placed_in (n + span_of x) xs p w)) (first_or_later {X = ℕ × Tree} (n, x) (placed (n + span_of x) xs) p h)

placed_from : (n : ℕ) (xs : List Tree) (p : ℕ × Tree) → Contains (placed n xs) p → n ≤ p.0
placed_from n [] p h = absurd (none_contained p h)
placed_from n (x ∷ xs) p h = ⊎_elim (λ e. let f = ap (λ (q : ℕ × Tree). q.0) e in omega (arith, f)) (λ w. let f = placed_from (n + span_of x) xs p w in omega (arith, f)) (first_or_later {X = ℕ × Tree} (n, x) (placed (n + span_of x) xs) p h)

module _ (t : ParseTable) (text : Bytes) (base : Base) (graph : GraphView) (held : (l : Link) → Contains graph.links l → IsHeld (parsing_from t text base) graph.heads l) where
  -- where the topmost tree of a way lies
  way_below : (way : List Link) (h b : ℕ) → IsWay graph.links h way b → place_at graph.heads b + all_spans (reverse (way_trees way)) ≡ place_at graph.heads h
  way_below way h b w = let s = way_spans (parsing_from t text base) graph.heads graph.links held way h b w in let r = spans_turned (way_trees way) in omega (arith, s, r)

  pub way_own : AreOwn t.grammar graph → (way : List Link) (h b : ℕ) → IsWay graph.links h way b → EachTree (IsOwnWithin t.grammar) (way_trees way)
  way_own all [] h b w = tt
  way_own all (l ∷ way) h b w = (all l w.0, way_own all way l.below b w.2)

  way_sound : (states : States) → StandOnGraph t.grammar states text base graph → (way : List Link) (h b : ℕ) → IsWay graph.links h way b → AllSound t.grammar states text (reverse (way_trees way)) (place_at graph.heads b)
  way_sound states s [] h b w = sound_none t.grammar states text (place_at graph.heads b)
  way_sound states s (l ∷ way) h b w =
      subst (λ (ts : List Tree). AllSound t.grammar states text ts (place_at graph.heads b)) (sym (reverse-append (l.tree ∷ []) (way_trees way)))
      (sound_append t.grammar states text (reverse (way_trees way)) (l.tree ∷ []) (place_at graph.heads b) (way_sound states s way l.below b w.2)
      (subst (λ (n : ℕ). AllSound t.grammar states text (l.tree ∷ []) n) (sym (way_below way l.below b w.2)) (s.inner l w.0)))

  -- each tree of a way is that of a link, at its place
  pub record IsOnLink (p : ℕ × Tree) : Type 0 where
    pub link : Link
    pub there : Contains graph.links link
    pub tree_is : link.tree ≡ p.1
    pub place_is : place_at graph.heads link.below ≡ p.0

  -- where the trees of a way end
  abbrev end_over : List Link → ℕ → ℕ
  end_over way b = place_at graph.heads b + all_spans (reverse (way_trees way))

  way_placed : (way : List Link) (h b : ℕ) → IsWay graph.links h way b → (p : ℕ × Tree) → Contains (placed (place_at graph.heads b) (reverse (way_trees way))) p → IsOnLink p
  way_placed [] h b w p there = absurd (none_contained p there)
  way_placed (l ∷ way) h b w p there = ⊎_elim (λ k. way_placed way l.below b w.2 p k) (λ k. here k)
      (Contains-append_cases (placed (place_at graph.heads b) (reverse (way_trees way))) (placed (end_over way b) (l.tree ∷ [])) p
      (subst (λ (ps : List (ℕ × Tree)). Contains ps p)
      (ap (placed (place_at graph.heads b)) (reverse-append (l.tree ∷ []) (way_trees way)) ∙ placed_append (place_at graph.heads b) (reverse (way_trees way)) (l.tree ∷ [])) there))
    where
      here : Contains (placed (end_over way b) (l.tree ∷ [])) p → IsOnLink p
      here k = ⊎_elim
          (λ e. record {
            link = l;
            there = w.0;
            tree_is = ap (λ (q : ℕ × Tree). q.1) e;
            place_is = sym (way_below way l.below b w.2) ∙ ap (λ (q : ℕ × Tree). q.0) e;
          })
          (λ k. absurd (none_contained p k)) (first_or_later {X = ℕ × Tree} (end_over way b, l.tree) [] p k)

-- ---- the nodes in a node

module _ (g : FlatGrammar) (states : States) (text : Bytes) (symbol number : ℕ) (value : ℤ) (extent : ℕ) where
  sound_made : (f : Form) (ks : List Tree) (place : ℕ) → ((a : ℕ) (k : Tree) (more : List Tree) → f ≡ of_next a → ks ≡ k ∷ more → span_of k ≡ all_spans (children_of k)) → AllSound g states text ks place
      → AllSound g states text (children_of (made_by f symbol number value extent None ks)) place
  sound_made of_rule ks place whole all =
      subst (λ (l : List Tree). AllSound g states text l place) (sym (over_children symbol (Some number) (value +ℤ all_totals ks) extent None [] ks)) all
  sound_made (of_first a) ks place whole all =
      subst (λ (l : List Tree). AllSound g states text l place) (sym (over_children symbol None (value +ℤ all_totals ks) extent None (element a (length ks) value extent ∷ []) ks)) all
  sound_made (of_next a) [] place whole all =
      subst (λ (l : List Tree). AllSound g states text l place) (sym (over_children symbol None value extent None [] [])) all
  sound_made (of_next a) (k ∷ ks) place whole all =
      subst (λ (l : List Tree). AllSound g states text l place)
      (sym (over_children symbol None (value +ℤ (total_of k +ℤ all_totals ks)) extent None (elements_of k ++ element a (length ks) value (extent - span_of k) ∷ []) (children_of k ++ ks)))
      (sound_append g states text (children_of k) ks place (sound_inside g states text k place (sound_left g states text (k ∷ []) ks place all))
      (subst (λ (n : ℕ). AllSound g states text ks (place + n)) (whole a k ks refl refl) (sound_tail g states text k ks place all)))

-- ---- what a reduction makes

good_own : (g : FlatGrammar) (ts : List Tree) → EachTree (IsOwnWithin g) ts → AreGoodTrees g ts → steps.AreGoodTrees g ts
good_own g [] own good = tt
good_own g (t ∷ ts) own good = ((own_self g t own.0 good.0.settled).good, good_own g ts own.1 good.1)

module _ (laws : ReductionLaws) (nodes : NodeLaws) (moves : Laws) (t : ParseTable) (table : IsTable t) (text : Bytes) (s : Setting) (g : GraphView) (k : Batch) (top : Top) (number : ℕ) (way : List Link) (b : ℕ) (ready : IsReadyAt t text s g k top) (m : Made)
    (made : IsMadeFor t (length text) g k top number way b m) where
  abbrev base : Base
  base = ready.base

  held : (l : Link) → Contains g.links l → IsHeld (parsing_from t text base) g.heads l
  held = ready.sound.laid.held

  abbrev children : List Tree
  children = children_on way

  abbrev e : ℕ
  e = ask.e laws t table text s g k top number way b ready made.asked

  outer_way : IsWay g.links top.head (outer_of way) e
  outer_way = (ask.cut laws t table text s g k top number way b ready made.asked).1

  inner_way : IsWay g.links e (inner_of way) b
  inner_way = (ask.cut laws t table text s g k top number way b ready made.asked).2

  kids_own : AreOwn t.grammar g → EachTree (IsOwnWithin t.grammar) children
  kids_own all = each_turned (IsOwnWithin t.grammar) (way_trees (inner_of way)) (way_own t text base g held all (inner_of way) e b inner_way)

  can : AreOwn t.grammar g → steps.CanReduce t.grammar number made.asked.left made.asked.production made.extent children
  can all =
      let c = making.can_reduce laws nodes t table text s g k top number way b ready made.asked made.small made.extent made.covers made.past in
      record {
        fit = c.fit;
        at = c.at;
        value = c.value;
        good = good_own t.grammar children (kids_own all) c.good;
        filled = c.filled;
        begins = c.begins;
        ends = c.ends;
        short = c.short;
        past = c.past;
        covers = c.covers;
      }

  abbrev node : Tree
  node = reduced t.grammar number made.extent None children

  node_shallow : tree_depth node ≤ most_depth
  node_shallow = let d = ap tree_depth made.node_is in let x = made.no_deeper in let y = made.shallow in omega (arith, d, x, y)

  node_none : state_of node ≡ None
  node_none = (nodes.made t.grammar number made.extent None children).state_is

  abbrev from : ℕ
  from = place_at g.heads m.below

  from_is : place_at g.heads b ≡ from
  from_is = ap (place_at g.heads) (sym made.below_is)

  node_sound : (states : States) → AreOwn t.grammar g → StandOnGraph t.grammar states text base g → AllSound t.grammar states text (node ∷ []) from
  node_sound states all st =
      let c = can all in
      let left = made.asked.left in
      let kids : AllSound t.grammar states text children from = subst (λ (n : ℕ). AllSound t.grammar states text children n) from_is (way_sound t text base g held states st (inner_of way) e b inner_way) in
      let whole = whole_so_far moves t.grammar number left made.asked.production made.extent children c in
      let inside = sound_made t.grammar states text left number (value_of t.grammar number) made.extent (form_of t.grammar left number) children from (λ a k more f is. (whole a k more f is).0) kids in
      sound_one t.grammar states text node from (λ state has. absurd (has_none node node_none (state, has)))
      (subst (λ (x : Tree). AllSound t.grammar states text (children_of x) from) (sym (reduced_is moves t.grammar number left made.asked.production made.extent None children c.at)) inside)

  pub node_kept : IsKept t.grammar text base g from m.piece.node
  node_kept = record {
    own = λ all. subst (λ (x : Tree). IsOwnWithin t.grammar x) (sym made.node_is)
        (node_own moves t.grammar number made.asked.left made.asked.production made.extent children (can all) None node_shallow (kids_own all));
    inner = λ states all st. subst (λ (x : Tree). AllSound t.grammar states text (x ∷ []) from) (sym made.node_is) (node_sound states all st);
    none = λ states st. ap state_of made.node_is ∙ node_none;
  }

  -- ---- the extras behind it

  end_is : from + span_of m.piece.node ≡ place_at g.heads e
  end_is =
      let s = way_below t text base g held (inner_of way) e b inner_way in
      let n = made.spans in
      let f = from_is in
      omega (arith, s, n, f)

  pub extras_kept : base.place ≤ from + span_of m.piece.node → (p : ℕ × Tree) → Contains (placed (from + span_of m.piece.node) m.extras) p → IsKept t.grammar text base g p.0 p.1
  extras_kept late p there = record {
    own = λ all. subst (λ (x : Tree). IsOwnWithin t.grammar x) o.tree_is (all o.link o.there);
    inner = λ states all st. subst (λ (x : Tree). AllSound t.grammar states text (x ∷ []) p.0) o.tree_is
        (subst (λ (n : ℕ). AllSound t.grammar states text (o.link.tree ∷ []) n) o.place_is (st.inner o.link o.there));
    none = λ states st. ap state_of (sym o.tree_is) ∙ st.none o.link o.there past;
  }
    where
      there_too : Contains (placed (place_at g.heads e) (reverse (way_trees (outer_of way)))) p
      there_too =
          subst (λ (n : ℕ). Contains (placed n (reverse (way_trees (outer_of way)))) p) end_is
          (subst (λ (xs : List Tree). Contains (placed (from + span_of m.piece.node) xs) p) made.extras_are there)

      o : IsOnLink t text base g held p
      o = way_placed t text base g held (outer_of way) top.head e outer_way p there_too

      past : base.place < place_at g.heads o.link.above
      past =
          let h = held o.link o.there in
          let s = h.spans in
          let n = h.some in
          let f = placed_from (from + span_of m.piece.node) m.extras p there in
          let q = o.place_is in
          omega (arith, late, s, n, f, q)
