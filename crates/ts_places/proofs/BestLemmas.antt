-- The best of the roots on all ways down from heads that accept.
use Rattle.std.proofs.Common.{◌≡◌, ◌∙◌, sym, ap, refl, subst, ℕ, suc, ◌+◌, ◌<◌, ◌≤◌, ◌⊎◌, inl, inr, ⊎_elim, false, List, [], ◌∷◌, ◌++◌, append_assoc, length, get_or, take, map, reverse, Option, Some, None}
use Rattle.std.specs.List.{Contains}
use Rattle.std.proofs.lemmas.List.{map-append, reverse-reverse, take_all}
use Rattle.std.proofs.lemmas.List.Elements.{Contains-append_left, Contains-push, Contains-push_cases}
use Rattle.ts_base.specs.Bytes.{Bytes}
use Rattle.spec_trees.specs.declared.tree.Tree.{Tree}
use Rattle.spec_trees.specs.Trees.{is_extra_node, bare}
use Rattle.spec_trees.specs.Made.{accepted, filling}
use Rattle.spec_runs.specs.Configurations.{AreExtras}
use Rattle.spec_graph.specs.declared.graph.Link.{Link}
use Rattle.spec_graph.specs.Laying.{Parsing}
use Rattle.spec_graph.specs.Links.{IsAt, IsWay, way_trees, IsGraph}
use Rattle.spec_graph.specs.Outcomes.{GraphAccepts}
use Rattle.spec_graph.proofs.SightLemmas.{Facts}
use Rattle.ts_graph.specs.declared.view.GraphView.{GraphView}
use Rattle.ts_graph.specs.declared.ways.Way.{Way}
use Rattle.ts_graph.specs.Ways.{AreAt, TakesFilled, ListsWays}
use Rattle.ts_graph.proofs.ListLemmas.{same_last}
use Rattle.ts_table.specs.declared.view.ParseTable.{ParseTable}
use Rattle.ts_reductions.specs.SoundLinks.{bare_link, bare_links}
use Rattle.ts_reductions.specs.Sound.{parsing_from, parsing_of, IsSoundOver}
use Rattle.ts_reductions.proofs.SmallLemmas.{bare_member, filling_tree, filling_extras, extras_turned}
use Rattle.ts_reductions.proofs.WayLemmas.{trees_append, trees_bare, way_bare, way_cut, map_turned, extras_bare, bare_extras}
use Rattle.ts_reductions.proofs.GatherLemmas.{at_one}
use Rattle.ts_reductions.proofs.DoneLemmas.{Lifted, lift}
use Rattle.ts_places.proofs.SmallLemmas.{none_contained, first_of_one, one_taken}
use Rattle.ts_steps.specs.Accepting.{IsWholeRoot}
use Rattle.ts_places.specs.EndLaws.{EndLaws}
use Rattle.ts_places.specs.Choosing.{Withstands, KeepsBest, HasForm}
use Rattle.ts_places.specs.Ends.{Accepts}
use Rattle.ts_places.specs.Best.{CanChoose, AcceptsAmong, IsRootOn, IsBestOn, KeepsRoots, CanTakeRoot, IsRootBy}
use Rattle.spec_graph.proofs.BaseLemmas.{ground_base}
use Rattle.ts_places.proofs.WayLemmas.{Split, split_way, same_below}

-- ---- roots

-- the root by its way
pub root_on : (t : ParseTable) (g : GraphView) (size h : ℕ) (way : Way) (u : Tree) → IsRootBy t.grammar g size h way u → IsRootOn g size h u
root_on t g size h way u r = record {
  way = (r.above ++ r.last ∷ []) ++ r.below;
  is = r.is;
  root = record {
    before = reverse (way_trees r.below);
    root = r.last.tree;
    after = reverse (way_trees r.above);
    stack_is = trees;
    before_extras = extras_turned (way_trees r.below) r.below_extras;
    root_fills = r.last_fills;
    after_extras = extras_turned (way_trees r.above) r.above_extras;
    node_is = r.node_is;
  };
}
  where
    trees : way_trees ((r.above ++ r.last ∷ []) ++ r.below) ≡ reverse (reverse (way_trees r.above)) ++ r.last.tree ∷ reverse (reverse (way_trees r.below))
    trees =
        ap way_trees (append_assoc r.above (r.last ∷ []) r.below) ∙ trees_append r.above (r.last ∷ r.below)
        ∙ ap (λ (l : List Tree). l ++ r.last.tree ∷ way_trees r.below) (sym (reverse-reverse (way_trees r.above)))
        ∙ ap (λ (l : List Tree). reverse (reverse (way_trees r.above)) ++ r.last.tree ∷ l) (sym (reverse-reverse (way_trees r.below)))

module _ (laws : EndLaws) (t : ParseTable) (text : Bytes) (g : GraphView) (sound : IsSoundOver t text g) where
  abbrev P : Parsing
  P = parsing_of t text

  -- over the stack from which runs go on
  abbrev Q : Parsing
  Q = parsing_from t text sound.0

  abbrev links : List Link
  links = bare_links g.links

  facts : Facts Q
  facts = record { laws = laws.graphs; fit = sound.1.laid.parsed.fit; states = sound.1.laid.parsed.states }

  graph : IsGraph Q g.heads links
  graph = sound.1.laid.graph

  -- a root at a head that accepts is accepted there
  pub root_accepted : (h : ℕ) (u : Tree) → Accepts P g.heads h → IsRootOn g (length text) h u → (a : GraphAccepts P g.heads links (bare u)) × (a.head ≡ h)
  root_accepted h u b r = (
    record {
      head = h;
      read = b.read;
      place = b.place;
      at = b.at;
      symbol = b.symbol;
      pad = b.pad;
      size = b.size;
      sees = b.sees;
      stays = b.stays;
      way = bare_links r.way;
      is = way_bare g.links r.way h 0 r.is;
      before = map bare w.before;
      root = bare w.root;
      after = map bare w.after;
      trees_are = trees;
      before_extras = bare_extras laws.graphs.runs.keeps w.before w.before_extras;
      root_fills = (laws.graphs.runs.keeps w.root).extra ∙ w.root_fills;
      after_extras = bare_extras laws.graphs.runs.keeps w.after w.after_extras;
      tree_is = ap bare w.node_is ∙ laws.bared w.root w.before w.after (suc (length text));
    },
    refl,
  )
    where
      w : IsWholeRoot (length text) (way_trees r.way) u
      w = r.root

      trees : way_trees (bare_links r.way) ≡ reverse (map bare w.after) ++ bare w.root ∷ reverse (map bare w.before)
      trees =
          trees_bare r.way ∙ ap (λ (l : List Tree). map bare l) w.stack_is ∙ map-append bare (reverse w.after) (w.root ∷ reverse w.before)
          ∙ ap (λ (l : List Tree). l ++ bare w.root ∷ map bare (reverse w.before)) (map_turned bare w.after)
          ∙ ap (λ (l : List Tree). reverse (map bare w.after) ++ bare w.root ∷ l) (map_turned bare w.before)

  -- ---- what is accepted is one of the roots

  module _ (u : Tree) (a : GraphAccepts P g.heads links u) where
    pub own : Lifted g.links a.head 0 a.way
    own = lift g.links a.way a.head 0 a.is

    own_trees : map bare (way_trees own.own) ≡ reverse a.after ++ a.root ∷ reverse a.before
    own_trees = sym (trees_bare own.own) ∙ ap way_trees own.bared ∙ a.trees_are

    pub parts : Split own.own (reverse a.after) a.root (reverse a.before)
    parts = split_way own.own (reverse a.after) a.root (reverse a.before) own_trees

    abbrev pub taken : List Link
    taken = parts.above ++ parts.root ∷ []

    pub ends : (b : ℕ) × IsWay g.links a.head taken b × IsWay g.links b parts.below 0
    ends = way_cut g.links taken parts.below a.head 0
        (subst (λ (ls : List Link). IsWay g.links a.head ls 0) (parts.is ∙ sym (append_assoc parts.above (parts.root ∷ []) parts.below)) own.is)

    above_extras : AreExtras (way_trees parts.above)
    above_extras = extras_bare laws.graphs.runs.keeps (way_trees parts.above) (subst AreExtras (sym parts.above_are) (extras_turned a.after a.after_extras))

    below_extras : AreExtras (way_trees parts.below)
    below_extras = extras_bare laws.graphs.runs.keeps (way_trees parts.below) (subst AreExtras (sym parts.below_are) (extras_turned a.before a.before_extras))

    root_fills : is_extra_node parts.root.tree ≡ false
    root_fills = sym (laws.graphs.runs.keeps parts.root.tree).extra ∙ ap is_extra_node parts.root_is ∙ a.root_fills

    trees_taken : way_trees taken ≡ way_trees parts.above ++ parts.root.tree ∷ []
    trees_taken = trees_append parts.above (parts.root ∷ [])

    pub takes_root : TakesFilled g.links a.head 1 taken ends.0
    takes_root = record {
      way = ends.1;
      filled = ap (λ (l : List Tree). length (filling l)) trees_taken ∙ ap (λ (l : List ℕ). length l) (filling_extras (way_trees parts.above) (parts.root.tree ∷ []) above_extras ∙ filling_tree parts.root.tree [] root_fills);
      ends = λ before last is.
          let e : way_trees parts.above ++ parts.root.tree ∷ [] ≡ before ++ last ∷ [] = sym trees_taken ∙ is in
          ap is_extra_node (sym (same_last (way_trees parts.above) before parts.root.tree last e).1) ∙ root_fills;
    }

    -- a head where the root begins
    low_at : (read : List ℕ) × (place : ℕ) × IsAt P g.heads ends.0 read place
    low_at =
        let w = last_link parts.above a.head ends.1 in
        let k = sound.1.laid.graph.linked (bare_link parts.root) (bare_member g.links parts.root w.0) in (
          k.under,
          k.from,
          subst (λ (n : ℕ). IsAt P g.heads n k.under k.from) w.1 (record { head = k.below.head; is = k.below.is; state = k.below.state; place_is = k.below.place_is }),
        )
      where
        last_link : (ls : List Link) (top : ℕ) → IsWay g.links top (ls ++ parts.root ∷ []) ends.0 → Contains g.links parts.root × (parts.root.below ≡ ends.0)
        last_link [] top w = (w.0, w.2)
        last_link (l ∷ ls) top w = last_link ls l.below w.2

    pub same_root : (size : ℕ) (way : Way) (n : Tree) → size ≡ length text → AreAt g.links way.links taken → way.below ≡ ends.0 → IsRootBy t.grammar g size a.head way n → bare n ≡ u
    same_root size way n size_is at low r =
        ap bare r.node_is ∙ laws.bared r.last.tree (reverse (way_trees r.below)) (reverse (way_trees r.above)) (suc size)
        ∙ ap bare (ap (λ (x : Tree). accepted x (map bare (reverse (way_trees r.below))) (map bare (reverse (way_trees r.above))) 0) last_is
        ∙ ap (λ (l : List Tree). accepted a.root l (map bare (reverse (way_trees r.above))) 0) before_is
        ∙ ap (λ (l : List Tree). accepted a.root a.before l 0) after_is)
        ∙ sym a.tree_is
      where
        same : (r.above ≡ parts.above) × (r.last ≡ parts.root)
        same = same_last r.above parts.above r.last parts.root (at_one g.links way.links (r.above ++ r.last ∷ []) taken r.at at)

        last_is : bare r.last.tree ≡ a.root
        last_is = ap (λ (l : Link). bare l.tree) same.1 ∙ parts.root_is

        after_is : map bare (reverse (way_trees r.above)) ≡ a.after
        after_is = map_turned bare (way_trees r.above) ∙ ap (λ (ls : List Link). reverse (map bare (way_trees ls))) same.0 ∙ ap (λ (l : List Tree). reverse l) parts.above_are ∙ reverse-reverse a.after

        below_same : map bare (way_trees r.below) ≡ map bare (way_trees parts.below)
        below_same =
            sym (trees_bare r.below)
            ∙ same_below Q facts (ground_base Q facts sound.1.laid.parsed.grounded) g.heads links graph (bare_links r.below) (bare_links parts.below) ends.0 low_at.1 low_at.0 low_at.2
            (way_bare g.links r.below ends.0 0 (subst (λ (b : ℕ). IsWay g.links b r.below 0) low r.under)) (way_bare g.links parts.below ends.0 0 ends.2)
            (subst AreExtras (sym (trees_bare r.below)) (bare_extras laws.graphs.runs.keeps (way_trees r.below) r.below_extras))
            (subst AreExtras (sym (trees_bare parts.below)) (bare_extras laws.graphs.runs.keeps (way_trees parts.below) below_extras))
            ∙ trees_bare parts.below

        before_is : map bare (reverse (way_trees r.below)) ≡ a.before
        before_is = map_turned bare (way_trees r.below) ∙ ap (λ (l : List Tree). reverse l) (below_same ∙ parts.below_are) ∙ reverse-reverse a.before

  -- ---- the ways from one head

  -- The roots on these ways were kept, or better ones.
  pub record KeepsWays (size h : ℕ) (ways : List Way) (old new : Option Tree) : Type 0 where
    pub all : (w : Way) → Contains ways w → (n : Tree) × IsRootBy t.grammar g size h w n × Withstands new (bare n)
    pub others : (v : Tree) → Withstands old v → Withstands new v
    pub from : (b : Tree) → new ≡ Some b → (old ≡ Some b) ⊎ IsRootOn g size h b
    pub form : HasForm t.grammar new

  pub ways_none : (size h : ℕ) (old : Option Tree) → HasForm t.grammar old → KeepsWays size h [] old old
  ways_none size h old form = record { all = λ w there. absurd (none_contained w there); others = λ v s. s; from = λ b is. inl is; form = form }

  pub ways_more : (size h : ℕ) (all : List Way) (i : ℕ) (w : Way) → i < length all → w ≡ get_or all i w → (old mid new : Option Tree) (n : Tree)
      → IsRootBy t.grammar g size h w n → KeepsBest mid new n → HasForm t.grammar new → KeepsWays size h (take i all) old mid → KeepsWays size h (take (i + 1) all) old new
  ways_more size h all i w low is old mid new n r k form before = subst (λ (l : List Way). KeepsWays size h l old new) (one_taken all i w low is) (record {
    all = λ x there. by x (Contains-push_cases (take i all) w x there);
    others = λ v s. k.others v (before.others v s);
    from = λ b new_is. from_by b new_is k.from;
    form = form;
  })
    where
      by : (x : Way) → Contains (take i all) x ⊎ (w ≡ x) → (m : Tree) × IsRootBy t.grammar g size h x m × Withstands new (bare m)
      by x (inl there) = let s = before.all x there in (s.0, s.1, k.others (bare s.0) s.2)
      by x (inr e) = subst (λ (y : Way). (m : Tree) × IsRootBy t.grammar g size h y m × Withstands new (bare m)) e (n, r, k.mine)

      from_by : (b : Tree) → new ≡ Some b → (new ≡ Some n) ⊎ (new ≡ mid) → (old ≡ Some b) ⊎ IsRootOn g size h b
      from_by b new_is (inl e) =
          let f : Some n ≡ Some b = sym e ∙ new_is in
          let one : n ≡ b = cc in
          inr (subst (λ (y : Tree). IsRootOn g size h y) one (root_on t g size h w n r))
      from_by b new_is (inr e) = before.from b (sym e ∙ new_is)

  -- all ways: all that is accepted at the head was kept, or better
  pub ways_all : (size h : ℕ) (all : List Way) (i : ℕ) (old new : Option Tree) → length all ≤ i → size ≡ length text → ListsWays g.links h 1 all → KeepsWays size h (take i all) old new → KeepsRoots t text g (h ∷ []) old new
  ways_all size h all i old new many size_is lists taken_so = record {
    all = all_kept;
    others = k.others;
    from = λ b is. ⊎_elim (λ o. inl o) (λ r. inr (h, Contains-push [] h, subst (λ (n : ℕ). IsRootOn g n h b) size_is r)) (k.from b is);
    form = k.form;
  }
    where
      k : KeepsWays size h all old new
      k = subst (λ (l : List Way). KeepsWays size h l old new) (take_all i all many) taken_so

      all_kept : (u : Tree) → AcceptsAmong t text g (h ∷ []) u → Withstands new u
      all_kept u x =
          let a = x.0 in
          let e : h ≡ a.head = first_of_one h a.head x.1 in
          let takes = subst (λ (n : ℕ). TakesFilled g.links n 1 (taken u a) (ends u a).0) (sym e) (takes_root u a) in
          let w = lists.all (taken u a) (ends u a).0 takes in
          let s = k.all w.0 w.1 in
          let same : bare s.0 ≡ u = same_root u a size w.0 s.0 size_is w.2 w.3 (subst (λ (n : ℕ). IsRootBy t.grammar g size n w.0 s.0) e s.1) in
          subst (λ (v : Tree). Withstands new v) same s.2

  -- ---- heads

  pub roots_none : (old : Option Tree) → HasForm t.grammar old → KeepsRoots t text g [] old old
  roots_none old form = record { all = λ u x. absurd (none_contained x.0.head x.1); others = λ v s. s; from = λ b is. inl is; form = form }

  pub roots_more : (all : List ℕ) (i : ℕ) (h : ℕ) → i < length all → h ≡ get_or all i h → (old mid new : Option Tree) → KeepsRoots t text g (take i all) old mid → KeepsRoots t text g (h ∷ []) mid new → KeepsRoots t text g (take (i + 1) all) old new
  roots_more all i h low is old mid new a b = subst (λ (l : List ℕ). KeepsRoots t text g l old new) (one_taken all i h low is) (record {
    all = λ u x. ⊎_elim
        (λ there. b.others u (a.all u (x.0, there)))
        (λ e. b.all u (x.0, subst (λ (n : ℕ). Contains (h ∷ []) n) e (Contains-push [] h)))
        (Contains-push_cases (take i all) h x.0.head x.1);
    others = λ v s. b.others v (a.others v s);
    from = λ c new_is. ⊎_elim
        (λ o. ⊎_elim (λ p. inl p) (λ r. inr (r.0, Contains-append_left (take i all) (h ∷ []) r.0 r.1, r.2)) (a.from c o))
        (λ r. inr (h, Contains-push (take i all) h, subst (λ (n : ℕ). IsRootOn g (length text) n c) (sym (first_of_one h r.0 r.1)) r.2))
        (b.from c new_is);
    form = b.form;
  })

  pub best_on : (size : ℕ) (heads : List ℕ) (i : ℕ) (best : Option Tree) → length heads ≤ i → CanChoose t text g size heads → KeepsRoots t text g (take i heads) None best → IsBestOn t text g heads best
  best_on size heads i best many can taken_so = record {
    accepted = λ b is.
        let r = root b is in
        let x = root_accepted r.0 b (can.each r.0 r.1) r.2 in
        (x.0, subst (λ (n : ℕ). Contains heads n) (sym x.1) r.1);
    root = root;
    form = k.form;
    all = k.all;
  }
    where
      k : KeepsRoots t text g heads None best
      k = subst (λ (l : List ℕ). KeepsRoots t text g l None best) (take_all i heads many) taken_so

      root : (b : Tree) → best ≡ Some b → (h : ℕ) × Contains heads h × IsRootOn g (length text) h b
      root b is = ⊎_elim (λ e. absurd (let f : None ≡ Some b = e in cc)) (λ r. r) (k.from b is)

-- ---- what each call asks for

-- a way that is listed leads as far as a root
module _ (t : ParseTable) (text : Bytes) (g : GraphView) (size h : ℕ) (can : CanChoose t text g size (h ∷ [])) (ways : List Way) (lists : ListsWays g.links h 1 ways) where
  pub can_take : (w : Way) → Contains ways w → CanTakeRoot t text g size h w
  can_take w there =
      let r = lists.each w there in
      record { sound = can.sound; size_is = can.size_is; accepts = can.each h (Contains-push [] h); taken = r.0; at = r.1; takes = r.2 }

-- one of the heads
pub can_one : (t : ParseTable) (text : Bytes) (g : GraphView) (size : ℕ) (heads : List ℕ) → CanChoose t text g size heads → (h : ℕ) → Contains heads h → CanChoose t text g size (h ∷ [])
can_one t text g size heads can h there = record {
  sound = can.sound;
  size_is = can.size_is;
  each = λ n w. subst (λ (m : ℕ). Accepts (parsing_of t text) g.heads m) (first_of_one h n w) (can.each h there);
}

pub no_form : (t : ParseTable) → HasForm t.grammar None
no_form t b is = absurd (let e : None ≡ Some b = is in cc)
