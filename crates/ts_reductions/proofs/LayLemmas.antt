-- A tree that is laid on a head: as a new link, or packed into the one that is there.
use Rattle.std.proofs.Common.{◌≡◌, ◌∙◌, sym, ap, refl, subst, ℕ, suc, ◌+◌, ◌<◌, ◌≤◌, ◌⊎◌, inl, inr, ⊎_elim, true, List, [], ◌∷◌, ◌++◌, length, slice_get, Some, arith}
use Rattle.std.specs.List.{Contains}
use Rattle.std.proofs.lemmas.Option.{slice_get_within}
use Rattle.std.proofs.lemmas.Bool.{cases_order}
use Rattle.std.proofs.lemmas.List.Elements.{Contains-append_left, Contains-push, Contains-push_cases}
use Rattle.ts_base.proofs.PlaceLemmas.{in_prefix, push_cases}
use Rattle.spec_trees.specs.declared.tree.Tree.{Tree}
use Rattle.spec_trees.specs.Trees.{is_extra_node, pad_of, size_of, span_of, node_extent, tree_depth, bare}
use Rattle.spec_trees.specs.Made.{most_depth}
use Rattle.spec_trees.specs.Choice.{IsInForm, AreOfOneGrammar}
use Rattle.spec_graph.specs.declared.graph.Head.{Head}
use Rattle.spec_graph.specs.declared.graph.Link.{Link}
use Rattle.spec_graph.specs.Laying.{Parsing, from_start, IsMet, Lays}
use Rattle.spec_graph.specs.Replacing.{AreAlike, Replaces, ReplacesBoth}
use Rattle.spec_graph.specs.Links.{IsAt, IsWay, IsLinked}
use Rattle.ts_graph.specs.declared.view.GraphView.{GraphView}
use Rattle.ts_graph.specs.Down.{KeepNumbers, OpensAt, IsBetween, IsPacked, link_with, place_at}
use Rattle.ts_reductions.specs.LayingLaws.{LayingLaws}
use Rattle.ts_reductions.specs.SoundLinks.{bare_link, bare_links, IsHeld}
use Rattle.ts_reductions.specs.Laying.{CanLayOn, HasTree, head_at, WasThere, KeepLinks, IsLaid}
use Rattle.ts_reductions.proofs.MemberLemmas.{contained_at, at_contained, read_at}
use Rattle.ts_reductions.proofs.GrowLemmas.{LinksStay, bare_member, member_bare, place_is_at, same_place, at_stays, linked_stays, way_stays}

module _ (laws : LayingLaws) (Q : Parsing) (old : GraphView) (below : ℕ) (tree : Tree) (depth state : ℕ) (can : CanLayOn Q old below tree depth state) (heads : List Head) (above : ℕ) (stay : KeepNumbers old.heads heads)
    (at : slice_get heads above ≡ Some (head_at state (can.from + span_of tree))) where
  abbrev to : ℕ
  to = can.from + span_of tree

  low_at : IsAt Q heads below can.read can.from
  low_at = at_stays Q old.heads heads stay below can.read can.from can.at

  high_at : IsAt Q heads above can.fits.now to
  high_at = record { head = head_at state to; is = at; state = can.fits.leads; place_is = refl }

  low_place : place_at heads below ≡ can.from
  low_place = place_is_at heads below low_at.head low_at.is ∙ low_at.place_is

  high_place : place_at heads above ≡ to
  high_place = place_is_at heads above (head_at state to) at

  -- ---- what holds of each link

  old_place : (h : ℕ) (read : List ℕ) (place : ℕ) → IsAt Q old.heads h read place → place_at heads h ≡ place_at old.heads h
  old_place h read place a = place_is_at heads h a.head (stay h a.head a.is) ∙ sym (place_is_at old.heads h a.head a.is)

  old_linked : (l : Link) → Contains old.links l → IsLinked Q old.heads (bare_link l)
  old_linked l there = can.sound.graph.linked (bare_link l) (bare_member old.links l there)

  still_linked : (l : Link) → Contains old.links l → IsLinked Q heads (bare_link l)
  still_linked l there = linked_stays Q old.heads heads stay (bare_link l) (old_linked l there)

  still_held : (l : Link) → Contains old.links l → IsHeld Q heads l
  still_held l there =
      let k = old_linked l there in
      let h = can.sound.held l there in
      let low = old_place l.below k.under k.from k.below in
      let high = old_place l.above k.over k.to k.above in
      record {
        form = h.form;
        some = h.some;
        spans = ap (λ (n : ℕ). n + span_of l.tree) low ∙ h.spans ∙ sym high;
        reach = omega (arith, low, h.reach);
        not_deep = h.not_deep;
      }

  -- a link between both heads, with the tree or one that was laid there
  module _ (l : Link) (b : l.below ≡ below) (a : l.above ≡ above) where
    here_linked : Lays Q can.read can.from (bare l.tree ∷ []) to can.fits.now → tree_depth (bare l.tree) ≤ l.depth → (is_extra_node (bare l.tree) ≡ true → l.depth ≡ 1) → (IsMet Q → (u : Tree) × Lays (from_start Q) can.read can.from (u ∷ []) to can.fits.now × (tree_depth u ≡ l.depth)) → IsLinked Q heads (bare_link l)
    here_linked lays shallow flat deep = record {
      under = can.read;
      over = can.fits.now;
      from = can.from;
      to = to;
      below = subst (λ (h : ℕ). IsAt Q heads h can.read can.from) (sym b) low_at;
      above = subst (λ (h : ℕ). IsAt Q heads h can.fits.now to) (sym a) high_at;
      lays = lays;
      shallow = shallow;
      flat = flat;
      deepest = deep;
    }

    here_held : IsInForm Q.grammar l.tree → span_of l.tree ≡ span_of tree → can.from + node_extent l.tree ≤ suc (length Q.text) → l.depth ≤ most_depth → IsHeld Q heads l
    here_held form span reach low_depth =
        let low = ap (place_at heads) b ∙ low_place in
        let high = ap (place_at heads) a ∙ high_place in
        record {
          form = form;
          some = omega (arith, span, can.fits.some);
          spans = omega (arith, low, high, span);
          reach = omega (arith, low, reach);
          not_deep = low_depth;
        }

  -- ---- where a link's tree comes from

  abbrev Comes : Link → Type 0
  Comes l = ((l.below ≡ below) × (l.tree ≡ tree)) ⊎ WasThere old l

  -- ---- the grown graph

  module _ (new : GraphView) (heads_are : new.heads ≡ heads) (only : (h : ℕ) (head : Head) → slice_get heads h ≡ Some head → (slice_get old.heads h ≡ Some head) ⊎ (h ≡ above))
      (links_stay : LinksStay (bare_links old.links) (bare_links new.links)) (kept : KeepLinks old.links new.links)
      (each : (l : Link) → Contains new.links l → IsLinked Q heads (bare_link l) × IsHeld Q heads l)
      (has : HasTree (bare_links new.links) below (bare tree) depth above) (trees : (l : Link) → Contains new.links l → Comes l) where
    down : (h : ℕ) (head : Head) → slice_get heads h ≡ Some head → (way : List Link) × IsWay (bare_links new.links) h way 0
    down h head is = ⊎_elim still over (only h head is)
      where
        still : slice_get old.heads h ≡ Some head → (way : List Link) × IsWay (bare_links new.links) h way 0
        still o = let w = can.sound.graph.down h head o in way_stays (bare_links old.links) (bare_links new.links) links_stay w.0 h 0 w.1

        over : h ≡ above → (way : List Link) × IsWay (bare_links new.links) h way 0
        over e =
            let w = can.sound.graph.down below can.at.head can.at.is in
            let v = way_stays (bare_links old.links) (bare_links new.links) links_stay w.0 below 0 w.1 in
            (has.link ∷ v.0, (has.there, has.above_is ∙ sym e, subst (λ (n : ℕ). IsWay (bare_links new.links) n v.0 0) (sym has.below_is) v.1))

    linked : (n : Link) → Contains (bare_links new.links) n → IsLinked Q heads n
    linked n there =
        let m = member_bare new.links n there in
        subst (λ (x : Link). IsLinked Q heads x) m.2 (each m.0 m.1).0

    inside : (h : ℕ) (head : Head) → slice_get heads h ≡ Some head → head.place ≤ length Q.text
    inside h head is = ⊎_elim (λ o. can.sound.within h head o)
        (λ e.
        let f : Some head ≡ Some (head_at state to) = sym is ∙ ap (λ (x : ℕ). slice_get heads x) e ∙ at in
        let g : head ≡ head_at state to = cc in
        let p : head.place ≡ to = ap (λ (x : Head). x.place) g in
        omega (arith, p, can.fits.within))
        (only h head is)

    pub is_laid : IsLaid Q old new below can.from tree depth state above
    is_laid = record {
      sound = record {
        parsed = can.sound.parsed;
        graph = record {
          start = subst (λ (hs : List Head). IsAt Q hs 0 [] 0) (sym heads_are) (at_stays Q old.heads heads stay 0 [] 0 can.sound.graph.start);
          linked = subst (λ (hs : List Head). (n : Link) → Contains (bare_links new.links) n → IsLinked Q hs n) (sym heads_are) linked;
          down = subst (λ (hs : List Head). (h : ℕ) (head : Head) → slice_get hs h ≡ Some head → (way : List Link) × IsWay (bare_links new.links) h way 0) (sym heads_are) down;
        };
        held = λ l there. subst (λ (hs : List Head). IsHeld Q hs l) (sym heads_are) (each l there).1;
        within = subst (λ (hs : List Head). (h : ℕ) (head : Head) → slice_get hs h ≡ Some head → head.place ≤ length Q.text) (sym heads_are) inside;
      };
      grows = record {
        stay = subst (λ (hs : List Head). KeepNumbers old.heads hs) (sym heads_are) stay;
        kept = kept;
        links = links_stay;
      };
      at = subst (λ (hs : List Head). slice_get hs above ≡ Some (head_at state to)) (sym heads_are) at;
      only = subst (λ (hs : List Head). (h : ℕ) (head : Head) → slice_get hs h ≡ Some head → (slice_get old.heads h ≡ Some head) ⊎ (h ≡ above)) (sym heads_are) only;
      has = has;
      trees = trees;
    }

  -- ---- a new link

  keeps_depth : tree_depth (bare tree) ≡ tree_depth tree
  keeps_depth = (laws.keeps tree).depth

  bare_shallow : tree_depth (bare tree) ≤ depth
  bare_shallow = omega (arith, keeps_depth, can.fits.shallow)

  same_stay : (l : Link) → (more : List Link) → Contains (bare_links old.links) l → Contains (bare_links (old.links ++ more)) l
  same_stay l more there =
      let m = member_bare old.links l there in
      subst (λ (x : Link). Contains (bare_links (old.links ++ more)) x) m.2 (bare_member (old.links ++ more) m.0 (Contains-append_left old.links more m.0 m.1))

  abbrev one : Link
  one = link_with above below tree depth

  one_so : IsLinked Q heads (bare_link one) × IsHeld Q heads one
  one_so = (
    here_linked one refl refl can.fits.lays bare_shallow (λ e. can.fits.flat (sym (laws.keeps tree).extra ∙ e)) can.fits.deepest,
    here_held one refl refl can.fits.form refl can.fits.reach can.fits.not_deep,
  )

  pub push_laid : (new : GraphView) → new.heads ≡ heads → ((h : ℕ) (head : Head) → slice_get heads h ≡ Some head → (slice_get old.heads h ≡ Some head) ⊎ (h ≡ above)) → new.links ≡ old.links ++ link_with above below tree depth ∷ []
      → IsLaid Q old new below can.from tree depth state above
  push_laid new heads_are only links_are = is_laid new heads_are only stays kept each has trees
    where
      stays : LinksStay (bare_links old.links) (bare_links new.links)
      stays l there = (l, subst (λ (ls : List Link). Contains (bare_links ls) l) (sym links_are) (same_stay l (one ∷ []) there), refl, refl, laws.same l.tree, (omega arith))

      kept : KeepLinks old.links new.links
      kept k l is = (l, ap (λ (ls : List Link). slice_get ls k) links_are ∙ in_prefix old.links (one ∷ []) k (slice_get_within old.links k l is) ∙ is, refl, refl, refl)

      here : Contains new.links one
      here = subst (λ (ls : List Link). Contains ls one) (sym links_are) (Contains-push old.links one)

      has : HasTree (bare_links new.links) below (bare tree) depth above
      has = record {
        link = bare_link one;
        there = bare_member new.links one here;
        below_is = refl;
        above_is = refl;
        replaces = laws.same (bare tree);
        no_less = omega arith;
      }

      cases : (l : Link) → Contains new.links l → Contains old.links l ⊎ (one ≡ l)
      cases l there = Contains-push_cases old.links one l (subst (λ (ls : List Link). Contains ls l) links_are there)

      each_by : (l : Link) → Contains old.links l ⊎ (one ≡ l) → IsLinked Q heads (bare_link l) × IsHeld Q heads l
      each_by l (inl there) = (still_linked l there, still_held l there)
      each_by l (inr e) = subst (λ (x : Link). IsLinked Q heads (bare_link x) × IsHeld Q heads x) e one_so

      each : (l : Link) → Contains new.links l → IsLinked Q heads (bare_link l) × IsHeld Q heads l
      each l there = each_by l (cases l there)

      trees_by : (l : Link) → Contains old.links l ⊎ (one ≡ l) → Comes l
      trees_by l (inl there) = inr (l, there, refl, refl, refl)
      trees_by l (inr e) = inl (ap (λ (x : Link). x.below) (sym e), ap (λ (x : Link). x.tree) (sym e))

      trees : (l : Link) → Contains new.links l → Comes l
      trees l there = trees_by l (cases l there)

  -- ---- a link that was there

  module _ (k : ℕ) (o : Link) (o_is : slice_get old.links k ≡ Some o) (o_above : o.above ≡ above) (o_below : o.below ≡ below) where
    o_there : Contains old.links o
    o_there = contained_at old.links k o o_is

    o_linked : IsLinked Q heads (bare_link o)
    o_linked = still_linked o o_there

    o_low : IsAt Q heads below o_linked.under o_linked.from
    o_low = subst (λ (h : ℕ). IsAt Q heads h o_linked.under o_linked.from) o_below o_linked.below

    o_high : IsAt Q heads above o_linked.over o_linked.to
    o_high = subst (λ (h : ℕ). IsAt Q heads h o_linked.over o_linked.to) o_above o_linked.above

    from_is : o_linked.from ≡ can.from
    from_is = same_place Q heads below o_linked.under can.read o_linked.from can.from o_low low_at

    to_is : o_linked.to ≡ to
    to_is = same_place Q heads above o_linked.over can.fits.now o_linked.to to o_high high_at

    at_low : IsAt Q heads below o_linked.under can.from
    at_low = subst (λ (n : ℕ). IsAt Q heads below o_linked.under n) from_is o_low

    at_high : IsAt Q heads above o_linked.over to
    at_high = subst (λ (n : ℕ). IsAt Q heads above o_linked.over n) to_is o_high

    -- what was laid between the two heads
    module _ (u : Tree) (l : Lays Q o_linked.under o_linked.from (u ∷ []) o_linked.to o_linked.over) where
      moved : Lays Q o_linked.under can.from (u ∷ []) to o_linked.over
      moved = subst (λ (n : ℕ). Lays Q o_linked.under can.from (u ∷ []) n o_linked.over) to_is (subst (λ (n : ℕ). Lays Q o_linked.under n (u ∷ []) o_linked.to o_linked.over) from_is l)

      alike : AreAlike u (bare tree)
      alike = laws.alike Q can.sound.parsed.fit can.sound.parsed.states can.sound.parsed.grounded heads below above o_linked.under can.read o_linked.over can.fits.now can.from to u (bare tree) at_low at_high low_at high_at moved can.fits.lays

      comes_here : Lays Q can.read can.from (u ∷ []) to can.fits.now
      comes_here = laws.either Q can.sound.parsed.fit can.sound.parsed.states can.sound.parsed.grounded heads below above o_linked.under can.read o_linked.over can.fits.now can.from to u (bare tree) at_low at_high low_at high_at moved can.fits.lays

    -- what was laid there from the start
    deep_here : IsMet Q → (u : Tree) → Lays (from_start Q) o_linked.under o_linked.from (u ∷ []) o_linked.to o_linked.over → Lays (from_start Q) can.read can.from (u ∷ []) to can.fits.now
    deep_here met u l =
        laws.deep Q can.sound.parsed.fit can.sound.parsed.states heads below above o_linked.under can.read o_linked.over can.fits.now can.from to u (can.fits.deepest met).0 at_low at_high low_at high_at
        (subst (λ (n : ℕ). Lays (from_start Q) o_linked.under can.from (u ∷ []) n o_linked.over) to_is (subst (λ (n : ℕ). Lays (from_start Q) o_linked.under n (u ∷ []) o_linked.to o_linked.over) from_is l))
        (can.fits.deepest met).1

    o_alike : AreAlike (bare o.tree) (bare tree)
    o_alike = alike (bare o.tree) o_linked.lays

    keeps : (x : Tree) → span_of (bare x) ≡ span_of x
    keeps x = let y = laws.keeps x in let p = y.pad in let z = y.size in omega (arith, p, z)

    o_span : span_of o.tree ≡ span_of tree
    o_span = let p = o_alike.pad in let z = o_alike.size in let x = keeps o.tree in let y = keeps tree in omega (arith, p, z, x, y)

    o_form : IsInForm Q.grammar o.tree
    o_form = (can.sound.held o o_there).form

    pub pack_form : AreOfOneGrammar tree o.tree
    pack_form = (Q.grammar, can.fits.form, o_form)

    module _ (m : Link) (packed : IsPacked o tree depth m) where
      choice : ReplacesBoth o.tree tree m.tree
      choice = laws.both o.tree tree m.tree o_alike packed.better packed.no_better

      m_below : m.below ≡ below
      m_below = packed.below_stays ∙ o_below

      m_above : m.above ≡ above
      m_above = packed.above_stays ∙ o_above

      o_depth : o.depth ≤ m.depth
      o_depth = let d = packed.depth_is in omega (arith, d)

      own_depth : depth ≤ m.depth
      own_depth = let d = packed.depth_is in omega (arith, d)

      o_held : IsHeld Q heads o
      o_held = still_held o o_there

      m_not_deep : m.depth ≤ most_depth
      m_not_deep = let d = packed.depth_is in omega (arith, d, o_held.not_deep, can.fits.not_deep)

      m_tree : Lays Q can.read can.from (bare m.tree ∷ []) to can.fits.now × (tree_depth (bare m.tree) ≤ m.depth) × IsHeld Q heads m
      m_tree = ⊎_elim is_new is_old choice.which
        where
          is_new : m.tree ≡ tree → Lays Q can.read can.from (bare m.tree ∷ []) to can.fits.now × (tree_depth (bare m.tree) ≤ m.depth) × IsHeld Q heads m
          is_new e = (
            subst (λ (x : Tree). Lays Q can.read can.from (bare x ∷ []) to can.fits.now) (sym e) can.fits.lays,
            (let d = ap (λ (x : Tree). tree_depth (bare x)) e in omega (arith, d, bare_shallow, own_depth)),
            here_held m m_below m_above (subst (λ (x : Tree). IsInForm Q.grammar x) (sym e) can.fits.form) (ap span_of e) (subst (λ (x : Tree). can.from + node_extent x ≤ suc (length Q.text)) (sym e) can.fits.reach) m_not_deep,
          )

          is_old : m.tree ≡ o.tree → Lays Q can.read can.from (bare m.tree ∷ []) to can.fits.now × (tree_depth (bare m.tree) ≤ m.depth) × IsHeld Q heads m
          is_old e = (
            subst (λ (x : Tree). Lays Q can.read can.from (bare x ∷ []) to can.fits.now) (sym e) (comes_here (bare o.tree) o_linked.lays),
            (let d = ap (λ (x : Tree). tree_depth (bare x)) e in let s = o_linked.shallow in omega (arith, d, s, o_depth)),
            here_held m m_below m_above (subst (λ (x : Tree). IsInForm Q.grammar x) (sym e) o_held.form) (ap span_of e ∙ o_span)
                (subst (λ (x : Tree). can.from + node_extent x ≤ suc (length Q.text)) (sym e) (let low = ap (place_at heads) o_below ∙ low_place in omega (arith, low, o_held.reach))) m_not_deep,
          )

      m_deep : IsMet Q → (u : Tree) × Lays (from_start Q) can.read can.from (u ∷ []) to can.fits.now × (tree_depth u ≡ m.depth)
      m_deep met = by (cases_order o.depth depth)
        where
          by : (o.depth ≡ depth) ⊎ ((o.depth < depth) ⊎ (depth < o.depth)) → (u : Tree) × Lays (from_start Q) can.read can.from (u ∷ []) to can.fits.now × (tree_depth u ≡ m.depth)
          by (inl same) = let d = packed.depth_is in let x = can.fits.deepest met in (x.0, x.1, (let e = x.2 in omega (arith, e, d, same)))
          by (inr (inl lt)) = let d = packed.depth_is in let x = can.fits.deepest met in (x.0, x.1, (let e = x.2 in omega (arith, e, d, lt)))
          by (inr (inr lt)) = let d = packed.depth_is in let x = o_linked.deepest met in (x.0, deep_here met x.0 x.1, (let e = x.2 in omega (arith, e, d, lt)))

      -- both trees are extras where the one that stays is
      m_flat : is_extra_node (bare m.tree) ≡ true → m.depth ≡ 1
      m_flat e = ⊎_elim
          (λ new. flat_both (sym (laws.keeps tree).extra ∙ ap (λ (x : Tree). is_extra_node (bare x)) (sym new) ∙ e))
          (λ old. flat_both (sym (laws.keeps tree).extra ∙ sym o_alike.extra ∙ ap (λ (x : Tree). is_extra_node (bare x)) (sym old) ∙ e)) choice.which
        where
          flat_both : is_extra_node tree ≡ true → m.depth ≡ 1
          flat_both is =
              let one = can.fits.flat is in
              let other = o_linked.flat (o_alike.extra ∙ (laws.keeps tree).extra ∙ is) in
              let d = packed.depth_is in
              omega (arith, one, other, d)

      m_so : IsLinked Q heads (bare_link m) × IsHeld Q heads m
      m_so = let x = m_tree in (here_linked m m_below m_above x.0 x.1 m_flat m_deep, x.2)

    module _ (new : GraphView) (m : Link) (m_is : slice_get new.links k ≡ Some m) (packed : IsPacked o tree depth m) (others : (j : ℕ) → (j ≡ k → ⊥) → slice_get new.links j ≡ slice_get old.links j) where
      m_there : Contains (bare_links new.links) (bare_link m)
      m_there = bare_member new.links m (contained_at new.links k m m_is)

      same_number : (j : ℕ) → (j ≡ k) ⊎ (j ≡ k → ⊥)
      same_number j = ⊎_elim (λ e. inl e) (λ h. inr (λ e. ⊎_elim (λ (a : j < k). omega (arith, a, e)) (λ (b : k < j). omega (arith, b, e)) h)) (cases_order j k)

      abbrev StaysAs : Link → Type 0
      StaysAs l = (n : Link) × Contains (bare_links new.links) n × (n.above ≡ l.above) × (n.below ≡ l.below) × Replaces n.tree l.tree × (l.depth ≤ n.depth)

      stays_at : (l : Link) (j : ℕ) → slice_get old.links j ≡ Some l → (j ≡ k) ⊎ (j ≡ k → ⊥) → StaysAs (bare_link l)
      stays_at l j is (inl e) =
          let f : Some o ≡ Some l = sym o_is ∙ ap (λ (x : ℕ). slice_get old.links x) (sym e) ∙ is in
          let same : o ≡ l = cc in
          subst (λ (x : Link). StaysAs (bare_link x)) same (bare_link m, m_there, packed.above_stays, packed.below_stays, (choice m packed).first, o_depth m packed)
      stays_at l j is (inr other) = (bare_link l, bare_member new.links l (contained_at new.links j l (others j other ∙ is)), refl, refl, laws.same (bare l.tree), (omega arith))

      stays : LinksStay (bare_links old.links) (bare_links new.links)
      stays n there =
          let r = member_bare old.links n there in
          let j = at_contained old.links r.0 r.1 in
          subst (λ (x : Link). StaysAs x) r.2 (stays_at r.0 j.0 j.1 (same_number j.0))

      same_extra : is_extra_node m.tree ≡ is_extra_node o.tree
      same_extra = sym (laws.keeps m.tree).extra ∙ (choice m packed).first.extra ∙ (laws.keeps o.tree).extra

      kept_at : (j : ℕ) (l : Link) → slice_get old.links j ≡ Some l → (j ≡ k) ⊎ (j ≡ k → ⊥) → (n : Link) × (slice_get new.links j ≡ Some n) × (n.above ≡ l.above) × (n.below ≡ l.below) × (is_extra_node n.tree ≡ is_extra_node l.tree)
      kept_at j l is (inl e) =
          let f : Some o ≡ Some l = sym o_is ∙ ap (λ (x : ℕ). slice_get old.links x) (sym e) ∙ is in
          let same : o ≡ l = cc in
          subst (λ (x : Link). (n : Link) × (slice_get new.links j ≡ Some n) × (n.above ≡ x.above) × (n.below ≡ x.below) × (is_extra_node n.tree ≡ is_extra_node x.tree)) same
          (m, ap (λ (x : ℕ). slice_get new.links x) e ∙ m_is, packed.above_stays, packed.below_stays, same_extra)
      kept_at j l is (inr other) = (l, others j other ∙ is, refl, refl, refl)

      kept : KeepLinks old.links new.links
      kept j l is = kept_at j l is (same_number j)

      same_link : (l : Link) (j : ℕ) → slice_get new.links j ≡ Some l → j ≡ k → m ≡ l
      same_link l j is e = let f : Some m ≡ Some l = sym m_is ∙ ap (λ (x : ℕ). slice_get new.links x) (sym e) ∙ is in cc

      each_at : (l : Link) (j : ℕ) → slice_get new.links j ≡ Some l → (j ≡ k) ⊎ (j ≡ k → ⊥) → IsLinked Q heads (bare_link l) × IsHeld Q heads l
      each_at l j is (inl e) = subst (λ (x : Link). IsLinked Q heads (bare_link x) × IsHeld Q heads x) (same_link l j is e) (m_so m packed)
      each_at l j is (inr other) = let there = contained_at old.links j l (sym (others j other) ∙ is) in (still_linked l there, still_held l there)

      each : (l : Link) → Contains new.links l → IsLinked Q heads (bare_link l) × IsHeld Q heads l
      each l there = let j = at_contained new.links l there in each_at l j.0 j.1 (same_number j.0)

      trees_at : (l : Link) (j : ℕ) → slice_get new.links j ≡ Some l → (j ≡ k) ⊎ (j ≡ k → ⊥) → Comes l
      trees_at l j is (inl e) = subst Comes (same_link l j is e) (⊎_elim (λ x. inl (m_below m packed, x)) (λ y. inr (o, o_there, sym packed.above_stays, sym packed.below_stays, y)) (choice m packed).which)
      trees_at l j is (inr other) = inr (l, contained_at old.links j l (sym (others j other) ∙ is), refl, refl, refl)

      trees : (l : Link) → Contains new.links l → Comes l
      trees l there = let j = at_contained new.links l there in trees_at l j.0 j.1 (same_number j.0)

      has : HasTree (bare_links new.links) below (bare tree) depth above
      has = record {
        link = bare_link m;
        there = m_there;
        below_is = m_below m packed;
        above_is = m_above m packed;
        replaces = (choice m packed).second;
        no_less = own_depth m packed;
      }

      pack_by : new.heads ≡ heads → ((h : ℕ) (head : Head) → slice_get heads h ≡ Some head → (slice_get old.heads h ≡ Some head) ⊎ (h ≡ above)) → IsLaid Q old new below can.from tree depth state above
      pack_by heads_are only = is_laid new heads_are only stays kept each has trees

    pub pack_laid : (new : GraphView) → new.heads ≡ heads → ((h : ℕ) (head : Head) → slice_get heads h ≡ Some head → (slice_get old.heads h ≡ Some head) ⊎ (h ≡ above)) → length new.links ≡ length old.links
        → ((m : Link) → slice_get new.links k ≡ Some m → IsPacked o tree depth m) → ((j : ℕ) → (j ≡ k → ⊥) → slice_get new.links j ≡ slice_get old.links j)
        → IsLaid Q old new below can.from tree depth state above
    pack_laid new heads_are only count packed others =
        let low : k < length new.links = omega (arith, count, slice_get_within old.links k o o_is) in
        let r = read_at new.links k low in
        pack_by new r.0 r.1 (packed r.0 r.1) others heads_are only

-- ---- the same of the calls

-- what is known once the head above was opened
pub record Opened (old mid : GraphView) (below above state place to : ℕ) (tree : Tree) : Type 0 where
  pub place_is : place ≡ place_at old.heads below
  pub to_is : to ≡ place + span_of tree
  pub stay : KeepNumbers old.heads mid.heads
  pub same : mid.links ≡ old.links
  pub opens : OpensAt old.heads mid.heads (head_at state to) above

-- the same from what the calls tell
pub opened : (old mid : GraphView) (below above state : ℕ) (head : Head) (tree : Tree) (pad size : ℕ) → slice_get old.heads below ≡ Some head → pad ≡ pad_of tree → size ≡ size_of tree
    → KeepNumbers old.heads mid.heads → mid.links ≡ old.links → OpensAt old.heads mid.heads (head_at state (head.place + (pad + size))) above
    → Opened old mid below above state head.place (head.place + (pad + size)) tree
opened old mid below above state head tree pad size is p z stay same opens = record {
  place_is = sym (place_is_at old.heads below head is);
  to_is = omega (arith, p, z);
  stay = stay;
  same = same;
  opens = opens;
}

module _ (laws : LayingLaws) (Q : Parsing) (old mid : GraphView) (below above : ℕ) (tree : Tree) (depth state place to : ℕ) (o : Opened old mid below above state place to tree) (can : CanLayOn Q old below tree depth state) where
  opened_from : place ≡ can.from
  opened_from = o.place_is ∙ place_is_at old.heads below can.at.head can.at.is ∙ can.at.place_is

  at_from : slice_get mid.heads above ≡ Some (head_at state (can.from + span_of tree))
  at_from = subst (λ (n : ℕ). slice_get mid.heads above ≡ Some (head_at state n)) (o.to_is ∙ ap (λ (n : ℕ). n + span_of tree) opened_from) o.opens.at

  only : (h : ℕ) (head : Head) → slice_get mid.heads h ≡ Some head → (slice_get old.heads h ≡ Some head) ⊎ (h ≡ above)
  only h head is = by o.opens.added
    where
      last : above ≡ length old.heads → ((h < length old.heads) × (slice_get old.heads h ≡ Some head)) ⊎ ((h ≡ length old.heads) × (head_at state to ≡ head)) → (slice_get old.heads h ≡ Some head) ⊎ (h ≡ above)
      last at (inl w) = inl w.1
      last at (inr w) = inr (w.0 ∙ sym at)

      by : (mid.heads ≡ old.heads) ⊎ ((mid.heads ≡ old.heads ++ head_at state to ∷ []) × (above ≡ length old.heads)) → (slice_get old.heads h ≡ Some head) ⊎ (h ≡ above)
      by (inl none) = inl (subst (λ (hs : List Head). slice_get hs h ≡ Some head) none is)
      by (inr w) = last w.1 (push_cases old.heads (head_at state to) h head (subst (λ (hs : List Head). slice_get hs h ≡ Some head) w.0 is))

  pub below_there : below < length mid.heads
  below_there = slice_get_within mid.heads below can.at.head (o.stay below can.at.head can.at.is)

  pub falls : place_at mid.heads below < place_at mid.heads above
  falls =
      let low = place_is_at mid.heads below can.at.head (o.stay below can.at.head can.at.is) ∙ can.at.place_is in
      let high = place_is_at mid.heads above (head_at state (can.from + span_of tree)) at_from in
      let some_bytes = can.fits.some in
      omega (arith, low, high, some_bytes)

  back : (new : GraphView) → IsLaid Q old new below can.from tree depth state above → IsLaid Q old new below (place_at old.heads below) tree depth state above
  back new laid = subst (λ (p : ℕ). IsLaid Q old new below p tree depth state above) (sym (sym o.place_is ∙ opened_from)) laid

  pub pushed : (new : GraphView) → new.heads ≡ mid.heads → new.links ≡ mid.links ++ link_with above below tree depth ∷ [] → IsLaid Q old new below (place_at old.heads below) tree depth state above
  pushed new heads_are links_are =
      back new
      (push_laid laws Q old below tree depth state can mid.heads above o.stay at_from new heads_are only (subst (λ (ls : List Link). new.links ≡ ls ++ link_with above below tree depth ∷ []) o.same links_are))

  module _ (k : ℕ) (between : IsBetween mid.links above below k) where
    old_at : slice_get old.links k ≡ Some between.link
    old_at = subst (λ (ls : List Link). slice_get ls k ≡ Some between.link) o.same between.at

    pub form : (l : Link) → slice_get mid.links k ≡ Some l → AreOfOneGrammar tree l.tree
    form l is =
        let e : Some between.link ≡ Some l = sym between.at ∙ is in
        let one : between.link ≡ l = cc in
        subst (λ (x : Link). AreOfOneGrammar tree x.tree) one (pack_form laws Q old below tree depth state can mid.heads above o.stay at_from k between.link old_at between.above_is between.below_is)

    pub packed : (new : GraphView) → new.heads ≡ mid.heads → length new.links ≡ length mid.links → ((l m : Link) → slice_get mid.links k ≡ Some l → slice_get new.links k ≡ Some m → IsPacked l tree depth m)
        → ((j : ℕ) → (j ≡ k → ⊥) → slice_get new.links j ≡ slice_get mid.links j) → IsLaid Q old new below (place_at old.heads below) tree depth state above
    packed new heads_are count change others =
        back new
        (pack_laid laws Q old below tree depth state can mid.heads above o.stay at_from k between.link old_at between.above_is between.below_is new heads_are only
        (count ∙ ap (λ (ls : List Link). length ls) o.same) (λ m is. change between.link m between.at is) (λ j other. others j other ∙ ap (λ (ls : List Link). slice_get ls j) o.same))
