-- Extras that are laid one on another.
use Rattle.std.specs.List.{Contains, flat_map}
use Rattle.std.proofs.Common.{◌≡◌, ◌∙◌, sym, ap, refl, subst, ℕ, ◌+◌, ◌<◌, ◌≤◌, ◌⊎◌, inl, inr, ⊎_elim, true, List, [], ◌∷◌, ◌++◌, length, take, drop, get_or, slice_get, Some, arith}
use Rattle.std.proofs.lemmas.List.{drop_more, take_more, take_all}
use Rattle.std.proofs.lemmas.Grind.{flat_map-append}
use Rattle.std.proofs.lemmas.List.Elements.{Contains-get_or, Contains-append_left, Contains-append_right, Contains-push, Contains-push_cases}
use Rattle.spec_trees.specs.declared.tree.Tree.{Tree}
use Rattle.spec_trees.specs.Trees.{is_extra_node, span_of, tree_depth, all_spans, bare}
use Rattle.spec_graph.specs.declared.graph.Head.{Head}
use Rattle.spec_graph.specs.declared.graph.Link.{Link}
use Rattle.spec_graph.specs.States.{LeadsTo}
use Rattle.spec_graph.specs.Laying.{Parsing, extra_tree, PassesTree}
use Rattle.spec_graph.specs.Links.{IsAt, HasLink}
use Rattle.spec_graph.specs.Replacing.{Replaces}
use Rattle.ts_graph.specs.declared.view.GraphView.{GraphView}
use Rattle.ts_graph.specs.Down.{place_at}
use Rattle.ts_reductions.specs.declared.made.Made.{Made}
use Rattle.ts_reductions.specs.LayingLaws.{LayingLaws}
use Rattle.ts_reductions.specs.SoundLinks.{CanBeParsed, bare_link, bare_links, IsSoundFor}
use Rattle.ts_reductions.specs.Laying.{CanLayAll, FitsAfter, CanLayOn, Grows, head_at, IsLaid, FitExtras, HasPassed, IsNewHead, CanLayExtras, AreExtrasLaid, CanLayMade, placed, WasThere, TreesFrom, trees_of, end_of, HasNode, IsMadeLaid, AreAllLaid}
use Rattle.ts_reductions.proofs.MemberLemmas.{none_contained, only_one, first_contained, take_contained}
use Rattle.ts_reductions.proofs.GrowLemmas.{bare_member, at_stays, place_is_at, tree_stays, grows_none, grows_on}

pub drop_item : {X : Type 0} (xs : List X) (i : ℕ) (x : X) → i < length xs → x ≡ get_or xs i x → drop i xs ≡ x ∷ drop (i + 1) xs
drop_item {X = X} xs i x low is = drop_more xs i x low ∙ ap (λ (y : X). y ∷ drop (i + 1) xs) (sym is)

-- ---- what grown graphs keep

pub link_stays : LayingLaws → (P : Parsing) (a b : GraphView) → Grows a b → (h : ℕ) (u : Tree) (place : ℕ) (now : List ℕ) → HasLink P a.heads (bare_links a.links) h u place now → HasLink P b.heads (bare_links b.links) h u place now
link_stays laws P a b g h u place now k =
    let n = g.links k.link k.there in
    record {
      link = n.0;
      there = n.1;
      below = n.3 ∙ k.below;
      above = subst (λ (x : ℕ). IsAt P b.heads x now place) (sym n.2) (at_stays P a.heads b.heads g.stay k.link.above now place k.above);
      stands = record {
        tree = laws.through n.0.tree k.link.tree u n.4 k.stands.tree;
        depth = let more = n.5 in omega (arith, more, k.stands.depth);
      };
    }

pub passed_stays : LayingLaws → (Q : Parsing) (a b : GraphView) → Grows a b → (h : ℕ) → HasPassed Q a h → HasPassed Q b h
passed_stays laws Q a b g h p = record {
  read = p.read;
  from = p.from;
  late = p.late;
  at = at_stays Q a.heads b.heads g.stay h p.read p.from p.at;
  symbol = p.symbol;
  pad = p.pad;
  size = p.size;
  passes = p.passes;
  link = link_stays laws Q a b g h (extra_tree p.symbol p.pad p.size) (p.from + (p.pad + p.size)) p.read p.link;
}

-- only the empty list leads to state 0
pub not_first : (Q : Parsing) → CanBeParsed Q → (read : List ℕ) (n : ℕ) → LeadsTo Q.goto read n → (read ≡ [] → ⊥) → n ≡ 0 → ⊥
not_first Q p read n leads some e = some (p.states.begins read (subst (λ (x : ℕ). LeadsTo Q.goto read x) e leads))

-- a new head is one still
pub new_stays : LayingLaws → (Q : Parsing) (a b : GraphView) → Grows a b → (look h : ℕ) (head : Head) → IsNewHead Q a look h head → IsNewHead Q b look h head
new_stays laws Q a b g look h head n = (n.0, ⊎_elim (λ e. inl e) (λ p. inr (passed_stays laws Q a b g h p)) n.1)

-- how far it has gone, from the heads of the first graph on
pub record Climbs (Q : Parsing) (old now : GraphView) (base top : ℕ) (read : List ℕ) (rest : List Tree) (state end : ℕ) (all : List Tree) : Type 0 where
  pub place : ℕ
  pub sound : IsSoundFor Q now
  pub grows : Grows old now
  pub at : IsAt Q now.heads top read place
  pub late : Q.place ≤ place
  pub fit : FitExtras Q read place state rest
  pub ends : place + all_spans rest ≡ end
  pub based : (top ≡ base) ⊎ HasPassed Q now base
  pub only : (h : ℕ) (head : Head) → slice_get now.heads h ≡ Some head → (slice_get old.heads h ≡ Some head) ⊎ ((head.state ≡ 0 → ⊥) × ((h ≡ top) ⊎ HasPassed Q now h))
  pub within : (x : ℕ × Tree) → Contains (placed place rest) x → Contains (placed (place_at old.heads base) all) x
  pub trees : TreesFrom old now (placed (place_at old.heads base) all)

trees_none : (g : GraphView) (ts : List (ℕ × Tree)) → TreesFrom g g ts
trees_none g ts l there = inr (l, there, refl, refl, refl)

-- a link begins where it began
pub places_stay : (Q : Parsing) (b c : GraphView) → IsSoundFor Q b → Grows b c → (o : Link) → Contains b.links o → place_at c.heads o.below ≡ place_at b.heads o.below
places_stay Q b c sound g o there =
    let k = sound.graph.linked (bare_link o) (bare_member b.links o there) in
    place_is_at c.heads o.below k.below.head (g.stay o.below k.below.head k.below.is) ∙ sym (place_is_at b.heads o.below k.below.head k.below.is)

abbrev one_at : ℕ → Tree → List (ℕ × Tree)
one_at place tree = (place, tree) ∷ []

-- the tree that was laid on a head, at the place of the head
pub one_tree : (b c : GraphView) (below place : ℕ) (tree : Tree) → place_at c.heads below ≡ place → ((l : Link) → Contains c.links l → ((l.below ≡ below) × (l.tree ≡ tree)) ⊎ WasThere b l) → TreesFrom b c ((place, tree) ∷ [])
one_tree b c below place tree at f l there = ⊎_elim (λ k. inl (here k.0 k.1)) (λ w. inr w) (f l there)
  where
    here : l.below ≡ below → l.tree ≡ tree → Contains (one_at place tree) (place_at c.heads l.below, l.tree)
    here low same =
        subst (λ (x : Tree). Contains (one_at place tree) (place_at c.heads l.below, x)) (sym same)
        (subst (λ (n : ℕ). Contains (one_at place tree) (n, tree)) (sym (ap (place_at c.heads) low ∙ at)) (first_contained {X = ℕ × Tree} (place, tree) []))

-- one step after others
trees_on : (a b c : GraphView) (ts us all : List (ℕ × Tree)) → ((o : Link) → Contains b.links o → place_at c.heads o.below ≡ place_at b.heads o.below)
    → ((x : ℕ × Tree) → Contains ts x → Contains all x) → ((x : ℕ × Tree) → Contains us x → Contains all x) → TreesFrom a b ts → TreesFrom b c us → TreesFrom a c all
trees_on a b c ts us all stay first second f g l there = ⊎_elim (λ h. inl (second (place_at c.heads l.below, l.tree) h)) (λ w. by w.0 w.1 w.2 w.3 w.4 (f w.0 w.1)) (g l there)
  where
    by : (o : Link) → Contains b.links o → o.above ≡ l.above → o.below ≡ l.below → l.tree ≡ o.tree → Contains ts (place_at b.heads o.below, o.tree) ⊎ WasThere a o → Contains all (place_at c.heads l.below, l.tree) ⊎ WasThere a l
    by o is high low e (inl h) = inl
        (subst (λ (x : Tree). Contains all (place_at c.heads l.below, x)) (sym e)
        (subst (λ (n : ℕ). Contains all (n, o.tree)) (sym (stay o is) ∙ ap (place_at c.heads) low) (first (place_at b.heads o.below, o.tree) h)))
    by o is high low e (inr w) = inr (w.0, w.1, w.2 ∙ high, w.3 ∙ low, e ∙ w.4)

module _ (laws : LayingLaws) (Q : Parsing) where
  pub climb_first : (old : GraphView) (base : ℕ) (xs : List Tree) (state end : ℕ) → (can : CanLayExtras Q old base xs state) → end ≡ place_at old.heads base + all_spans xs → Climbs Q old old base base can.read xs state end xs
  climb_first old base xs state end can is = record {
    place = can.from;
    sound = can.sound;
    grows = grows_none laws old;
    at = can.at;
    late = can.late;
    fit = can.fit;
    ends = let p = place_is_at old.heads base can.at.head can.at.is ∙ can.at.place_is in omega (arith, p, is);
    based = inl refl;
    only = λ h head is. inl is;
    within = λ x there. subst (λ (n : ℕ). Contains (placed n xs) x) (sym (place_is_at old.heads base can.at.head can.at.is ∙ can.at.place_is)) there;
    trees = trees_none old (placed (place_at old.heads base) xs);
  }

  module _ (old now : GraphView) (base top : ℕ) (read : List ℕ) (x : Tree) (xs : List Tree) (state end : ℕ) (every : List Tree) (some_read : read ≡ [] → ⊥) (c : Climbs Q old now base top read (x ∷ xs) state end every) where
    fits : FitsAfter Q read c.place x 1 state
    fits = c.fit.0

    bare_extra : is_extra_node (bare x) ≡ true
    bare_extra = (laws.keeps x).extra ∙ c.fit.1

    read_is : fits.now ≡ read
    read_is = laws.passes_same Q c.sound.parsed.fit c.sound.parsed.states c.sound.parsed.grounded read fits.now c.place (c.place + span_of x) (bare x) fits.lays bare_extra

    passes : PassesTree Q read c.place (bare x) (c.place + span_of x)
    passes = laws.passes_tree Q c.sound.parsed.fit c.sound.parsed.states c.sound.parsed.grounded read fits.now c.place (c.place + span_of x) (bare x) (let l = c.late in omega (arith, l)) fits.lays bare_extra

    leads : LeadsTo Q.goto read state
    leads = subst (λ (r : List ℕ). LeadsTo Q.goto r state) read_is fits.leads

    pub climb_can : CanLayOn Q now top x 1 state
    climb_can = record { sound = c.sound; read = read; from = c.place; at = c.at; fits = fits }

    module _ (new : GraphView) (above : ℕ) (laid : IsLaid Q now new top c.place x 1 state above) where
      high : IsAt Q new.heads above read (c.place + span_of x)
      high = record {
        head = head_at state (c.place + span_of x);
        is = laid.at;
        state = leads;
        place_is = refl;
      }

      low : IsAt Q new.heads top read c.place
      low = at_stays Q now.heads new.heads laid.grows.stay top read c.place c.at

      passed_top : HasPassed Q new top
      passed_top = record {
        read = read;
        from = c.place;
        late = c.late;
        at = low;
        symbol = passes.symbol;
        pad = passes.pad;
        size = passes.size;
        passes = passes.passes;
        link = record {
          link = laid.has.link;
          there = laid.has.there;
          below = laid.has.below_is;
          above = subst (λ (h : ℕ). IsAt Q new.heads h read (c.place + (passes.pad + passes.size))) (sym laid.has.above_is) (subst (λ (n : ℕ). IsAt Q new.heads above read n) passes.ends high);
          stands = record {
            tree = subst (λ (u : Tree). Replaces laid.has.link.tree u) passes.tree_is laid.has.replaces;
            depth = let d = ap tree_depth passes.tree_is in let k = (laws.keeps x).depth in omega (arith, d, k, fits.shallow, laid.has.no_less);
          };
        };
      }

      above_state : (h : ℕ) (head : Head) → slice_get new.heads h ≡ Some head → h ≡ above → head.state ≡ 0 → ⊥
      above_state h head is e zero_state =
          let f : Some head ≡ Some (head_at state (c.place + span_of x)) = sym is ∙ ap (λ (n : ℕ). slice_get new.heads n) e ∙ laid.at in
          let g : head ≡ head_at state (c.place + span_of x) = cc in
          not_first Q c.sound.parsed read state leads some_read (sym (ap (λ (y : Head). y.state) g) ∙ zero_state)

      abbrev whole : List (ℕ × Tree)
      whole = placed (place_at old.heads base) every

      abbrev others : List (ℕ × Tree)
      others = placed (c.place + span_of x) xs

      abbrev one : ℕ × Tree
      one = (c.place, x)

      own_here : (y : ℕ × Tree) → Contains (one ∷ []) y → Contains whole y
      own_here y h = c.within y (subst (λ (z : ℕ × Tree). Contains (one ∷ others) z) (only_one one y h) (first_contained one others))

      pub climb_more : Climbs Q old new base above read xs state end every
      climb_more = record {
        place = c.place + span_of x;
        sound = laid.sound;
        grows = grows_on laws old now new c.grows laid.grows;
        at = high;
        late = let l = c.late in omega (arith, l);
        fit = c.fit.2;
        ends = let e = c.ends in omega (arith, e);
        based = inr (⊎_elim (λ e. subst (λ (h : ℕ). HasPassed Q new h) e passed_top) (λ p. passed_stays laws Q now new laid.grows base p) c.based);
        only = only_by;
        within = λ y there. c.within y (Contains-append_right (one ∷ []) others y there);
        trees = trees_on old now new whole (one ∷ []) whole (places_stay Q now new c.sound laid.grows) (λ y h. h) own_here c.trees (one_tree now new top c.place x (place_is_at new.heads top low.head low.is ∙ low.place_is) laid.trees);
      }
        where
          still : (h : ℕ) → (h ≡ top) ⊎ HasPassed Q now h → HasPassed Q new h
          still h b = ⊎_elim (λ e. subst (λ (n : ℕ). HasPassed Q new n) (sym e) passed_top) (λ p. passed_stays laws Q now new laid.grows h p) b

          only_by : (h : ℕ) (head : Head) → slice_get new.heads h ≡ Some head → (slice_get old.heads h ≡ Some head) ⊎ ((head.state ≡ 0 → ⊥) × ((h ≡ above) ⊎ HasPassed Q new h))
          only_by h head is = ⊎_elim
              (λ o. ⊎_elim (λ a. inl a) (λ b. inr (b.0, inr (still h b.1))) (c.only h head o))
              (λ e. inr (above_state h head is e, inl e)) (laid.only h head is)

  -- the same of the calls of a loop
  module _ (old now : GraphView) (base top : ℕ) (read : List ℕ) (x u : Tree) (all xs : List Tree) (state end : ℕ) (every : List Tree) (some_read : read ≡ [] → ⊥) (all_is : all ≡ x ∷ xs) (u_is : u ≡ x) (c : Climbs Q old now base top read all state end every) where
    one_more_here : Climbs Q old now base top read (x ∷ xs) state end every
    one_more_here = subst (λ (l : List Tree). Climbs Q old now base top read l state end every) all_is c

    pub climb_call : CanLayOn Q now top u 1 state
    climb_call = subst (λ (y : Tree). CanLayOn Q now top y 1 state) (sym u_is) (climb_can old now base top read x xs state end every some_read one_more_here)

    pub climb_on : (new : GraphView) (above : ℕ) → IsLaid Q now new top (place_at now.heads top) u 1 state above → Climbs Q old new base above read xs state end every
    climb_on new above laid =
        let place : place_at now.heads top ≡ one_more_here.place = place_is_at now.heads top one_more_here.at.head one_more_here.at.is ∙ one_more_here.at.place_is in
        climb_more old now base top read x xs state end every some_read one_more_here new above
        (subst (λ (n : ℕ). IsLaid Q now new top n x 1 state above) place (subst (λ (y : Tree). IsLaid Q now new top (place_at now.heads top) y 1 state above) u_is laid))

  pub climb_last : (old now : GraphView) (base top : ℕ) (read : List ℕ) (rest : List Tree) (state end : ℕ) (every : List Tree) → rest ≡ [] → (c : Climbs Q old now base top read rest state end every) → AreExtrasLaid Q old now base end every
  climb_last old now base top read rest state end every none c = record {
    sound = c.sound;
    grows = c.grows;
    based = ⊎_elim (λ e. inl (ap (place_at now.heads) (sym e) ∙ top_place)) (λ p. inr p) c.based;
    only = λ h head is. ⊎_elim (λ o. inl o) (λ b. inr (b.0, ⊎_elim (λ e. inl (head_place h head is e)) (λ p. inr p) b.1)) (c.only h head is);
    trees = c.trees;
  }
    where
      place_end : c.place ≡ end
      place_end = let e = c.ends in let z = ap all_spans none in omega (arith, e, z)

      top_place : place_at now.heads top ≡ end
      top_place = place_is_at now.heads top c.at.head c.at.is ∙ c.at.place_is ∙ place_end

      head_place : (h : ℕ) (head : Head) → slice_get now.heads h ≡ Some head → h ≡ top → head.place ≡ end
      head_place h head is e = sym (place_is_at now.heads h head is) ∙ ap (place_at now.heads) e ∙ top_place

-- ---- a node and its extras

module _ (laws : LayingLaws) (Q : Parsing) (old mid : GraphView) (m : Made) (can : CanLayMade Q old m) (base : ℕ) (laid : IsLaid Q old mid m.below can.from m.piece.node m.piece.depth m.piece.state base) where
  pub made_extras : CanLayExtras Q mid base m.extras m.piece.state
  made_extras = record {
    sound = laid.sound;
    read = can.fits.now;
    from = can.from + span_of m.piece.node;
    at = record { head = head_at m.piece.state (can.from + span_of m.piece.node); is = laid.at; state = can.fits.leads; place_is = refl };
    late = can.late;
    leads = can.fits.leads;
    some = can.some;
    fit = can.extras;
  }

  from_is : place_at old.heads m.below ≡ can.from
  from_is = place_is_at old.heads m.below can.at.head can.at.is ∙ can.at.place_is

  base_place : place_at mid.heads base ≡ can.from + span_of m.piece.node
  base_place = place_is_at mid.heads base (head_at m.piece.state (can.from + span_of m.piece.node)) laid.at

  module _ (new : GraphView) (over : AreExtrasLaid Q mid new base (place_at mid.heads base + all_spans m.extras) m.extras) where
    end_is : place_at mid.heads base + all_spans m.extras ≡ end_of old m
    end_is = omega (arith, base_place, from_is)

    over_at : slice_get new.heads base ≡ Some (head_at m.piece.state (can.from + span_of m.piece.node))
    over_at = over.grows.stay base (head_at m.piece.state (can.from + span_of m.piece.node)) laid.at

    below_place : place_at new.heads m.below ≡ can.from
    below_place =
        let h = over.grows.stay m.below can.at.head (laid.grows.stay m.below can.at.head can.at.is) in
        place_is_at new.heads m.below can.at.head h ∙ can.at.place_is

    base_new : (head : Head) → slice_get new.heads base ≡ Some head → IsNewHead Q new (end_of old m) base head
    base_new head is = (
      λ e.
          let f : Some head ≡ Some (head_at m.piece.state (can.from + span_of m.piece.node)) = sym is ∙ over_at in
          let g : head ≡ head_at m.piece.state (can.from + span_of m.piece.node) = cc in
          not_first Q can.sound.parsed can.fits.now m.piece.state can.fits.leads can.some (sym (ap (λ (y : Head). y.state) g) ∙ e),
      ⊎_elim (λ e. inl (sym (place_is_at new.heads base head is) ∙ e ∙ end_is)) (λ p. inr p) over.based,
    )

    only_after : (h : ℕ) (head : Head) → slice_get new.heads h ≡ Some head → (slice_get old.heads h ≡ Some head) ⊎ IsNewHead Q new (end_of old m) h head
    only_after h head is = ⊎_elim
        (λ o. ⊎_elim (λ a. inl a) (λ e. inr (subst (λ (n : ℕ). IsNewHead Q new (end_of old m) n head) (sym e) (base_new head (ap (λ (n : ℕ). slice_get new.heads n) (sym e) ∙ is)))) (laid.only h head o))
        (λ b. inr (b.0, ⊎_elim (λ e. inl (e ∙ end_is)) (λ p. inr p) b.1)) (over.only h head is)

    low_place : place_at mid.heads m.below ≡ can.from
    low_place = place_is_at mid.heads m.below can.at.head (laid.grows.stay m.below can.at.head can.at.is) ∙ can.at.place_is

    abbrev node_at : ℕ × Tree
    node_at = (can.from, m.piece.node)

    abbrev extras_at : List (ℕ × Tree)
    extras_at = placed (can.from + span_of m.piece.node) m.extras

    pub made_laid : IsMadeLaid Q old new (end_of old m) m
    made_laid = record {
      sound = over.sound;
      grows = grows_on laws old mid new laid.grows over.grows;
      has = record {
        above = base;
        at = subst (λ (n : ℕ). slice_get new.heads base ≡ Some (head_at m.piece.state (n + span_of m.piece.node))) (sym below_place) over_at;
        has = tree_stays laws (bare_links mid.links) (bare_links new.links) over.grows.links m.below (bare m.piece.node) m.piece.depth base laid.has;
      };
      only = only_after;
      trees = trees_on old mid new (node_at ∷ []) (placed (place_at mid.heads base) m.extras) (trees_of old m) (places_stay Q mid new laid.sound over.grows) first_in rest_in (one_tree old mid m.below can.from m.piece.node low_place laid.trees) over.trees;
    }
      where
        all_in : (x : ℕ × Tree) → Contains (node_at ∷ extras_at) x → Contains (trees_of old m) x
        all_in x h = subst (λ (n : ℕ). Contains (placed n (m.piece.node ∷ m.extras)) x) (sym from_is) h

        first_in : (x : ℕ × Tree) → Contains (node_at ∷ []) x → Contains (trees_of old m) x
        first_in x h = all_in x (Contains-append_left (node_at ∷ []) extras_at x h)

        rest_in : (x : ℕ × Tree) → Contains (placed (place_at mid.heads base) m.extras) x → Contains (trees_of old m) x
        rest_in x h = all_in x (Contains-append_right (node_at ∷ []) extras_at x (subst (λ (n : ℕ). Contains (placed n m.extras) x) base_place h))

-- ---- one after another

pub can_made_stays : (Q : Parsing) (a b : GraphView) → Grows a b → IsSoundFor Q b → (m : Made) → CanLayMade Q a m → CanLayMade Q b m
can_made_stays Q a b g sound m can = record {
  sound = sound;
  read = can.read;
  from = can.from;
  at = at_stays Q a.heads b.heads g.stay m.below can.read can.from can.at;
  fits = can.fits;
  late = can.late;
  some = can.some;
  extras = can.extras;
}

pub end_stays : (Q : Parsing) (a b : GraphView) → Grows a b → (m : Made) → CanLayMade Q a m → place_at b.heads m.below ≡ place_at a.heads m.below
end_stays Q a b g m can = place_is_at b.heads m.below can.at.head (g.stay m.below can.at.head can.at.is) ∙ sym (place_is_at a.heads m.below can.at.head can.at.is)

pub node_stays : LayingLaws → (a b : GraphView) → Grows a b → (m : Made) → place_at b.heads m.below ≡ place_at a.heads m.below → HasNode a m → HasNode b m
node_stays laws a b g m same n = record {
  above = n.above;
  at = subst (λ (p : ℕ). slice_get b.heads n.above ≡ Some (head_at m.piece.state (p + span_of m.piece.node))) (sym same) (g.stay n.above (head_at m.piece.state (place_at a.heads m.below + span_of m.piece.node)) n.at);
  has = tree_stays laws (bare_links a.links) (bare_links b.links) g.links m.below (bare m.piece.node) m.piece.depth n.above n.has;
}

module _ (laws : LayingLaws) (Q : Parsing) (old : GraphView) (look : ℕ) where
  pub all_first : IsSoundFor Q old → AreAllLaid Q old old look []
  all_first sound = record {
    sound = sound;
    grows = grows_none laws old;
    each = λ m there. absurd (none_contained m there);
    only = λ h head is. inl is;
    trees = trees_none old [];
  }

  module _ (now new : GraphView) (ms : List Made) (m : Made) (each : (x : Made) → Contains (ms ++ m ∷ []) x → CanLayMade Q old x) (ends : end_of now m ≡ look) (a : AreAllLaid Q old now look ms) (laid : IsMadeLaid Q now new (end_of now m) m) where
    kept_node : (x : Made) → Contains ms x → HasNode new x
    kept_node x there =
        let can = each x (Contains-append_left ms (m ∷ []) x there) in
        node_stays laws now new laid.grows x (end_stays Q now new laid.grows x (can_made_stays Q old now a.grows a.sound x can)) (a.each x there)

    each_by : (x : Made) → Contains ms x ⊎ (m ≡ x) → HasNode new x
    each_by x (inl there) = kept_node x there
    each_by x (inr e) = subst (λ (y : Made). HasNode new y) e laid.has

    pub all_more : AreAllLaid Q old new look (ms ++ m ∷ [])
    all_more = record {
      sound = laid.sound;
      grows = grows_on laws old now new a.grows laid.grows;
      each = λ x there. each_by x (Contains-push_cases ms m x there);
      only = λ h head is. ⊎_elim
          (λ o. ⊎_elim (λ p. inl p) (λ n. inr (new_stays laws Q now new laid.grows look h head n)) (a.only h head o))
          (λ n. inr (subst (λ (p : ℕ). IsNewHead Q new p h head) ends n)) (laid.only h head is);
      trees = trees_on old now new (flat_map (trees_of old) ms) (trees_of now m) (flat_map (trees_of old) (ms ++ m ∷ [])) (places_stay Q now new a.sound laid.grows) before here a.trees laid.trees;
    }
      where
        whole : flat_map (trees_of old) (ms ++ m ∷ []) ≡ flat_map (trees_of old) ms ++ (trees_of old m ++ [])
        whole = flat_map-append (trees_of old) ms (m ∷ [])

        before : (x : ℕ × Tree) → Contains (flat_map (trees_of old) ms) x → Contains (flat_map (trees_of old) (ms ++ m ∷ [])) x
        before x h = subst (λ (l : List (ℕ × Tree)). Contains l x) (sym whole) (Contains-append_left (flat_map (trees_of old) ms) (trees_of old m ++ []) x h)

        same_place : place_at now.heads m.below ≡ place_at old.heads m.below
        same_place = end_stays Q old now a.grows m (each m (Contains-push ms m))

        here : (x : ℕ × Tree) → Contains (trees_of now m) x → Contains (flat_map (trees_of old) (ms ++ m ∷ [])) x
        here x h = subst (λ (l : List (ℕ × Tree)). Contains l x) (sym whole)
            (Contains-append_right (flat_map (trees_of old) ms) (trees_of old m ++ []) x
            (Contains-append_left (trees_of old m) [] x (subst (λ (n : ℕ). Contains (placed n (m.piece.node ∷ m.extras)) x) same_place h)))

-- ---- the same of the calls

module _ (laws : LayingLaws) (Q : Parsing) (old : GraphView) (m : Made) (can : CanLayMade Q old m) (u : Tree) (u_is : u ≡ m.piece.node) where
  pub call_lay : CanLayOn Q old m.below u m.piece.depth m.piece.state
  call_lay = subst (λ (x : Tree). CanLayOn Q old m.below x m.piece.depth m.piece.state) (sym u_is) (record {
    sound = can.sound;
    read = can.read;
    from = can.from;
    at = can.at;
    fits = can.fits;
  })

  module _ (mid : GraphView) (base : ℕ) (laid : (P : Parsing) → CanLayOn P old m.below u m.piece.depth m.piece.state → IsLaid P old mid m.below (place_at old.heads m.below) u m.piece.depth m.piece.state base) (xs : List Tree) (xs_are : xs ≡ m.extras) where
    own_laid : IsLaid Q old mid m.below can.from m.piece.node m.piece.depth m.piece.state base
    own_laid =
        subst (λ (n : ℕ). IsLaid Q old mid m.below n m.piece.node m.piece.depth m.piece.state base) (place_is_at old.heads m.below can.at.head can.at.is ∙ can.at.place_is)
        (subst (λ (x : Tree). IsLaid Q old mid m.below (place_at old.heads m.below) x m.piece.depth m.piece.state base) u_is (laid Q call_lay))

    pub call_extras : CanLayExtras Q mid base xs m.piece.state
    call_extras = subst (λ (l : List Tree). CanLayExtras Q mid base l m.piece.state) (sym xs_are) (made_extras laws Q old mid m can base own_laid)

    pub call_done : (new : GraphView) → ((P : Parsing) → CanLayExtras P mid base xs m.piece.state → AreExtrasLaid P mid new base (place_at mid.heads base + all_spans xs) xs) → IsMadeLaid Q old new (end_of old m) m
    call_done new over =
        made_laid laws Q old mid m can base own_laid new
        (subst (λ (l : List Tree). AreExtrasLaid Q mid new base (place_at mid.heads base + all_spans l) l) xs_are (over Q call_extras))

module _ (laws : LayingLaws) (Q : Parsing) (old : GraphView) (look : ℕ) (mades : List Made) (can : CanLayAll Q old look mades) where
  pub all_begin : AreAllLaid Q old old look (take 0 mades)
  all_begin = all_first laws Q old look can.sound

  pub all_end : (now : GraphView) (i : ℕ) → length mades ≤ i → AreAllLaid Q old now look (take i mades) → AreAllLaid Q old now look mades
  all_end now i le a = subst (λ (l : List Made). AreAllLaid Q old now look l) (take_all i mades le) a

  module _ (now : GraphView) (i : ℕ) (m : Made) (low : i < length mades) (is : m ≡ get_or mades i m) (a : AreAllLaid Q old now look (take i mades)) where
    item_there : Contains mades m
    item_there = subst (λ (x : Made). Contains mades x) (sym is) (Contains-get_or mades i m low)

    pub call_made : CanLayMade Q now m
    call_made = can_made_stays Q old now a.grows a.sound m (can.each m item_there)

    item_ends : end_of now m ≡ look
    item_ends = ap (λ (n : ℕ). n + (span_of m.piece.node + all_spans m.extras)) (end_stays Q old now a.grows m (can.each m item_there)) ∙ can.ends m item_there

    one_taken : take i mades ++ m ∷ [] ≡ take (i + 1) mades
    one_taken = ap (λ (x : Made). take i mades ++ x ∷ []) is ∙ sym (take_more mades i m low)

    each_taken : (x : Made) → Contains (take i mades ++ m ∷ []) x → CanLayMade Q old x
    each_taken x there = can.each x (take_contained (i + 1) mades x (subst (λ (l : List Made). Contains l x) one_taken there))

    pub all_on : (new : GraphView) → IsMadeLaid Q now new (end_of now m) m → AreAllLaid Q old new look (take (i + 1) mades)
    all_on new laid = subst (λ (l : List Made). AreAllLaid Q old new look l) one_taken (all_more laws Q old look now new (take i mades) m each_taken item_ends a laid)
