-- A graph that is made of a stack.
use Rattle.std.proofs.Common.{◌+◌, ◌≡◌, ◌∙◌, sym, ap, refl, subst, ℕ, suc, ◌≤◌, List, [], ◌∷◌, ◌++◌, length, slice_get, Some, arith}
use Rattle.std.specs.List.{Contains}
use Rattle.std.proofs.lemmas.Option.{slice_get_within}
use Rattle.ts_base.specs.Bytes.{Bytes}
use Rattle.spec_trees.specs.declared.tree.Tree.{Tree}
use Rattle.spec_packing.specs.Packing.{PackedTree}
use Rattle.spec_trees.specs.Trees.{span_of, all_spans}
use Rattle.spec_trees.specs.Made.{most_span}
use Rattle.spec_forced.specs.Sound.{States, StandOnStack}
use Rattle.spec_forced.proofs.SoundLemmas.{stack_lower}
use Rattle.spec_graph.specs.declared.graph.Head.{Head}
use Rattle.spec_graph.specs.declared.graph.Link.{Link}
use Rattle.spec_graph.specs.States.{at_first}
use Rattle.spec_graph.specs.Laying.{Parsing}
use Rattle.spec_graph.specs.Grounded.{IsGrounded}
use Rattle.spec_graph.specs.Links.{HasStood}
use Rattle.ts_table.specs.declared.view.ParseTable.{ParseTable}
use Rattle.ts_table.specs.Tables.{IsTable}
use Rattle.ts_table.specs.Ranks.{unit_rank}
use Rattle.ts_gss.specs.declared.layer.Layer.{Layer}
use Rattle.ts_gss.specs.Stacks.{stack_at, trees_on, state_on}
use Rattle.ts_graph.specs.declared.view.GraphView.{GraphView}
use Rattle.ts_graph.specs.Down.{OpensAt}
use Rattle.ts_graph.specs.Under.{head_over, heads_on, links_on, graph_over}
use Rattle.ts_graph.proofs.HeadLemmas.{stay_more, opens_last}
use Rattle.ts_graph.proofs.UnderLemmas.{heads_many, head_last}
use Rattle.ts_reductions.specs.SoundLinks.{bare_links, IsSoundFor}
use Rattle.ts_reductions.specs.Laying.{head_at}
use Rattle.ts_reductions.specs.LayingLaws.{LayingLaws}
use Rattle.ts_reductions.proofs.LayLemmas.{Opened, pushed}
use Rattle.ts_steps.specs.declared.head.StackHead.{StackHead}
use Rattle.ts_steps.specs.Good.{EachTree}
use Rattle.ts_steps.specs.LiveHeads.{packed_layers}
use Rattle.ts_steps.specs.Heads.{AreStatesOf, IsOwnWithin, StandOnHead}
use Rattle.ts_steps.proofs.NodeLemmas.{each_right}
use Rattle.ts_crossing.specs.Laws.{EnterLaws}
use Rattle.ts_reductions.specs.Sound.{Base, base_at, parsing_from}
use Rattle.ts_reductions.specs.Keeping.{StandOnGraph}
use Rattle.ts_crossing.specs.Entering.{CanEnter, IsEntered, IsUnder, Stands, LaidTo}
use Rattle.ts_crossing.proofs.MemberLemmas.{none_contained, member_bare, place_is_at}
use Rattle.ts_crossing.proofs.TableLemmas.{table_states}
use Rattle.ts_crossing.proofs.StandLemmas.{stands_under, begun, enter_stands, grounded, place_is}
use Rattle.ts_crossing.proofs.LayLemmas.{layer_can, layer_laid}

-- ---- the empty stack

module _ (laws : EnterLaws) (t : ParseTable) (text : Bytes) (base : Base) (ground : IsGrounded (parsing_from t text base)) (table : IsTable t) (short : length text ≤ most_span) (g : GraphView) (bottom : ℕ)
    (heads_are : g.heads ≡ head_at 0 0 ∷ []) (links_are : g.links ≡ []) (at : slice_get g.heads bottom ≡ Some (head_at 0 0)) where
  abbrev P : Parsing
  P = parsing_from t text base

  no_link : (l : Link) → Contains g.links l → ⊥
  no_link l there = none_contained l (subst (λ (ls : List Link). Contains ls l) links_are there)

  no_bare : (l : Link) → Contains (bare_links g.links) l → ⊥
  no_bare l there = let m = member_bare g.links l there in no_link m.0 m.1

  first_is : slice_get g.heads 0 ≡ Some (head_at 0 0)
  first_is = ap (λ (hs : List Head). slice_get hs 0) heads_are

  only_first : (h : ℕ) (head : Head) → slice_get g.heads h ≡ Some head → h ≡ 0
  only_first h head is =
      let w = slice_get_within g.heads h head is in
      let n : length g.heads ≡ 1 = ap (λ (hs : List Head). length hs) heads_are in
      omega (arith, w, n)

  at_zero : (h : ℕ) (head : Head) → slice_get g.heads h ≡ Some head → head.place ≡ 0
  at_zero h head is =
      let both : Some head ≡ Some (head_at 0 0) = sym is ∙ ap (λ (n : ℕ). slice_get g.heads n) (only_first h head is) ∙ first_is in
      let one : head ≡ head_at 0 0 = cc in
      ap (λ (x : Head). x.place) one

  never_stood : (over below : List PackedTree) (v : PackedTree) → [] ≡ over ++ v ∷ below → ⊥
  never_stood [] below v e = cc
  never_stood (x ∷ over) below v e = let h : [] ≡ x ∷ (over ++ v ∷ below) = e in cc

  sound_first : IsSoundFor P g
  sound_first = record {
    parsed = record { fit = table.fit; states = table_states laws t table; grounded = ground; short = short };
    graph = record {
      start = record { head = head_at 0 0; is = first_is; state = at_first; place_is = refl };
      linked = λ l there. absurd (no_bare l there);
      down = λ h head is. ([], only_first h head is);
    };
    held = λ l there. absurd (no_link l there);
    within = λ h head is. let z = at_zero h head is in omega (arith, z);
  }

  pub first_laid : LaidTo t text base [] g bottom
  first_laid = record {
    sound = sound_first;
    good = λ l there. absurd (no_link l there);
    at = at;
    stood = record { each = λ b read place v over below a split place_below share. absurd (never_stood over below v split) };
    own = λ own l there. absurd (no_link l there);
    stand = λ states named st. record {
      inner = λ l there. absurd (no_link l there);
      stands = λ l head there. absurd (no_link l there);
      none = λ l there. absurd (no_link l there);
    };
    low = λ k head is. let z = at_zero k head is in omega (arith, z);
    alone = λ k head is e. only_first k head is ∙ sym (only_first bottom (head_at 0 0) at);
  }

-- ---- one layer after another

module _ (laws : EnterLaws) (laying : LayingLaws) (t : ParseTable) (text : Bytes) (base : Base) (l : Layer) (lower : List Layer) (stands : Stands t text base (l ∷ lower))
    (laid : LaidTo t text base lower (graph_over lower) (length lower)) where
  abbrev n : ℕ
  n = length lower

  abbrev from : ℕ
  from = all_spans (trees_on lower)

  abbrev head : Head
  head = head_over (l ∷ lower)

  -- the graph with the head above the layer, and without its link
  abbrev mid : GraphView
  mid = record { heads = heads_on lower ++ head ∷ []; links = links_on lower; base = n }

  head_is : head ≡ head_at l.state (from + span_of l.tree)
  head_is = ap (λ (p : ℕ). head_at l.state p) (let e : all_spans (trees_on (l ∷ lower)) ≡ from + span_of l.tree = omega arith in e)

  above_is : suc n ≡ length (heads_on lower)
  above_is = sym (heads_many lower)

  opened : Opened (graph_over lower) mid n (suc n) l.state from (from + span_of l.tree) l.tree
  opened = record {
    place_is = sym (place_is_at (heads_on lower) n (head_over lower) (head_last lower));
    to_is = refl;
    stay = stay_more (heads_on lower) (heads_on lower ++ head ∷ []) head refl;
    same = refl;
    opens = subst (λ (h : Head). OpensAt (heads_on lower) (heads_on lower ++ head ∷ []) h (suc n)) head_is
        (opens_last (heads_on lower) (heads_on lower ++ head ∷ []) head (suc n) refl above_is);
  }

  pub layer_over : LaidTo t text base (l ∷ lower) (graph_over (l ∷ lower)) (suc n)
  layer_over =
      layer_laid laws t text base l lower stands (graph_over lower) n laid (graph_over (l ∷ lower)) (suc n)
      (pushed laying (parsing_from t text base) (graph_over lower) mid n (suc n) l.tree l.depth l.state from (from + span_of l.tree) opened
      (layer_can laws t text base l lower stands (graph_over lower) n laid) (graph_over (l ∷ lower)) refl refl)

module _ (laws : EnterLaws) (laying : LayingLaws) (t : ParseTable) (text : Bytes) (base : Base) (ground : IsGrounded (parsing_from t text base)) (table : IsTable t) (short : length text ≤ most_span) where
  pub all_over : (layers : List Layer) → Stands t text base layers → LaidTo t text base layers (graph_over layers) (length layers)
  all_over [] stands = first_laid laws t text base ground table short (graph_over []) 0 refl refl refl
  all_over (l ∷ layers) stands =
      layer_over laws laying t text base l layers stands (all_over layers (stands_under t text base (l ∷ layers) (omega arith) stands))

-- ---- the whole stack

module _ (laws : EnterLaws) (t : ParseTable) (text : Bytes) (stacks : List (List Layer)) (h : StackHead) (can : CanEnter t text stacks h) (under : StackHead) (is : IsUnder stacks h under) where
  abbrev pub entry : Base
  entry = base_at (packed_layers (stack_at stacks under.top)) under.place

  pub entry_ground : IsGrounded (parsing_from t text entry)
  entry_ground = grounded laws t text stacks h can under is

  module _ (g : GraphView) (top : ℕ) (top_is : g.base ≡ top) (laid_on : LaidTo t text entry (stack_at stacks under.top) g top) where
    abbrev low : List Layer
    low = stack_at stacks under.top

    place_eq : under.place ≡ all_spans (trees_on low)
    place_eq = place_is laws t text stacks h can under is

    stood : HasStood (parsing_from t text entry) g.heads (bare_links g.links)
    stood = subst (λ (n : ℕ). HasStood (parsing_from t text (base_at (packed_layers low) n)) g.heads (bare_links g.links)) (sym place_eq) laid_on.stood

    stand : (states : States) → AreStatesOf t states → StandOnHead t states text stacks h → StandOnGraph t.grammar states text entry g
    stand states named st =
        let s = laid_on.stand states named (stack_lower t.grammar states text is.extras (trees_on low) (subst (λ (ts : List Tree). StandOnStack t.grammar states text ts) is.lifted.trees st)) in
        record { inner = s.inner; stands = s.stands; none = λ l there past. s.none l there (omega (arith, past, place_eq)) }

    pub entered : IsEntered t text stacks h g under.place
    entered = record {
      layers = packed_layers low;
      begun = begun laws t text stacks h can under is;
      sound = record { laid = laid_on.sound; good = laid_on.good };
      stood = stood;
      whole = λ most ranked.
          laws.begins (parsing_from t text entry) can.table.fit (table_states laws t can.table) entry_ground (unit_rank t.grammar) most ranked g.heads (bare_links g.links) laid_on.sound.graph.start stood;
      own = λ own. laid_on.own (each_right (IsOwnWithin t.grammar) is.extras (trees_on low) (subst (λ (ts : List Tree). EachTree (IsOwnWithin t.grammar) ts) is.lifted.trees own));
      stand = stand;
      low = λ k head at. let w = laid_on.low k head at in omega (arith, w, place_eq);
      base_is = (state_on low, subst (λ (n : ℕ). slice_get g.heads g.base ≡ Some (head_at (state_on low) n)) (sym place_eq) (subst (λ (k : ℕ). slice_get g.heads k ≡ Some (head_at (state_on low) (all_spans (trees_on low)))) (sym top_is) laid_on.at));
      alone = λ k head at e. laid_on.alone k head at (e ∙ place_eq) ∙ sym top_is;
    }

  -- the graph over the stack
  pub entered_over : LayingLaws → IsEntered t text stacks h (graph_over (stack_at stacks under.top)) under.place
  entered_over laying =
      let low = stack_at stacks under.top in
      entered (graph_over low) (length low) refl
      (all_over laws laying t text entry entry_ground can.table can.short low (enter_stands laws t text stacks h can under is))
