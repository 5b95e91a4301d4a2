-- The root at the end of a way from a head that accepts.
use Rattle.std.proofs.Common.{◌≡◌, ◌∙◌, sym, ap, refl, subst, ℕ, zero, suc, ◌+◌, ◌-◌, ◌<◌, ◌≤◌, Bool, true, false, true≢false, IsTrue, is_some, List, [], ◌∷◌, ◌++◌, append-nil, append_assoc, length, length-append, reverse, take, slice_get, Option, Some, None, All, arith}
use Rattle.std.specs.List.{Contains}
use Rattle.std.proofs.lemmas.List.{reverse-reverse}
use Rattle.std.proofs.lemmas.Option.{slice_get_within}
use Rattle.ts_base.specs.Bytes.{Bytes}
use Rattle.spec_grammar.specs.Symbols.{start_symbol, is_repetition}
use Rattle.spec_trees.specs.declared.tree.Tree.{Tree}
use Rattle.spec_trees.specs.declared.tree.Element.{Element}
use Rattle.spec_trees.specs.Trees.{symbol_of, production_of, elements_of, is_extra_node, all_spans, bare}
use Rattle.spec_trees.specs.Made.{IsNode, accepted, filling, EndBy, most_span}
use Rattle.spec_trees.specs.Choice.{IsInForm, has_form}
use Rattle.spec_runs.specs.Configurations.{AreExtras}
use Rattle.spec_graph.specs.declared.graph.Head.{Head}
use Rattle.spec_graph.specs.declared.graph.Link.{Link}
use Rattle.spec_graph.specs.Laying.{Parsing}
use Rattle.spec_graph.specs.Links.{IsWay, way_trees, IsGraph}
use Rattle.spec_graph.proofs.SightLemmas.{Facts}
use Rattle.ts_graph.specs.declared.view.GraphView.{GraphView}
use Rattle.ts_graph.specs.declared.ways.Way.{Way}
use Rattle.ts_graph.specs.Down.{links_down, links_from, place_at, HoldsEachOnce}
use Rattle.ts_graph.specs.Ways.{AreAt}
use Rattle.ts_graph.proofs.ListLemmas.{Has}
use Rattle.ts_graph.proofs.DownLemmas.{down_is}
use Rattle.ts_graph.proofs.BetweenLemmas.{go_first, go_at}
use Rattle.ts_node.specs.Standing.{IsAcceptable}
use Rattle.ts_steps.proofs.NodeLemmas.{own_forms}
use Rattle.ts_table.specs.declared.view.ParseTable.{ParseTable}
use Rattle.ts_reductions.specs.SoundLinks.{bare_link, bare_links, IsSoundFor}
use Rattle.ts_reductions.specs.Good.{AreGoodTrees}
use Rattle.ts_reductions.specs.Sound.{parsing_from, IsSoundOver}
use Rattle.ts_reductions.proofs.SmallLemmas.{contained_at, bare_member, member_bare, all_spans-append, spans_turned, good_turned, extras_turned, filling_append, place_is_at}
use Rattle.ts_reductions.proofs.WayLemmas.{trees_append, trees_bare, way_bare, way_join, bare_filling, way_good, way_spans, way_reach}
use Rattle.ts_reductions.proofs.GatherLemmas.{at_long, at_take, cut_outer}
use Rattle.ts_reductions.proofs.CallLemmas.{way_low}
use Rattle.ts_places.proofs.SmallLemmas.{at_contained, read_at}
use Rattle.ts_places.specs.EndLaws.{EndLaws}
use Rattle.ts_places.specs.Ends.{Accepts}
use Rattle.ts_places.specs.Best.{CanTakeRoot, IsRootBy}
use Rattle.ts_places.proofs.ListLemmas.{none_fill, OneFills, one_fills, all_extra, back_again, Ended, ended, good_left, good_right, all_settled, all_in_form, few_nodes, all_few, flat_extras}
use Rattle.spec_graph.proofs.LayLemmas.{IsBase, lays_ruled}
use Rattle.spec_graph.proofs.BaseLemmas.{ground_base}
use Rattle.ts_places.proofs.WayLemmas.{accepting_way}

-- ---- down to the empty stack

-- the links of a way from one head down to another
pub record GoesDown (links : List Link) (h : ℕ) (numbers : List ℕ) (at : ℕ) : Type 0 where
  pub way : List Link
  pub there : AreAt links numbers way
  pub is : IsWay links h way at

at_append : (links : List Link) (ks js : List ℕ) (v w : List Link) → AreAt links ks v → AreAt links js w → AreAt links (ks ++ js) (v ++ w)
at_append links [] js [] w a b = b
at_append links [] js (l ∷ v) w a b = absurd a
at_append links (k ∷ ks) js [] w a b = absurd a
at_append links (k ∷ ks) js (l ∷ v) w a b = (a.0, at_append links ks js v w a.1 b)

pub down_begins : (links : List Link) (h : ℕ) (numbers : List ℕ) → numbers ≡ [] → GoesDown links h numbers h
down_begins links h numbers e = record { way = []; there = subst (λ (ns : List ℕ). AreAt links ns []) (sym e) tt; is = refl }

-- a link that was found to lead down from a head
module _ (links : List Link) (heads : List Head) (once : HoldsEachOnce heads links) (at k : ℕ) (is : links_from links at (Some k) ≡ links_down links at) where
  pub found_link : (l : Link) × (slice_get links k ≡ Some l) × (l.above ≡ at)
  found_link = go_at links at k (go_first links at (Some k) is)

  pub found_low : k < length links
  found_low = slice_get_within links k found_link.0 found_link.1

  module _ (next : ℕ) (goes : (l : Link) → slice_get links k ≡ Some l → next ≡ l.below) where
    pub next_low : next < length heads
    next_low = let r = found_link in let e = goes r.0 r.1 in let low = once.below_there k r.0 r.1 in omega (arith, e, low)

    pub next_falls : place_at heads next < place_at heads at
    next_falls =
        let r = found_link in
        let e = ap (place_at heads) (goes r.0 r.1) in
        let f = ap (place_at heads) r.2 in
        let falls = once.falls k r.0 r.1 in
        omega (arith, e, f, falls)

    pub down_more : (h : ℕ) (numbers more : List ℕ) → more ≡ numbers ++ k ∷ [] → GoesDown links h numbers at → GoesDown links h more next
    down_more h numbers more more_is d =
        let r = found_link in
        let one : IsWay links at (r.0 ∷ []) next = (contained_at links k r.0 r.1, r.2, sym (goes r.0 r.1)) in
        record {
          way = d.way ++ r.0 ∷ [];
          there = subst (λ (ns : List ℕ). AreAt links ns (d.way ++ r.0 ∷ [])) (sym more_is) (at_append links numbers (k ∷ []) d.way (r.0 ∷ []) d.there (r.1, tt));
          is = way_join links d.way (r.0 ∷ []) h at next d.is one;
        }

-- where no link leads down stands the empty stack
pub down_ends : (t : ParseTable) (text : Bytes) (g : GraphView) → IsSoundOver t text g → (at : ℕ) → at < length g.heads → links_from g.links at None ≡ links_down g.links at → at ≡ 0
down_ends t text g sound at low none =
    let r = read_at g.heads at low in
    let d = sound.1.laid.graph.down at r.0 r.1 in
    by d.0 d.1
  where
    by : (way : List Link) → IsWay (bare_links g.links) at way 0 → at ≡ 0
    by [] is = is
    by (l ∷ way) is =
        let m = member_bare g.links l is.0 in
        let k = at_contained g.links m.0 m.1 in
        absurd (subst (λ (ns : List ℕ). Has ns k.0) (sym none) (down_is g.links at k.0 m.0 k.1 (ap (λ (x : Link). x.above) m.2 ∙ is.1)))

-- ---- what is known of the root

at_place : (links : List Link) (ks : List ℕ) (way : List Link) → AreAt links ks way → (i k : ℕ) → slice_get ks i ≡ Some k → (l : Link) → slice_get way i ≡ Some l → slice_get links k ≡ Some l
at_place links [] way a i k e l f = absurd (let low = slice_get_within {A = ℕ} [] i k e in omega (arith, low))
at_place links (j ∷ ks) [] a i k e l f = absurd a
at_place links (j ∷ ks) (m ∷ way) a zero k e l f =
    let g : Some j ≡ Some k = e in
    let h : Some m ≡ Some l = f in
    let same : j ≡ k = cc in
    subst (λ (n : ℕ). slice_get links n ≡ Some l) same (a.0 ∙ h)
at_place links (j ∷ ks) (m ∷ way) a (suc i) k e l f = at_place links ks way a.1 i k e l f

last_at : (front : List Link) (l : Link) → slice_get (front ++ l ∷ []) (length front) ≡ Some l
last_at [] l = refl
last_at (m ∷ front) l = last_at front l

no_elements : (kind : Bool) (es : List Element) → kind ≡ false → has_form kind es ≡ true → length es ≡ 0
no_elements kind [] k h = refl
no_elements true (e ∷ es) k h = absurd (true≢false k)
no_elements false (e ∷ es) k h = absurd (true≢false (sym h))

module _ (laws : EndLaws) (t : ParseTable) (text : Bytes) (g : GraphView) (size h : ℕ) (way : Way) (can : CanTakeRoot t text g size h way) where
  abbrev P : Parsing
  P = parsing_from t text can.sound.0

  abbrev links : List Link
  links = bare_links g.links

  laid : IsSoundFor P g
  laid = can.sound.1.laid

  facts : Facts P
  facts = record { laws = laws.graphs; fit = laid.parsed.fit; states = laid.parsed.states }

  base : IsBase P
  base = ground_base P facts laid.parsed.grounded

  accepts_here : Accepts P g.heads h
  accepts_here =
      let a = can.accepts in
      record { read = a.read; place = a.place; at = a.at; symbol = a.symbol; pad = a.pad; size = a.size; sees = a.sees; stays = a.stays }

  graph : IsGraph P g.heads links
  graph = laid.graph

  some_links : 0 < length can.taken
  some_links = by can.taken (can.takes.filled)
    where
      by : (ls : List Link) → length (filling (way_trees ls)) ≡ 1 → 0 < length ls
      by [] e = absurd (omega (arith, e))
      by (l ∷ ls) e = omega arith

  pub two : Ended can.taken
  two = ended can.taken some_links

  number_count : length way.links ≡ length can.taken
  number_count = at_long g.links way.links can.taken can.at

  pub some_numbers : 0 < length way.links
  some_numbers = let n = number_count in let m = some_links in omega (arith, n, m)

  front_long : length can.taken ≡ length two.front + 1
  front_long = ap (λ (ls : List Link). length ls) two.is ∙ length-append two.front (two.last ∷ [])

  cut : take (length two.front) can.taken ≡ two.front
  cut = (cut_outer can.taken two.front (two.last ∷ []) two.is).0

  pub short : size ≤ most_span
  short = let a = can.size_is in let b = laid.parsed.short in omega (arith, a, b)

  module _ (n : ℕ) (is : n ≡ length way.links - 1) where
    n_is : n ≡ length two.front
    n_is = let a = number_count in let b = front_long in omega (arith, is, a, b)

    pub above_at : AreAt g.links (take n way.links) two.front
    above_at = subst (λ (ls : List Link). AreAt g.links (take n way.links) ls) (ap (λ (m : ℕ). take m can.taken) n_is ∙ cut) (at_take g.links n way.links can.taken can.at)

    pub last_low : n < length way.links
    last_low = let a = some_numbers in omega (arith, is, a)

    -- the link of the last number
    pub last_is : (k : ℕ) → slice_get way.links n ≡ Some k → slice_get g.links k ≡ Some two.last
    last_is k at = at_place g.links way.links can.taken can.at n k at two.last
        (ap (λ (m : ℕ). slice_get can.taken m) n_is ∙ ap (λ (ls : List Link). slice_get ls (length two.front)) two.is ∙ last_at two.front two.last)

    pub last_there : (k : ℕ) → slice_get way.links n ≡ Some k → k < length g.links
    last_there k at = slice_get_within g.links k two.last (last_is k at)

  pub lower_low : way.below < length g.heads
  lower_low = way_low P g laid can.taken h way.below (slice_get_within g.heads h can.accepts.at.head can.accepts.at.is) can.takes.way

  module _ (low : List Link) (down : IsWay g.links way.below low 0) where
    abbrev whole : List Link
    whole = can.taken ++ low

    whole_is : IsWay g.links h whole 0
    whole_is = way_join g.links can.taken low h way.below 0 can.takes.way down

    all_filled : filling (way_trees whole) ≡ start_symbol t.grammar ∷ []
    all_filled =
        sym (bare_filling laws.graphs.runs.keeps (way_trees whole)) ∙ ap filling (sym (trees_bare whole))
        ∙ accepting_way P facts base g.heads links graph (bare_links whole) h accepts_here (way_bare g.links whole h 0 whole_is)

    parts_filled : filling (way_trees can.taken) ++ filling (way_trees low) ≡ start_symbol t.grammar ∷ []
    parts_filled = sym (filling_append (way_trees can.taken) (way_trees low)) ∙ ap filling (sym (trees_append can.taken low)) ∙ all_filled

    none_low : length (filling (way_trees low)) ≡ 0
    none_low =
        let a = length-append (filling (way_trees can.taken)) (filling (way_trees low)) in
        let b = ap (λ (l : List ℕ). length l) parts_filled in
        let c = can.takes.filled in
        omega (arith, a, b, c)

    pub low_extras : AreExtras (way_trees low)
    low_extras = none_fill (way_trees low) none_low

    taken_filled : filling (way_trees can.taken) ≡ start_symbol t.grammar ∷ []
    taken_filled = by (filling (way_trees low)) none_low parts_filled
      where
        by : (xs : List ℕ) → length xs ≡ 0 → filling (way_trees can.taken) ++ xs ≡ start_symbol t.grammar ∷ [] → filling (way_trees can.taken) ≡ start_symbol t.grammar ∷ []
        by [] e f = sym (append-nil (filling (way_trees can.taken))) ∙ f
        by (x ∷ xs) e f = absurd (omega (arith, e))

    trees_taken : way_trees can.taken ≡ way_trees two.front ++ two.last.tree ∷ []
    trees_taken = ap way_trees two.is ∙ trees_append two.front (two.last ∷ [])

    pub fills : is_extra_node two.last.tree ≡ false
    fills = can.takes.ends (way_trees two.front) two.last.tree trees_taken

    one : OneFills (way_trees two.front) two.last.tree (start_symbol t.grammar)
    one = one_fills (way_trees two.front) two.last.tree (start_symbol t.grammar) fills (ap filling (sym trees_taken) ∙ taken_filled)

    pub front_extras : AreExtras (way_trees two.front)
    front_extras = one.extras

    -- ---- acceptance can take it

    abbrev before : List Tree
    before = reverse (way_trees low)

    abbrev after : List Tree
    after = reverse (way_trees two.front)

    trees_whole : way_trees whole ≡ reverse after ++ two.last.tree ∷ reverse before
    trees_whole =
        trees_append can.taken low ∙ ap (λ (l : List Tree). l ++ way_trees low) trees_taken
        ∙ append_assoc (way_trees two.front) (two.last.tree ∷ []) (way_trees low)
        ∙ ap (λ (l : List Tree). l ++ two.last.tree ∷ way_trees low) (sym (reverse-reverse (way_trees two.front)))
        ∙ ap (λ (l : List Tree). reverse after ++ two.last.tree ∷ l) (sym (reverse-reverse (way_trees low)))

    in_order : reverse (way_trees whole) ≡ before ++ two.last.tree ∷ after
    in_order = ap (λ (l : List Tree). reverse l) trees_whole ∙ back_again before after two.last.tree

    good : AreGoodTrees t.grammar (before ++ two.last.tree ∷ after)
    good = subst (λ (l : List Tree). AreGoodTrees t.grammar l) in_order (good_turned t.grammar (way_trees whole) (way_good t g.links can.sound.1.good whole h 0 whole_is))

    good_before : AreGoodTrees t.grammar before
    good_before = good_left t.grammar before (two.last.tree ∷ after) good

    good_rest : AreGoodTrees t.grammar (two.last.tree ∷ after)
    good_rest = good_right t.grammar before (two.last.tree ∷ after) good

    start_place : place_at g.heads 0 ≡ 0
    start_place = place_is_at g.heads 0 laid.graph.start.head laid.graph.start.is ∙ laid.graph.start.place_is

    reach : EndBy (suc (length text)) 0 (before ++ two.last.tree ∷ after)
    reach = subst (λ (l : List Tree). EndBy (suc (length text)) 0 l) in_order (subst (λ (n : ℕ). EndBy (suc (length text)) n (reverse (way_trees whole))) start_place (way_reach P g.heads g.links laid.held whole h 0 whole_is))

    spans : all_spans (before ++ two.last.tree ∷ after) ≤ length text
    spans =
        let a = way_spans P g.heads g.links laid.held whole h 0 whole_is in
        let b = start_place in
        let c = place_is_at g.heads h can.accepts.at.head can.accepts.at.is in
        let d = laid.within h can.accepts.at.head can.accepts.at.is in
        let e = ap all_spans in_order in
        let f = spans_turned (way_trees whole) in
        omega (arith, a, b, c, d, e, f)

    -- the root's link
    root_there : Contains g.links two.last
    root_there = by two.front h (subst (λ (ls : List Link). IsWay g.links h ls way.below) two.is can.takes.way)
      where
        by : (ls : List Link) (top : ℕ) → IsWay g.links top (ls ++ two.last ∷ []) way.below → Contains g.links two.last
        by [] top w = w.0
        by (l ∷ ls) top w = by ls l.below w.2

    keeps_root : symbol_of (bare two.last.tree) ≡ start_symbol t.grammar
    keeps_root = (laws.graphs.runs.keeps two.last.tree).symbol ∙ one.symbol

    pub rule : IsTrue (is_some (production_of two.last.tree))
    rule =
        let k = laid.graph.linked (bare_link two.last) (bare_member g.links two.last root_there) in
        let bared = (lays_ruled P facts base k.under k.from (bare two.last.tree ∷ []) k.to k.over k.lays).0 ((laws.graphs.runs.keeps two.last.tree).extra ∙ fills) keeps_root in
        subst (λ (o : Option ℕ). IsTrue (is_some o)) (laws.graphs.runs.keeps two.last.tree).production bared

    plain : length (elements_of two.last.tree) ≡ 0
    plain = no_elements (is_repetition t.grammar (symbol_of two.last.tree)) (elements_of two.last.tree) (ap (is_repetition t.grammar) one.symbol ∙ laws.graphs.runs.start_rule t.grammar laid.parsed.fit) own_form
      where
        own_form : has_form (is_repetition t.grammar (symbol_of two.last.tree)) (elements_of two.last.tree) ≡ true
        own_form = (own_forms t.grammar two.last.tree good_rest.0.form).0

    acceptable : IsAcceptable two.last.tree before after (suc size)
    acceptable =
        let few_before = all_few t.grammar before good_before in
        let few_root = few_nodes t.grammar two.last.tree good_rest.0 in
        let few_after = all_few t.grammar after good_rest.1 in
        let sum = all_spans-append before (two.last.tree ∷ after) in
        let within = spans in
        let short = laid.parsed.short in
        let low_before = flat_extras t.grammar before good_before (extras_turned (way_trees low) low_extras) in
        let low_after = flat_extras t.grammar after good_rest.1 (extras_turned (way_trees two.front) front_extras) in
        let e = can.size_is in
        record {
          node = good_rest.0.node;
          whole = good_rest.0.settled;
          plain = plain;
          before_settled = all_settled t.grammar before good_before;
          after_settled = all_settled t.grammar after good_rest.1;
          few = omega arith;
          short = omega arith;
          before_shallow = omega arith;
          after_shallow = omega arith;
          past = omega arith;
          covers = subst (λ (n : ℕ). EndBy (suc n) 0 (before ++ two.last.tree ∷ after)) (sym e) reach;
        }

    -- ---- as the call has it

    module _ (r : Tree) (bs cs : List Tree) (extent : ℕ) (q : r ≡ two.last.tree) (b : bs ≡ before) (c : cs ≡ after) (e : extent ≡ suc size) where
      pub rule_here : IsTrue (is_some (production_of r))
      rule_here = subst (λ (x : Tree). IsTrue (is_some (production_of x))) (sym q) rule

      pub before_all : All (λ node. is_extra_node node ≡ true) bs
      before_all = subst (λ (l : List Tree). All (λ node. is_extra_node node ≡ true) l) (sym b) (all_extra before (extras_turned (way_trees low) low_extras))

      pub after_all : All (λ node. is_extra_node node ≡ true) cs
      after_all = subst (λ (l : List Tree). All (λ node. is_extra_node node ≡ true) l) (sym c) (all_extra after (extras_turned (way_trees two.front) front_extras))

      same : accepted r bs cs extent ≡ accepted two.last.tree before after (suc size)
      same = ap (λ (x : Tree). accepted x bs cs extent) q ∙ ap (λ (l : List Tree). accepted two.last.tree l cs extent) b ∙ ap (λ (l : List Tree). accepted two.last.tree before l extent) c ∙ ap (λ (n : ℕ). accepted two.last.tree before after n) e

      pub node : IsNode (accepted r bs cs extent)
      node = subst (λ (x : Tree). IsNode x) (sym same) (laws.node two.last.tree before after (suc size) acceptable)

      pub root_by : (u : Tree) → u ≡ accepted r bs cs extent → IsRootBy t.grammar g size h way u
      root_by u is = record {
        above = two.front;
        last = two.last;
        below = low;
        at = subst (λ (ls : List Link). AreAt g.links way.links ls) two.is can.at;
        is = subst (λ (ls : List Link). IsWay g.links h (ls ++ low) 0) two.is whole_is;
        under = down;
        above_extras = front_extras;
        last_fills = fills;
        below_extras = low_extras;
        node_is = is ∙ same;
        form = subst (λ (x : Tree). IsInForm t.grammar x) (sym (is ∙ same))
            (laws.form t.grammar two.last.tree before after (suc size) plain good_rest.0.form (all_in_form t.grammar before good_before) (all_in_form t.grammar after good_rest.1));
      }
