-- A stack of the trees of a way.
use Rattle.std.proofs.Common.{◌≡◌, ◌∙◌, sym, ap, refl, subst, ℕ, suc, ◌+◌, ◌-◌, ◌<◌, ◌≤◌, List, [], ◌∷◌, ◌++◌, append-nil, append_assoc, length, length-append, map, reverse, take, drop, slice_get, Option, Some, arith}
use Rattle.std.specs.Option.{option_map_or}
use Rattle.std.proofs.lemmas.List.{map-append, reverse-append, drop_all}
use Rattle.ts_base.specs.Bytes.{Bytes}
use Rattle.spec_trees.specs.declared.tree.Tree.{Tree}
use Rattle.spec_trees.specs.Trees.{node_extent, all_spans, bare}
use Rattle.spec_trees.specs.Inside.{itself}
use Rattle.spec_trees.specs.Made.{EndBy, filling}
use Rattle.spec_forced.specs.Forced.{Stands}
use Rattle.spec_forced.specs.Sound.{States, IsStateAfter, AllSound, StandOnStack}
use Rattle.spec_graph.specs.declared.graph.Head.{Head}
use Rattle.spec_graph.specs.declared.graph.Link.{Link}
use Rattle.spec_graph.specs.States.{LeadsTo}
use Rattle.spec_graph.specs.Laying.{Parsing}
use Rattle.spec_graph.specs.Links.{IsAt, IsWay, way_trees, IsLinked}
use Rattle.spec_packing.specs.Packing.{PackedTree, PackedStack}
use Rattle.spec_crossing.specs.Leaving.{packed_link, way_stack}
use Rattle.ts_table.specs.declared.view.ParseTable.{ParseTable}
use Rattle.ts_table.specs.Tables.{goto_of, IsTable, IsStateOf}
use Rattle.ts_gss.specs.declared.layer.Layer.{Layer}
use Rattle.ts_gss.specs.Stacks.{stack_at, trees_on, IsOneStack}
use Rattle.ts_graph.specs.declared.view.GraphView.{GraphView}
use Rattle.ts_graph.specs.Down.{HoldsEachOnce, place_at}
use Rattle.ts_graph.specs.Ways.{AreAt}
use Rattle.ts_reductions.specs.SoundLinks.{bare_link, bare_links}
use Rattle.ts_steps.specs.declared.head.StackHead.{StackHead}
use Rattle.ts_steps.specs.Good.{EachTree, AreGoodTrees}
use Rattle.ts_steps.specs.LiveHeads.{packed_of, packed_tree, packed_layers, HaveStates, HaveDepths, IsGoodStack}
use Rattle.ts_steps.specs.Heads.{AreStatesOf, IsOwnWithin, IsMadeNode, IsOwnHead, StandOnHead}
use Rattle.ts_crossing.specs.Laws.{LeaveLaws}
use Rattle.ts_reductions.specs.Sound.{Base, parsing_from, IsSoundBy}
use Rattle.ts_reductions.specs.Keeping.{AreOwn, StandOnGraph}
use Rattle.ts_graph.specs.Under.{state_at, layer_of_link, layers_of}
use Rattle.ts_reductions.specs.declared.made.Piece.{Piece}
use Rattle.ts_crossing.specs.Leaving.{IsStack, IsLeft, layer_with_piece}
use Rattle.ts_crossing.proofs.BareLemmas.{filling_bare, spans_bare}
use Rattle.ts_crossing.proofs.MemberLemmas.{contained_at, read_at, bare_member, place_is_at}
use Rattle.ts_crossing.proofs.PartLemmas.{stack_new, end_by_both, spans_turned}
use Rattle.ts_crossing.proofs.MadeLemmas.{node_made}
use Rattle.ts_crossing.proofs.TableLemmas.{leads_state}

-- ---- one tree after another

pub state_of_head : (heads : List Head) (h : ℕ) (head : Head) → slice_get heads h ≡ Some head → head.state ≡ state_at heads h
state_of_head heads h head e = sym (ap (λ (o : Option Head). option_map_or (λ (x : Head). x.state) o 0) e)

-- the same of what is told of a head that is there
pub state_is_at : (heads : List Head) (h state : ℕ) → h < length heads → ((x : Head) → slice_get heads h ≡ Some x → state ≡ x.state) → state ≡ state_at heads h
state_is_at heads h state low is = let r = read_at heads h low in is r.0 r.1 ∙ state_of_head heads h r.0 r.1

pub above_low : (heads : List Head) (links : List Link) (k : ℕ) → k < length links → HoldsEachOnce heads links → (above : ℕ) → ((l : Link) → slice_get links k ≡ Some l → above ≡ l.above) → above < length heads
above_low heads links k low once above is = let r = read_at links k low in let e = is r.0 r.1 in let w = once.above_there k r.0 r.1 in omega (arith, e, w)

pub place_of_head : (heads : List Head) (h : ℕ) (head : Head) → slice_get heads h ≡ Some head → head.place ≡ place_at heads h
place_of_head heads h head e = sym (place_is_at heads h head e)

pub one_there : (stacks : List (List Layer)) (top : ℕ) → IsOneStack stacks top → top < length stacks
one_there stacks top one = let n = one.count in omega (arith, n)

-- ---- pieces on a stack, the last one first

-- the pieces that are left, and the layers that lie on the stack below
abbrev pub Pushed : List Piece → List (List Layer) → ℕ → List Piece → List (List Layer) → ℕ → Type 0
Pushed pieces old below left stacks top =
    (done : List Layer) × (map layer_with_piece pieces ≡ map layer_with_piece left ++ done)
    × (stack_at stacks top ≡ done ++ stack_at old below)

pub pushed_first : (pieces : List Piece) (old : List (List Layer)) (below : ℕ) → Pushed pieces old below pieces old below
pushed_first pieces old below = ([], sym (append-nil (map layer_with_piece pieces)), refl)

pub pushed_more : (pieces : List Piece) (old : List (List Layer)) (below : ℕ) (left more : List Piece) (p : Piece) → left ≡ more ++ p ∷ [] → (stacks : List (List Layer)) (top : ℕ) → Pushed pieces old below left stacks top
    → (new : List (List Layer)) (above : ℕ) → above ≡ length stacks → new ≡ stacks ++ (layer_with_piece p ∷ stack_at stacks top) ∷ [] → Pushed pieces old below more new above
pushed_more pieces old below left more p is stacks top so new above above_is new_is = (
  layer_with_piece p ∷ so.0,
  so.1
      ∙ ap (λ (ps : List Piece). map layer_with_piece ps ++ so.0) is
      ∙ ap (λ (ls : List Layer). ls ++ so.0) (map-append layer_with_piece more (p ∷ []))
      ∙ append_assoc (map layer_with_piece more) (layer_with_piece p ∷ []) so.0,
  ap (λ (ss : List (List Layer)). stack_at ss above) new_is
      ∙ ap (λ (n : ℕ). stack_at (stacks ++ (layer_with_piece p ∷ stack_at stacks top) ∷ []) n) above_is
      ∙ stack_new stacks (layer_with_piece p ∷ stack_at stacks top)
      ∙ ap (λ (ls : List Layer). layer_with_piece p ∷ ls) so.2,
)

pub pushed_last : (pieces : List Piece) (old : List (List Layer)) (below : ℕ) (left : List Piece) (stacks : List (List Layer)) (top : ℕ) → left ≡ [] → Pushed pieces old below left stacks top → stack_at stacks top ≡ map layer_with_piece pieces ++ stack_at old below
pushed_last pieces old below left stacks top none so =
    so.2 ∙ ap (λ (ls : List Layer). ls ++ stack_at old below) (sym (so.1 ∙ ap (λ (ps : List Piece). map layer_with_piece ps ++ so.0) none))

pub piece_less : (old new : List Piece) (x : Piece) → old ≡ new ++ x ∷ [] → length new < length old
piece_less old new x is = let e = ap (λ (ps : List Piece). length ps) is in let n = length-append new (x ∷ []) in omega (arith, e, n)

pub none_left : (old new : List Piece) (count : ℕ) → old ≡ new ++ [] → count ≡ 0 → new ≡ take (count - 1) old → old ≡ []
none_left old new count is none rest =
    let empty : new ≡ [] = rest ∙ ap (λ (n : ℕ). take (n - 1) old) none in
    is ∙ ap (λ (ps : List Piece). ps ++ []) empty

-- the layers of links, one piece after another
pub pieces_more : (heads : List Head) (way : List Link) (i : ℕ) (l : Link) (old new : List Piece) (p : Piece) → drop i way ≡ l ∷ drop (i + 1) way → layer_with_piece p ≡ layer_of_link heads l → new ≡ old ++ p ∷ []
    → map layer_with_piece old ++ layers_of heads (drop i way) ≡ layers_of heads way → map layer_with_piece new ++ layers_of heads (drop (i + 1) way) ≡ layers_of heads way
pieces_more heads way i l old new p cut same is so =
    ap (λ (ps : List Piece). map layer_with_piece ps ++ layers_of heads (drop (i + 1) way)) is
    ∙ ap (λ (ls : List Layer). ls ++ layers_of heads (drop (i + 1) way)) (map-append layer_with_piece old (p ∷ []))
    ∙ append_assoc (map layer_with_piece old) (layer_with_piece p ∷ []) (layers_of heads (drop (i + 1) way))
    ∙ ap (λ (m : Layer). map layer_with_piece old ++ m ∷ layers_of heads (drop (i + 1) way)) same
    ∙ ap (λ (w : List Link). map layer_with_piece old ++ layers_of heads w) (sym cut)
    ∙ so

pub pieces_last : (heads : List Head) (way : List Link) (i : ℕ) (pieces : List Piece) → length way ≤ i → map layer_with_piece pieces ++ layers_of heads (drop i way) ≡ layers_of heads way → map layer_with_piece pieces ≡ layers_of heads way
pieces_last heads way i pieces past so =
    sym (append-nil (map layer_with_piece pieces))
    ∙ ap (λ (w : List Link). map layer_with_piece pieces ++ layers_of heads w) (sym (drop_all i way past))
    ∙ so

-- the layers of two ways, one after the other
pub layers_both : (heads : List Head) (higher lower way : List Link) (new old : List Layer) (pieces : List Layer) → way ≡ higher ++ lower → new ≡ pieces ++ old → pieces ≡ layers_of heads higher → old ≡ layers_of heads lower → new ≡ layers_of heads way
layers_both heads higher lower way new old pieces is top up down =
    top
    ∙ ap (λ (ls : List Layer). ls ++ old) up
    ∙ ap (λ (ls : List Layer). layers_of heads higher ++ ls) down
    ∙ sym (map-append (layer_of_link heads) higher lower)
    ∙ ap (λ (w : List Link). layers_of heads w) (sym is)

-- ---- the trees of the stack

layer_trees : (heads : List Head) (way : List Link) → map bare (trees_on (layers_of heads way)) ≡ way_trees (map bare_link way)
layer_trees heads [] = refl
layer_trees heads (l ∷ way) = ap (λ (ts : List Tree). bare l.tree ∷ ts) (layer_trees heads way)

layers_are : (heads : List Head) (way : List Link) → packed_layers (layers_of heads way) ≡ map packed_link (map bare_link way)
layers_are heads [] = refl
layers_are heads (l ∷ way) = ap (λ (ls : List PackedTree). packed_tree l.tree l.depth ∷ ls) (layers_are heads way)

module _ (laws : LeaveLaws) (t : ParseTable) (text : Bytes) (base : Base) (g : GraphView) (sound : IsSoundBy t text base g) where
  abbrev P : Parsing
  P = parsing_from t text base

  abbrev bares : List Link
  bares = bare_links g.links

  abbrev trees : List Link → List Tree
  trees way = trees_on (layers_of g.heads way)

  linked : (k : ℕ) (l : Link) → slice_get g.links k ≡ Some l → IsLinked P g.heads (bare_link l)
  linked k l at = sound.laid.graph.linked (bare_link l) (bare_member g.links l (contained_at g.links k l at))

  read_is : (h place : ℕ) (read : List ℕ) (way : List Link) → IsAt P g.heads h read place → IsWay bares h (map bare_link way) 0 → IsAt P g.heads h (filling (trees way)) place
  read_is h place read way at down =
      subst (λ (r : List ℕ). IsAt P g.heads h r place)
      (ap filling (sym (layer_trees g.heads way)) ∙ filling_bare laws.keeps (trees way))
      (laws.symbols P sound.laid.parsed.fit sound.laid.parsed.states sound.laid.parsed.grounded g.heads bares sound.laid.graph h place read (map bare_link way) at down)

  spans_are : (h place : ℕ) (read : List ℕ) (way : List Link) → IsAt P g.heads h read place → IsWay bares h (map bare_link way) 0 → all_spans (trees way) ≡ place
  spans_are h place read way at down =
      sym (spans_bare laws.keeps (trees way)) ∙ ap all_spans (layer_trees g.heads way)
      ∙ laws.spans P sound.laid.parsed.fit sound.laid.parsed.states sound.laid.parsed.grounded g.heads bares sound.laid.graph h place read (map bare_link way) at down

  states_of : (numbers : List ℕ) (way : List Link) (h : ℕ) → AreAt g.links numbers way → IsWay bares h (map bare_link way) 0 → HaveStates t (layers_of g.heads way)
  states_of numbers [] h a w = tt
  states_of [] (l ∷ way) h a w = absurd a
  states_of (k ∷ numbers) (l ∷ way) h a w =
      let up = (linked k l a.0).above in
      let to = (linked k l a.0).to in
      let down : IsWay bares l.above (map bare_link (l ∷ way)) 0 = (w.0, refl, w.2) in
      let at = read_is l.above to (linked k l a.0).over (l ∷ way) up down in (
        subst (λ (n : ℕ). IsStateOf t (filling (trees (l ∷ way))) n) (state_of_head g.heads l.above at.head at.is) (leads_state t (filling (trees (l ∷ way))) at.head.state at.state),
        states_of numbers way l.below a.1 w.2,
      )

  depths_of : (numbers : List ℕ) (way : List Link) → AreAt g.links numbers way → HaveDepths (layers_of g.heads way)
  depths_of numbers [] a = tt
  depths_of [] (l ∷ way) a = absurd a
  depths_of (k ∷ numbers) (l ∷ way) a =
      let there = contained_at g.links k l a.0 in
      let kept = laws.keeps l.tree in
      let p = sound.laid.parsed in (
        record {
          own = let low = (linked k l a.0).shallow in let d = kept.depth in omega (arith, low, d);
          shallow = (sound.laid.held l there).not_deep;
          flat = λ extra.
              laws.flat P p.fit p.states p.grounded g.heads bares sound.laid.graph (bare_link l) (bare_member g.links l there) (kept.extra ∙ extra)
              ∙ kept.depth;
        },
        depths_of numbers way a.1,
      )

  reach_of : (numbers : List ℕ) (way : List Link) (h : ℕ) → AreAt g.links numbers way → IsWay bares h (map bare_link way) 0 → EndBy (suc (length text)) 0 (reverse (trees way))
  reach_of numbers [] h a w = tt
  reach_of [] (l ∷ way) h a w = absurd a
  reach_of (k ∷ numbers) (l ∷ way) h a w =
      let k2 = linked k l a.0 in
      let held = sound.laid.held l (contained_at g.links k l a.0) in
      let place : place_at g.heads l.below ≡ k2.from = place_is_at g.heads l.below k2.below.head k2.below.is ∙ k2.below.place_is in
      let spans = spans_are l.below k2.from k2.under way k2.below w.2 in
      let turned = spans_turned (trees way) in
      let r = held.reach in
      subst (λ (ts : List Tree). EndBy (suc (length text)) 0 ts) (sym (reverse-append (l.tree ∷ []) (trees way)))
      (end_by_both (suc (length text)) 0 (reverse (trees way)) (l.tree ∷ []) (reach_of numbers way l.below a.1 w.2) (omega (arith, place, spans, turned, r), tt))

  own_trees : AreOwn t.grammar g → (numbers : List ℕ) (way : List Link) → AreAt g.links numbers way → EachTree (IsOwnWithin t.grammar) (trees way)
  own_trees own numbers [] a = tt
  own_trees own [] (l ∷ way) a = absurd a
  own_trees own (k ∷ numbers) (l ∷ way) a = (own l (contained_at g.links k l a.0), own_trees own numbers way a.1)

  made_nodes : (numbers : List ℕ) (way : List Link) → AreAt g.links numbers way → EachTree (IsMadeNode t.grammar) (trees way)
  made_nodes numbers [] a = tt
  made_nodes [] (l ∷ way) a = absurd a
  made_nodes (k ∷ numbers) (l ∷ way) a =
      let p = sound.laid.parsed in (
        node_made laws.keeps t.grammar l.tree
            (laws.made P p.fit p.states p.grounded g.heads bares sound.laid.graph (bare_link l) (bare_member g.links l (contained_at g.links k l a.0))),
        made_nodes numbers way a.1,
      )

  good_trees : AreOwn t.grammar g → (numbers : List ℕ) (way : List Link) → AreAt g.links numbers way → AreGoodTrees t.grammar (trees way)
  good_trees own numbers [] a = tt
  good_trees own [] (l ∷ way) a = absurd a
  good_trees own (k ∷ numbers) (l ∷ way) a =
      let there = contained_at g.links k l a.0 in
      ((own l there l.tree itself (sound.good l there).settled).good, good_trees own numbers way a.1)

  module _ (table : IsTable t) (states : States) (named : AreStatesOf t states) (st : StandOnGraph t.grammar states text base g) where
    stand_trees : (numbers : List ℕ) (way : List Link) (h : ℕ) → AreAt g.links numbers way → IsWay bares h (map bare_link way) 0 → StandOnStack t.grammar states text (trees way)
    stand_trees numbers [] h a w = tt
    stand_trees [] (l ∷ way) h a w = absurd a
    stand_trees (k ∷ numbers) (l ∷ way) h a w =
        let there = contained_at g.links k l a.0 in
        let low = (linked k l a.0).below in
        let from = (linked k l a.0).from in
        let at = read_is l.below from (linked k l a.0).under way low w.2 in
        let after : IsStateAfter t.grammar states at.head.state (filling (trees way)) = laws.named t states (filling (trees way)) at.head.state table named (leads_state t (filling (trees way)) at.head.state at.state) in
        let spans : all_spans (trees way) ≡ from = spans_are l.below from (linked k l a.0).under way low w.2 in
        let place : at.head.place ≡ all_spans (trees way) = at.place_is ∙ sym spans in (
          λ has.
              subst (λ (n : ℕ). Stands t.grammar (filling (trees way)) (drop n text) l.tree (node_extent l.tree)) place
              (laws.tells t.grammar states text at.head.place at.head.state l.tree (filling (trees way)) after (st.stands l at.head there at.is has).0),
          λ plain n has.
              let e : Some at.head.state ≡ Some n = sym ((st.stands l at.head there at.is (n, has)).1 plain) ∙ has in
              let same : at.head.state ≡ n = cc in
              subst (λ (m : ℕ). IsStateAfter t.grammar states m (filling (trees way))) same after,
          subst (λ (n : ℕ). AllSound t.grammar states text (l.tree ∷ []) n) (place_is_at g.heads l.below at.head at.is ∙ place) (st.inner l there),
          stand_trees numbers way l.below a.1 w.2,
        )

  -- ---- the head of the stack

  module _ (h : ℕ) (there : h < length g.heads) (numbers : List ℕ) (foot : ℕ) (stacks : List (List Layer)) (k : StackHead) (s : IsStack g h numbers foot) (left : IsLeft g h s.way stacks k) where
    pub head : (x : Head) × (slice_get g.heads h ≡ Some x)
    head = read_at g.heads h there

    place_is : k.place ≡ head.0.place
    place_is = left.place ∙ place_is_at g.heads h head.0 head.1

    pub reads : (read : List ℕ) × IsAt P g.heads h read head.0.place
    reads = by (map bare_link s.way) s.only.down
      where
        at_start : h ≡ 0 → (read : List ℕ) × IsAt P g.heads h read head.0.place
        at_start z =
            let a = sound.laid.graph.start in
            let both : Some a.head ≡ Some head.0 = sym a.is ∙ ap (λ (n : ℕ). slice_get g.heads n) (sym z) ∙ head.1 in
            let one : a.head ≡ head.0 = cc in
            ([], record { head = head.0; is = head.1; state = subst (λ (x : Head). LeadsTo (goto_of t) [] x.state) one a.state; place_is = refl })

        by : (way : List Link) → IsWay bares h way 0 → (read : List ℕ) × IsAt P g.heads h read head.0.place
        by [] z = at_start z
        by (l ∷ way) w =
            let a = (sound.laid.graph.linked l w.0).above in
            let both : Some a.head ≡ Some head.0 = sym a.is ∙ ap (λ (n : ℕ). slice_get g.heads n) w.1 ∙ head.1 in
            let one : a.head ≡ head.0 = cc in
            ((sound.laid.graph.linked l w.0).over, record { head = head.0; is = head.1; state = subst (λ (x : Head). LeadsTo (goto_of t) (sound.laid.graph.linked l w.0).over x.state) one a.state; place_is = refl })

    pub head_at_place : IsAt P g.heads h reads.0 k.place
    head_at_place = subst (λ (n : ℕ). IsAt P g.heads h reads.0 n) (sym place_is) reads.1

    pub layers_is : packed_of stacks k ≡ way_stack (map bare_link s.way) k.place
    layers_is =
        ap (λ (ls : List Layer). pair (packed_layers ls) k.place) left.stack
        ∙ ap (λ (ls : List PackedTree). pair ls k.place) (layers_are g.heads s.way)
      where
        pair : List PackedTree → ℕ → PackedStack
        pair ls place = record { stack = ls; place = place }

    pub left_own : AreOwn t.grammar g → IsOwnHead t (length text) stacks k
    left_own own = record {
      live = record {
        there = left.there;
        stack = subst (λ (ls : List Layer). IsGoodStack t (length text) ls k.place) (sym left.stack)
            (record {
              states = states_of s.all s.way h s.at s.only.down;
              depths = depths_of s.all s.way s.at;
              good = good_trees own s.all s.way s.at;
              spans = spans_are h k.place reads.0 s.way head_at_place s.only.down;
              reach = reach_of s.all s.way h s.at s.only.down;
              within = let w = sound.laid.within h head.0 head.1 in let p = place_is in omega (arith, w, p);
            });
      };
      own = subst (λ (ls : List Layer). EachTree (IsOwnWithin t.grammar) (trees_on ls)) (sym left.stack) (own_trees own s.all s.way s.at);
      made = subst (λ (ls : List Layer). EachTree (IsMadeNode t.grammar) (trees_on ls)) (sym left.stack) (made_nodes s.all s.way s.at);
    }

    pub left_stand : IsTable t → (states : States) → AreStatesOf t states → StandOnGraph t.grammar states text base g → StandOnHead t states text stacks k
    left_stand table states named st = subst (λ (ls : List Layer). StandOnStack t.grammar states text (trees_on ls)) (sym left.stack) (stand_trees table states named st s.all s.way h s.at s.only.down)
