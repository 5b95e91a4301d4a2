-- What a reduction in a graph makes can be laid there; and what is laid on a new head.
use Rattle.std.proofs.Common.{◌≡◌, ◌∙◌, sym, ap, refl, subst, ℕ, ◌+◌, ◌<◌, ◌≤◌, ⊎_elim, List, [], ◌∷◌, ◌++◌, length, reverse, map, Option, Some, arith}
use Rattle.std.proofs.lemmas.List.{reverse-reverse, length-map, length-reverse}
use Rattle.ts_core.specs.declared.flat.Production.{Production}
use Rattle.ts_core.specs.declared.flat.Step.{Step}
use Rattle.ts_core.specs.declared.symbol.Symbol.{Symbol}
use Rattle.spec_lexing.specs.Lexing.{token}
use Rattle.spec_tables.specs.Actions.{Act, shift, reduce}
use Rattle.spec_trees.specs.declared.tree.Tree.{Tree}
use Rattle.spec_trees.specs.Trees.{span_of, all_spans, tree_depth}
use Rattle.spec_trees.specs.Made.{form_of, filling, step_symbols, BeginsFilled, most_depth}
use Rattle.spec_runs.specs.Configurations.{AreExtras}
use Rattle.spec_packing.proofs.MadeLemmas.{CanMake}
use Rattle.spec_graph.specs.declared.graph.Head.{Head}
use Rattle.spec_graph.specs.declared.graph.Link.{Link}
use Rattle.spec_graph.specs.States.{ShareState}
use Rattle.spec_graph.specs.Laying.{Parsing, from_start, IsMet, GoesOn, PassesAt, ReducesAt, extra_tree, node_made, Taken, some, nothing, Lays, flat, made, CanMakeNode}
use Rattle.spec_graph.specs.Replacing.{depth_over}
use Rattle.spec_graph.specs.Keys.{Key, Earlier, LaysBefore, flat_before, stood_before, shifted_before, passed_before, made_before}
use Rattle.spec_graph.specs.Links.{IsWay, way_trees, depths_of, IsGraph, IsDue, way_depth}
use Rattle.spec_graph.proofs.SightLemmas.{Facts, same_token, sees_one, clash, narrows, sees_shared}
use Rattle.spec_graph.proofs.EntryLemmas.{node_tells, filling_turned, same_front}
use Rattle.spec_graph.proofs.ReplaceLemmas.{AllDeeper, deeper_over, deeper_turned}
use Rattle.spec_graph.proofs.LayLemmas.{IsBase, lays_read, lays_spans, lays_none, lays_state, grows, can_make, begins_taken, bottom_turned, split, extras_same, Peeled, bare_place, one_more, peel, passes_on, starts}
use Rattle.spec_graph.proofs.OrderLemmas.{node_bytes, before_lays}
use Rattle.spec_graph.proofs.GraphLemmas.{share_head, AreLaid, WayLaid, ways}
use Rattle.spec_graph.proofs.KeyLemmas.{map_turned}
use Rattle.spec_graph.proofs.BaseLemmas.{start_facts, start_base, due_start}
use Rattle.spec_graph.proofs.GroundLemmas.{graph_start}
use Rattle.spec_graph.proofs.OutcomeLemmas.{SameKinds, kinds_begins, kinds_length, kinds_turned, none_long, own_trees, Deepest, deepest}

same_kinds : (ts : List Tree) → SameKinds ts ts
same_kinds [] = tt
same_kinds (t ∷ ts) = (refl, same_kinds ts)

module _ (P : Parsing) (facts : Facts P) (base : IsBase P) (heads : List Head) (links : List Link) (graph : IsGraph P heads links) (rank : ℕ → ℕ) (key : Key) (number left : ℕ) (p : Production) (h e b : ℕ) (outer inner : List Link) (over now : List ℕ) (end : ℕ)
    (due : IsDue P rank heads links key number left p h e b outer inner over now end) where
  abbrev Laid : List Link → List Tree → Type 0
  Laid way ts = AreLaid P facts base heads way ts

  many : (ts : List Tree) → filling ts ≡ filling (way_trees inner) → length (filling (reverse ts)) ≡ length p.steps
  many ts same = ap (λ (l : List ℕ). length l) (filling_turned ts) ∙ length-reverse (filling ts) ∙ ap (λ (l : List ℕ). length l) same ∙ due.count

  taken_so : (ts : List Tree) → SameKinds ts (way_trees inner) → Taken (reverse ts) [] now key.begins
  taken_so ts kinds = by due.taken
    where
      by : Taken (reverse (way_trees inner)) [] now key.begins → Taken (reverse ts) [] now key.begins
      by (some lt first last) =
          let n = kinds_length ts (way_trees inner) kinds in
          let x : length (reverse (way_trees inner)) ≡ length (way_trees inner) = length-reverse (way_trees inner) in
          let y : length (reverse ts) ≡ length ts = length-reverse ts in
          let turned : BeginsFilled (way_trees inner) = subst (λ (l : List Tree). BeginsFilled l) (reverse-reverse (way_trees inner)) last in
          some (omega (arith, lt, n, x, y)) (kinds_begins (reverse ts) (reverse (way_trees inner)) (kinds_turned ts (way_trees inner) kinds) first)
          (subst (λ (l : List Tree). BeginsFilled l) (sym (reverse-reverse ts)) (kinds_begins ts (way_trees inner) kinds turned))
      by (nothing none low empty zero_begin) =
          let n = kinds_length ts (way_trees inner) kinds in
          let x : length (reverse (way_trees inner)) ≡ length (way_trees inner) = length-reverse (way_trees inner) in
          let z : length (reverse (way_trees inner)) ≡ 0 = ap (λ (l : List Tree). length l) none in
          nothing (ap (λ (l : List Tree). reverse l) (none_long ts (omega (arith, n, x, z)))) low empty zero_begin

  -- what lies on the way, from the lower head on
  module _ (ts : List Tree) (laid : Laid inner ts) (kinds : SameKinds ts (way_trees inner)) (filled : filling ts ≡ filling (way_trees inner)) where
    low : WayLaid P facts base heads b now key.begins ts e end
    low = ways P facts base heads links b now key.begins due.bottom inner ts e end over due.middle due.taken_off laid

    high : WayLaid P facts base heads e low.now end (way_trees outer) h key.look
    high = ways P facts base heads links e low.now end low.at outer (way_trees outer) h key.look over due.top due.lifted (own_trees P facts base heads links graph outer h e due.lifted)

    flat_read : high.now ≡ low.now
    flat_read = extras_same P facts base (way_trees outer) low.now end key.look high.now due.all_extras high.lays

    outer_lays : Lays P low.now end (way_trees outer) key.look low.now
    outer_lays = subst (λ (r : List ℕ). Lays P low.now end (way_trees outer) key.look r) flat_read high.lays

    share : ShareState P.goto over low.now
    share = subst (λ (r : List ℕ). ShareState P.goto over r) flat_read (share_head P facts heads h over high.now key.look key.look due.top high.at)

    stays : Act P.grammar low.now due.reduces.symbol.0 (reduce number)
    stays = facts.states.acts over low.now due.reduces.symbol.0 (reduce number) share due.reduces.stays

    front : filling ts ≡ reverse (step_symbols p)
    front =
        let ends = facts.laws.runs.reduces P.grammar low.now due.reduces.symbol.0 number stays in
        let both : ◌≡◌ {A = Option (ℕ × Production)} (Some (ends.left, ends.production)) (Some (left, p)) = sym ends.at ∙ due.reduces.at in
        let pair : ◌≡◌ {A = ℕ × Production} (ends.left, ends.production) (left, p) = cc in
        let same : ends.production ≡ p = ap (λ (q : ℕ × Production). q.1) pair in
        let first : low.now ≡ filling ts ++ now = lays_read P facts now key.begins ts end low.now low.lays in
        let other : low.now ≡ reverse (step_symbols p) ++ ends.earlier = ends.read_is ∙ ap (λ (q : Production). reverse (step_symbols q) ++ ends.earlier) same in
        let count : length (filling ts) ≡ length (reverse (step_symbols p)) =
        ap (λ (l : List ℕ). length l) filled ∙ due.count ∙ sym (length-map p.steps (λ (step : Step). step.symbol.0)) ∙ sym (length-reverse (step_symbols p)) in
        same_front (filling ts) (reverse (step_symbols p)) now ends.earlier count (sym first ∙ other)

    folds : ReducesAt P low.now key.look number left p now
    folds = record {
      symbol = due.reduces.symbol;
      pad = due.reduces.pad;
      size = due.reduces.size;
      sees = sees_shared P facts over low.now share key.look (token due.reduces.symbol due.reduces.pad due.reduces.size) due.reduces.sees;
      stays = stays;
      at = due.reduces.at;
      read_is = lays_read P facts now key.begins ts end low.now low.lays ∙ ap (λ (l : List ℕ). l ++ now) front;
    }

    inner_lays : Lays P now key.begins (reverse (reverse ts)) end low.now
    inner_lays = subst (λ (l : List Tree). Lays P now key.begins l end low.now) (sym (reverse-reverse ts)) low.lays

    make : CanMake P.grammar number left p (reverse ts)
    make = can_make P facts base now key.begins (reverse ts) end low.now key.look number left p inner_lays (begins_taken P facts (reverse ts) [] now key.begins (taken_so ts kinds)) folds (many ts filled)

    depth_is : tree_depth (node_made P number (reverse ts)) ≡ depth_over (form_of P.grammar left number) (reverse (map tree_depth ts))
    depth_is = (node_tells P facts number left p (reverse ts) make).depth ∙ ap (depth_over (form_of P.grammar left number)) (map_turned ts)

    node_laid : P.place ≤ key.look → tree_depth (node_made P number (reverse ts)) ≤ most_depth → Lays P now key.begins (node_made P number (reverse ts) ∷ []) end (left ∷ now)
    node_laid late shallow = made now key.begins [] key.begins now (reverse ts) end low.now (way_trees outer) key.look number left p (flat now key.begins) inner_lays outer_lays due.all_extras late (taken_so ts kinds) folds (many ts filled) shallow

    -- the extras above are passed over the node too
    extras_laid : P.place ≤ key.look → tree_depth (node_made P number (reverse ts)) ≤ most_depth → Lays P (left ∷ now) end (way_trees outer) key.look (left ∷ now)
    extras_laid late shallow =
        let bottom = due.bottom in
        let state = lays_state P facts base now key.begins (node_made P number (reverse ts) ∷ []) end (left ∷ now) bottom.head.state bottom.state (node_laid late shallow) in
        passes_on P facts base low.now (left ∷ now) (narrows P facts low.now key.look number left p now folds) state.0 state.1 (way_trees outer) end key.look due.all_extras late outer_lays

    end_late : P.place ≤ key.look → P.place ≤ end
    end_late late = by (peel P facts base low.now end (way_trees outer) key.look low.now outer_lays due.all_extras late refl)
      where
        by : Peeled P facts base low.now end (way_trees outer) key.look → P.place ≤ end
        by (bare_place none same) = omega (arith, same, late)
        by (one_more ys s pad size is early first rest all) = early

  no_deeper : (way : List Link) (h b : ℕ) → IsWay links h way b → AllDeeper (depths_of way) (map tree_depth (way_trees way))
  no_deeper [] h b is = tt
  no_deeper (l ∷ way) h b is = ((graph.linked l is.0).shallow, no_deeper way l.below b is.2)

  -- the node over the way's own trees
  pub due_depth : tree_depth (node_made P number (reverse (way_trees inner))) ≤ way_depth P number left inner
  due_depth =
      let d = depth_is (way_trees inner) (own_trees P facts base heads links graph inner e b due.taken_off) (same_kinds (way_trees inner)) refl in
      let less = deeper_over (form_of P.grammar left number) (reverse (depths_of inner)) (reverse (map tree_depth (way_trees inner))) (deeper_turned (depths_of inner) (map tree_depth (way_trees inner)) (no_deeper inner e b due.taken_off)) in
      omega (arith, d, less)

  pub due_laid : P.place ≤ key.look → way_depth P number left inner ≤ most_depth → Lays P now key.begins (node_made P number (reverse (way_trees inner)) ∷ []) end (left ∷ now)
  due_laid late low_depth = node_laid (way_trees inner) (own_trees P facts base heads links graph inner e b due.taken_off) (same_kinds (way_trees inner)) refl late (let d = due_depth in omega (arith, d, low_depth))

  -- the extras above are all laid anew
  pub due_end : P.place ≤ key.look → P.place ≤ end
  due_end late = end_late (way_trees inner) (own_trees P facts base heads links graph inner e b due.taken_off) (same_kinds (way_trees inner)) refl late

  -- each extra above is passed over the node
  pub due_extras_over : P.place ≤ key.look → way_depth P number left inner ≤ most_depth → (above below : List Tree) (x : Tree) → way_trees outer ≡ above ++ x ∷ below
      → Lays P (left ∷ now) (end + all_spans below) (x ∷ []) ((end + all_spans below) + span_of x) (left ∷ now)
  due_extras_over late low_depth above below x is =
      let all = extras_laid (way_trees inner) (own_trees P facts base heads links graph inner e b due.taken_off) (same_kinds (way_trees inner)) refl late (let d = due_depth in omega (arith, d, low_depth)) in
      let cut = split P facts base above (x ∷ below) (left ∷ now) end key.look (left ∷ now) (subst (λ (l : List Tree). Lays P (left ∷ now) end l key.look (left ∷ now)) is all) in
      let one = split P facts base (x ∷ []) below (left ∷ now) end cut.place cut.between cut.low in
      let parts = extras_parts above x below (subst (λ (l : List Tree). AreExtras l) is due.all_extras) in
      let low_read : one.between ≡ left ∷ now = extras_same P facts base below (left ∷ now) end one.place one.between parts.1 one.low in
      let low_place = lays_spans P facts base (left ∷ now) end below one.place one.between one.low in
      let high_read : cut.between ≡ one.between = extras_same P facts base (x ∷ []) one.between one.place cut.place cut.between parts.0 one.high in
      let high_place = lays_spans P facts base one.between one.place (x ∷ []) cut.place cut.between one.high in
      let at_low : one.place ≡ end + all_spans below = omega (arith, low_place) in
      let at_high : cut.place ≡ (end + all_spans below) + span_of x = omega (arith, low_place, high_place) in
      subst (λ (r : List ℕ). Lays P (left ∷ now) (end + all_spans below) (x ∷ []) ((end + all_spans below) + span_of x) r) (high_read ∙ low_read)
      (subst (λ (r : List ℕ). Lays P r (end + all_spans below) (x ∷ []) ((end + all_spans below) + span_of x) cut.between) low_read
      (subst (λ (m : ℕ). Lays P one.between m (x ∷ []) ((end + all_spans below) + span_of x) cut.between) at_low
      (subst (λ (m : ℕ). Lays P one.between one.place (x ∷ []) m cut.between) at_high one.high)))
    where
      extras_parts : (above : List Tree) (x : Tree) (below : List Tree) → AreExtras (above ++ x ∷ below) → AreExtras (x ∷ []) × AreExtras below
      extras_parts [] x below a = ((a.0, tt), a.1)
      extras_parts (y ∷ above) x below a = extras_parts above x below a.1

-- where the stack from which runs go on was met, a node over trees of the way's depths is laid from the start
module _ (P : Parsing) (facts : Facts P) (met : IsMet P) (heads : List Head) (links : List Link) (graph : IsGraph P heads links) (rank : ℕ → ℕ) (key : Key) (number left : ℕ) (p : Production) (h e b : ℕ) (outer inner : List Link) (over now : List ℕ) (end : ℕ)
    (due : IsDue P rank heads links key number left p h e b outer inner over now end) where
  deep : Deepest P facts met heads links graph inner
  deep = deepest P facts met heads links graph inner e b due.taken_off

  depth_there : tree_depth (node_made P number (reverse deep.trees)) ≡ way_depth P number left inner
  depth_there =
      depth_is (from_start P) (start_facts P facts) (start_base P facts) heads links (graph_start P facts met heads links graph) rank key number left p h e b outer inner over now end
      (due_start P facts rank heads links key number left p h e b outer inner over now end due) deep.trees deep.laid deep.kinds deep.filled
      ∙ ap (λ (l : List ℕ). depth_over (form_of P.grammar left number) (reverse l)) deep.depths

  pub due_deepest : way_depth P number left inner ≤ most_depth → (t : Tree) × Lays (from_start P) now key.begins (t ∷ []) end (left ∷ now) × (tree_depth t ≡ way_depth P number left inner)
  due_deepest low_depth = (
    node_made P number (reverse deep.trees),
    node_laid (from_start P) (start_facts P facts) (start_base P facts) heads links (graph_start P facts met heads links graph) rank key number left p h e b outer inner over now end
        (due_start P facts rank heads links key number left p h e b outer inner over now end due) deep.trees deep.laid deep.kinds deep.filled (omega arith) (let d = depth_there in omega (arith, d, low_depth)),
    depth_there,
  )

-- ---- new heads

module _ (P : Parsing) (facts : Facts P) (base : IsBase P) (rank : ℕ → ℕ) (k : Key) where
  -- a node that is made of trees begins with a token on which a move stays
  node_starts : (read : List ℕ) (from : ℕ) (ks : List Tree) (end : ℕ) (over : List ℕ) (xs : List Tree) (look number left : ℕ) (p : Production) → P.place ≤ from → (read ≡ [] → ⊥) → CanMakeNode P read from ks end over xs look number left p → GoesOn P read from × (from < look)
  node_starts read from ks end over xs look number left p late full c = by c.taken
    where
      by : Taken ks [] read from → GoesOn P read from × (from < look)
      by (nothing none low empty zero_from) = absurd (full empty)
      by (some lt begins ends) =
          let make = can_make P facts base read from ks end over look number left p c.inner begins c.reduces c.count in
          let bytes = node_bytes P facts base read from ks end over look number left p c.inner lt begins c.reduces c.count in
          let g = grows P facts base over end xs look over c.outer in
          (starts P facts base read from (reverse ks) end over c.inner late (bottom_turned P.grammar number left p ks lt make), omega (arith, bytes, g))

  pub no_node_behind : (read : List ℕ) (from : ℕ) (s : Symbol) (pad size : ℕ) → P.place ≤ from → (read ≡ [] → ⊥) → PassesAt P read from s pad size
      → (ks : List Tree) (end : ℕ) (over : List ℕ) (xs : List Tree) (look number left : ℕ) (p : Production) → CanMakeNode P read from ks end over xs look number left p → ⊥
  no_node_behind read from s pad size late full passes ks end over xs look number left p c =
      clash P facts read from s pad size (node_starts read from ks end over xs look number left p late full c).0 passes

  pub no_node_late : (read : List ℕ) (from : ℕ) → P.place ≤ from → (read ≡ [] → ⊥) → k.look ≤ from
      → (ks : List Tree) (end : ℕ) (over : List ℕ) (xs : List Tree) (look number left : ℕ) (p : Production) → CanMakeNode P read from ks end over xs look number left p → Earlier (record { look = look; begins = from; rank = rank left }) k → ⊥
  no_node_late read from late full at ks end over xs look number left p c earlier =
      let lt = (node_starts read from ks end over xs look number left p late full c).1 in
      ⊎_elim (λ less. omega (arith, lt, less, at)) (λ same. let f = same.0 in omega (arith, lt, f, at)) earlier

  alone_made : (read : List ℕ) (from : ℕ) (w : List Tree) (place : ℕ) (now : List ℕ) (ks : List Tree) (end : ℕ) (over : List ℕ) (xs : List Tree) (look number left : ℕ) (p : Production) → Lays P read from w place now → w ≡ [] → Lays P now place (reverse ks) end over → Lays P over end xs look over → AreExtras xs → P.place ≤ look
      → Taken ks w read from → ReducesAt P over look number left p now → length (filling ks) ≡ length p.steps → CanMakeNode P now place ks end over xs look number left p
  alone_made read from w place now ks end over xs look number left p l none inner outer all late taken folds count = record {
    inner = inner;
    outer = outer;
    all_extras = all;
    late = late;
    taken = by taken;
    reduces = folds;
    count = count;
  }
    where
      by : Taken ks w read from → Taken ks [] now place
      by (some lt begins ends) = some lt begins ends
      by (nothing gone _ empty zero_from) = let e = lays_none P facts base read from w place now l none in nothing gone refl (e.1 ∙ empty) (e.0 ∙ zero_from)

  -- what is laid on a head at which an extra is passed, is that extra
  pub record IsTheExtra (read : List ℕ) (from : ℕ) (s : Symbol) (its_pad its_size : ℕ) (t : Tree) (place : ℕ) (now : List ℕ) : Type 0 where
    pub tree : t ≡ extra_tree s its_pad its_size
    pub end : place ≡ from + (its_pad + its_size)
    pub read_is : now ≡ read

  pub only_the_extra : (read : List ℕ) (from : ℕ) (s : Symbol) (pad size : ℕ) → P.place ≤ from → (read ≡ [] → ⊥) → PassesAt P read from s pad size
      → (all : List Tree) (place : ℕ) (now : List ℕ) (t : Tree) → LaysBefore P rank k read from all place now → all ≡ t ∷ [] → IsTheExtra read from s pad size t place now
  only_the_extra read from s pad size late full passes _ _ _ t (flat_before _ _) is = absurd (let h : [] ≡ t ∷ [] = is in cc)
  only_the_extra read from s pad size late full passes _ _ _ t (stood_before _ _ w place now u above below l at here share) is =
      absurd (let low = base.low above below u at in let g = grows P facts base read from w place now (before_lays P facts base rank k read from w place now l) in omega (arith, low, here, g, late))
  only_the_extra read from s pad size late full passes _ _ _ t (shifted_before _ _ w place now u pad2 size2 l late2 lt sees acts) is =
      let none : w ≡ [] = cc in
      let e = lays_none P facts base read from w place now (before_lays P facts base rank k read from w place now l) none in
      let goes : GoesOn P now place = record { symbol = u; pad = pad2; size = size2; sees = sees; moves = (shift, acts) } in
      absurd (clash P facts read from s pad size (subst (λ (m : ℕ). GoesOn P read m) e.0 (subst (λ (r : List ℕ). GoesOn P r place) e.1 goes)) passes)
  only_the_extra read from s pad size late full passes _ _ _ t (passed_before _ _ w place now u pad2 size2 l late2 lt passes2) is =
      let none : w ≡ [] = cc in
      let same : extra_tree u pad2 size2 ≡ t = cc in
      let e = lays_none P facts base read from w place now (before_lays P facts base rank k read from w place now l) none in
      let here : PassesAt P read from u pad2 size2 = subst (λ (m : ℕ). PassesAt P read m u pad2 size2) e.0 (subst (λ (r : List ℕ). PassesAt P r place u pad2 size2) e.1 passes2) in
      let one = same_token u s pad2 pad size2 size (sees_one P facts read from (token u pad2 size2) (token s pad size) here.sees passes.sees) in
      record {
        tree = sym same ∙ ap (λ (x : Symbol). extra_tree x pad2 size2) one.0 ∙ ap (λ (x : ℕ). extra_tree s x size2) one.1 ∙ ap (λ (x : ℕ). extra_tree s pad x) one.2;
        end = (let f = e.0 in let g = one.1 in let h = one.2 in omega (arith, f, g, h));
        read_is = e.1;
      }
  only_the_extra read from s pad size late full passes _ _ _ t (made_before _ _ w place now ks end over xs look number left p l inner outer all late2 taken folds count deep earlier) is =
      let none : w ≡ [] = cc in
      let low = before_lays P facts base rank k read from w place now l in
      let e = lays_none P facts base read from w place now low none in
      let c = alone_made read from w place now ks end over xs look number left p low none inner outer all late2 taken folds count in
      absurd (no_node_behind now place s pad size (let f = e.0 in omega (arith, late, f)) (λ empty. full (sym e.1 ∙ empty))
      (subst (λ (m : ℕ). PassesAt P now m s pad size) (sym e.0) (subst (λ (r : List ℕ). PassesAt P r from s pad size) (sym e.1) passes)) ks end over xs look number left p c)

  -- and nothing is laid before the key on a head that stands no earlier than the key's token
  pub nothing_late : (read : List ℕ) (from : ℕ) → P.place ≤ from → (read ≡ [] → ⊥) → k.look ≤ from → (all : List Tree) (place : ℕ) (now : List ℕ) (t : Tree) → LaysBefore P rank k read from all place now → all ≡ t ∷ [] → ⊥
  nothing_late read from late full at _ _ _ t (flat_before _ _) is = let h : [] ≡ t ∷ [] = is in cc
  nothing_late read from late full at _ _ _ t (stood_before _ _ w place now u above below l there here share) is =
      let low = base.low above below u there in
      let g = grows P facts base read from w place now (before_lays P facts base rank k read from w place now l) in
      omega (arith, low, here, g, late)
  nothing_late read from late full at _ _ _ t (shifted_before _ _ w place now u pad size l late2 lt sees acts) is =
      let g = grows P facts base read from w place now (before_lays P facts base rank k read from w place now l) in
      omega (arith, g, lt, at)
  nothing_late read from late full at _ _ _ t (passed_before _ _ w place now u pad size l late2 lt passes) is =
      let g = grows P facts base read from w place now (before_lays P facts base rank k read from w place now l) in
      omega (arith, g, lt, at)
  nothing_late read from late full at _ _ _ t (made_before _ _ w place now ks end over xs look number left p l inner outer all late2 taken folds count deep earlier) is =
      let none : w ≡ [] = cc in
      let low = before_lays P facts base rank k read from w place now l in
      let e = lays_none P facts base read from w place now low none in
      let c = alone_made read from w place now ks end over xs look number left p low none inner outer all late2 taken folds count in
      no_node_late now place (let f = e.0 in omega (arith, late, f)) (λ empty. full (sym e.1 ∙ empty)) (let f = e.0 in omega (arith, at, f)) ks end over xs look number left p c earlier
