-- A repetition that is lengthened at once by elements that stand behind it.
use Rattle.std.proofs.Common.{◌≡◌, ◌∙◌, sym, ap, subst, ℕ, ◌+◌, ◌<◌, ◌≤◌, List, [], ◌∷◌, ◌++◌, length, reverse, map, drop, Option, Some, None, arith}
use Rattle.std.proofs.lemmas.List.{drop-drop}
use lib.IntN.{◌+ℤ◌}
use Rattle.ts_base.specs.Bytes.{Bytes}
use Rattle.ts_core.specs.declared.flat.FlatGrammar.{FlatGrammar}
use Rattle.spec_tables.specs.Fit.{Fit}
use Rattle.spec_trees.specs.declared.tree.Tree.{Tree}
use Rattle.spec_trees.specs.declared.tree.Element.{Element}
use Rattle.spec_trees.specs.declared.tree.Stretch.{Stretch}
use Rattle.spec_trees.specs.Trees.{symbol_of, state_of, node_extent, elements_of, children_of, total_of, all_totals, all_values, span_of, all_spans, tree_depth, bare}
use Rattle.spec_trees.specs.Made.{reduced, lengthened, children_count, reach_of, most_depth}
use Rattle.spec_reuse.specs.Places.{here}
use Rattle.spec_runs.specs.Configurations.{Configuration, stack_symbols, AreExtras}
use Rattle.spec_forced.specs.Forced.{ForcedRun, Stands, StandInTurn}
use Rattle.spec_forced.specs.Laws.{ForcedLaws}
use Rattle.spec_forced.specs.OnlyRuns.{OnlyRun, only_here, Meet}
use Rattle.spec_forced.specs.Sound.{States, IsStateAfter, LaterStand, SettledStand, IsSoundNode, AllSound, IsHonestStretch, HasState, EachHasState, StandOnStack, StandBehindForState}
use Rattle.spec_forced.specs.Behind.{IsOfSymbol, LaterElement, StandBehindInTurn, ElementsEndBy, added_elements, added_children, added}
use Rattle.spec_forced.proofs.StackLemmas.{spans_append, spans_turned}
use Rattle.spec_forced.proofs.SpanLemmas.{bare_fillings, Over, over_says}
use Rattle.spec_forced.proofs.ForcedLemmas.{forced_stands, stands_rises}
use Rattle.spec_forced.proofs.NodeLemmas.{map_append, map_turned, made_forced}
use Rattle.spec_forced.proofs.KeepLemmas.{Given, over_given}
use Rattle.spec_forced.proofs.OnlyLemmas.{meet_self, meet_chain}
use Rattle.spec_forced.proofs.PassLemmas.{passed_again}
use Rattle.spec_forced.proofs.SoundLemmas.{stands_for, stand_in_turn, sound_one, sound_inside, sound_append}
use Rattle.spec_forced.proofs.BehindLemmas.{behind_makes, behind_in_turn}
use Rattle.spec_forced.proofs.ElementLemmas.{StretchEndsBy, reach_ends, settled_state, later_append, Appended, appended_of}
use Rattle.spec_forced.proofs.LengthLemmas.{lengthened_meets}
use Rattle.spec_forced.proofs.StretchLemmas.{AllAppend, appended, one_more, one_span, one_whole, longer_depth, flat}

all_append : (g : FlatGrammar) (symbol : ℕ) (es : List LaterElement) (read : List ℕ) (rest : Bytes) → StandBehindInTurn g symbol read rest es → AllAppend g symbol es
all_append g symbol [] read rest s = tt
all_append g symbol (e ∷ es) read rest s = (
  (s.0.production, s.0.alternative, s.0.at, s.0.form),
  all_append g symbol es read (drop (all_spans e.children) rest) s.1,
)

-- where a node stands, so does each node that is the same node of a parse tree
stands_bare : (g : FlatGrammar) (read : List ℕ) (rest : Bytes) (t u : Tree) (e : ℕ) → bare t ≡ bare u → Stands g read rest t e → Stands g read rest u e
stands_bare g read rest t u e is s other text same agree =
    let f = s other text same agree in
    record {
      extras = f.extras;
      all_extras = f.all_extras;
      bytes = f.bytes;
      run = subst (λ (b : Tree). ForcedRun g other text e (f.extras ++ b ∷ []) f.bytes) is f.run;
    }

module _ (laws : ForcedLaws) (g : FlatGrammar) (fit : Fit g) (symbol extent : ℕ) (state : Option ℕ) where
  -- ---- one after another

  appended_meets : (text : Bytes) (below : List Tree) (es : List LaterElement) (t : Tree) (place : ℕ) → IsOfSymbol symbol t → StandBehindInTurn g symbol (stack_symbols below) (drop place text) es → tree_depth (appended g extent state t es) ≤ most_depth
      → Meet g text (record { stack = bare t ∷ below; place = place }) (record { stack = bare (appended g extent state t es) ∷ below; place = place + all_spans (added_children es) })
  appended_meets text below [] t place of s shallow =
      subst (λ (n : ℕ). Meet g text (record { stack = bare t ∷ below; place = place }) (record { stack = bare t ∷ below; place = n })) (let q : place ≡ place + 0 = omega arith in q)
      (meet_self g text (record { stack = bare t ∷ below; place = place }))
  appended_meets text below (e ∷ es) t place of s shallow =
      let all = all_append g symbol (e ∷ es) (stack_symbols below) (drop place text) s in
      let node : Tree = reduced g e.number extent state (t ∷ e.children) in
      let o = one_more g symbol extent state t e all.0 in
      let last : Tree = appended g extent state node es in
      let deep : tree_depth node ≤ most_depth = omega (arith, shallow, longer_depth g symbol extent state es node all.1) in
      let q : ℕ = place + all_spans e.children in
      let more : StandBehindInTurn g symbol (stack_symbols below) (drop q text) es = subst (λ (x : Bytes). StandBehindInTurn g symbol (stack_symbols below) x es) (drop-drop (all_spans e.children) place text) s.1 in
      subst (λ (n : ℕ). Meet g text (record { stack = bare t ∷ below; place = place }) (record { stack = bare last ∷ below; place = n }))
      (let k : q + all_spans (added_children es) ≡ place + all_spans (added_children (e ∷ es)) = omega (arith, spans_append e.children (added_children es)) in k)
      (meet_chain g text (record { stack = bare t ∷ below; place = place }) (record { stack = bare node ∷ below; place = q }) (record { stack = bare last ∷ below; place = q + all_spans (added_children es) })
      (lengthened_meets laws g fit text below place symbol e.number t of e.children e.extent extent state s.0 deep)
      (appended_meets text below es node q (o.says.symbol_is, o.says.extra_is) more shallow))

  appended_stands : (read : List ℕ) (rest : Bytes) (es : List LaterElement) (t : Tree) → IsOfSymbol symbol t → span_of t ≡ all_spans (children_of t) → Stands g read rest t (node_extent t) → node_extent t ≤ extent → StandBehindInTurn g symbol read (drop (span_of t) rest) es
      → ElementsEndBy extent (span_of t) es → tree_depth (appended g extent state t es) ≤ most_depth → Stands g read rest (appended g extent state t es) extent
  appended_stands read rest [] t of whole own first s ends shallow = stands_rises g read rest t (node_extent t) extent first own
  appended_stands read rest (e ∷ es) t of whole own first s ends shallow =
      let all = all_append g symbol (e ∷ es) read (drop (span_of t) rest) s in
      let node : Tree = reduced g e.number extent state (t ∷ e.children) in
      let o = one_more g symbol extent state t e all.0 in
      let span : span_of node ≡ span_of t + all_spans e.children = one_span g symbol extent state t e all.0 whole in
      let deep : tree_depth node ≤ most_depth = omega (arith, shallow, longer_depth g symbol extent state es node all.1) in
      let makes = behind_makes g symbol read rest e.number t e.children e.extent extent of own first ends.0 s.0 in
      let stands : Stands g read rest node extent = forced_stands g read rest node extent (made_forced laws g fit read rest e.number (t ∷ e.children) s.0.lifted extent extent state makes deep) in
      let by_own : Stands g read rest node (node_extent node) = subst (λ (n : ℕ). Stands g read rest node n) (sym o.given.extent_is) stands in
      let far : drop (all_spans e.children) (drop (span_of t) rest) ≡ drop (span_of node) rest = drop-drop (all_spans e.children) (span_of t) rest ∙ ap (λ (n : ℕ). drop n rest) (sym span) in
      let more : StandBehindInTurn g symbol read (drop (span_of node) rest) es = subst (λ (x : Bytes). StandBehindInTurn g symbol read x es) far s.1 in
      appended_stands read rest es node (o.says.symbol_is, o.says.extra_is) (one_whole g symbol extent state t e all.0) by_own (omega (arith, o.given.extent_is)) more
      (subst (λ (n : ℕ). ElementsEndBy extent n es) (sym span) ends.1) shallow

  -- ---- all at once

  module _ (t : Tree) (of : IsOfSymbol symbol t) (e : LaterElement) (es : List LaterElement) where
    abbrev whole : Tree
    whole = lengthened t (added g symbol (e ∷ es)) extent state

    same_depth : AllAppend g symbol (e ∷ es) → tree_depth whole ≤ most_depth → tree_depth (appended g extent state t (e ∷ es)) ≤ most_depth
    same_depth all shallow =
        let is = flat g symbol extent state e es t all of in
        omega (arith, shallow, (laws.keeps whole).depth, (laws.keeps (appended g extent state t (e ∷ es))).depth, ap tree_depth is)

    pub whole_meets : (text : Bytes) (below : List Tree) (place : ℕ) → StandBehindInTurn g symbol (stack_symbols below) (drop place text) (e ∷ es) → tree_depth whole ≤ most_depth
        → Meet g text (record { stack = bare t ∷ below; place = place }) (record { stack = bare whole ∷ below; place = place + all_spans (added_children (e ∷ es)) })
    whole_meets text below place s shallow =
        let all = all_append g symbol (e ∷ es) (stack_symbols below) (drop place text) s in
        subst (λ (b : Tree). Meet g text (record { stack = bare t ∷ below; place = place }) (record { stack = b ∷ below; place = place + all_spans (added_children (e ∷ es)) }))
        (flat g symbol extent state e es t all of) (appended_meets text below (e ∷ es) t place of s (same_depth all shallow))

    pub whole_stands : (read : List ℕ) (rest : Bytes) → span_of t ≡ all_spans (children_of t) → Stands g read rest t (node_extent t) → node_extent t ≤ extent → StandBehindInTurn g symbol read (drop (span_of t) rest) (e ∷ es) → ElementsEndBy extent (span_of t) (e ∷ es) → tree_depth whole ≤ most_depth
        → Stands g read rest whole extent
    whole_stands read rest spans own first s ends shallow =
        let all = all_append g symbol (e ∷ es) read (drop (span_of t) rest) s in
        stands_bare g read rest (appended g extent state t (e ∷ es)) whole extent (flat g symbol extent state e es t all of)
        (appended_stands read rest (e ∷ es) t of spans own first s ends (same_depth all shallow))

-- ---- a stretch of a sound tree

-- what a stretch is for a parser in whose state it is honest
record Taken (g : FlatGrammar) (symbol : ℕ) (read : List ℕ) (rest : Bytes) (s : Stretch) : Type 0 where
  pub first : LaterElement
  pub others : List LaterElement
  pub is : added g symbol (first ∷ others) ≡ s
  pub stand : StandBehindInTurn g symbol read rest (first ∷ others)
  pub ends : (end from : ℕ) → StretchEndsBy end from s.elements s.children → ElementsEndBy end from (first ∷ others)

module _ (laws : ForcedLaws) (g : FlatGrammar) (fit : Fit g) (states : States) (text : Bytes) (symbol k : ℕ) (s : Stretch) (some : 0 < length s.elements) where
  same_stretch : (es : List Element) (ks : List Tree) → es ≡ s.elements → ks ≡ s.children → ◌≡◌ {A = Stretch} (record { elements = es; children = ks }) s
  same_stretch es ks elements children =
      ap {B = Stretch} (λ (l : List Element). record { elements = l; children = ks }) elements ∙ ap {B = Stretch} (λ (l : List Tree). record { elements = s.elements; children = l }) children

  taken : (place : ℕ) (read : List ℕ) → IsStateAfter g states k read → IsHonestStretch g states text place k symbol s → Taken g symbol read (drop place text) s
  taken place read after h = by a.later a.elements_are a.children_are a.stand a.ends
    where
      a : Appended g states text k symbol place s.elements s.children
      a = appended_of g states text k symbol s.elements s.children place h.settled h.counted h.stand

      by : (ls : List LaterElement) → added_elements g symbol ls ≡ s.elements → added_children ls ≡ s.children → StandBehindForState g states text place k symbol ls → ((end from : ℕ) → StretchEndsBy end from s.elements s.children → ElementsEndBy end from ls)
          → Taken g symbol read (drop place text) s
      by [] elements children stand ends = absurd (let n : length s.elements ≡ 0 = ap (λ (l : List Element). length l) (sym elements) in omega (arith, n, some))
      by (l ∷ ls) elements children stand ends = record {
        first = l;
        others = ls;
        is = same_stretch (added_elements g symbol (l ∷ ls)) (added_children (l ∷ ls)) elements children;
        stand = behind_in_turn g states text k symbol read after (l ∷ ls) place stand;
        ends = ends;
      }

  module _ (below : List Tree) (after : IsStateAfter g states k (stack_symbols below)) (t : Tree) (of : IsOfSymbol symbol t) (extent : ℕ) where
    pub stretch_meets : (place : ℕ) (state : Option ℕ) → IsHonestStretch g states text place k symbol s → tree_depth (lengthened t s extent state) ≤ most_depth
        → Meet g text (record { stack = bare t ∷ below; place = place }) (record { stack = bare (lengthened t s extent state) ∷ below; place = place + all_spans s.children })
    stretch_meets place state h shallow =
        let x = taken place (stack_symbols below) after h in
        let deep : tree_depth (lengthened t (added g symbol (x.first ∷ x.others)) extent state) ≤ most_depth = subst (λ (r : Stretch). tree_depth (lengthened t r extent state) ≤ most_depth) (sym x.is) shallow in
        subst (λ (r : Stretch). Meet g text (record { stack = bare t ∷ below; place = place }) (record { stack = bare (lengthened t r extent state) ∷ below; place = place + all_spans r.children })) x.is
        (whole_meets laws g fit symbol extent state t of x.first x.others text below place x.stand deep)

    module _ (spans : span_of t ≡ all_spans (children_of t)) (counted : children_count (elements_of t) ≡ length (children_of t)) (first : node_extent t ≤ extent) (h : IsHonestStretch g states text (all_spans (t ∷ below)) k symbol s) (reach : span_of t + reach_of s.elements s.children ≤ extent)
        (shallow : tree_depth (lengthened t s extent (state_of t)) ≤ most_depth) (stack : StandOnStack g states text (t ∷ below)) where
      abbrev read : List ℕ
      read = stack_symbols below

      abbrev place : ℕ
      place = all_spans below

      abbrev node : Tree
      node = lengthened t s extent (state_of t)

      says : Over (symbol_of t) (children_of t ++ s.children) node
      says = over_says (symbol_of t) None (total_of t +ℤ (all_values s.elements +ℤ all_totals s.children)) extent (state_of t) (elements_of t ++ s.elements) (children_of t ++ s.children)

      given : Given extent (state_of t) (elements_of t ++ s.elements) node
      given = over_given (symbol_of t) None (total_of t +ℤ (all_values s.elements +ℤ all_totals s.children)) extent (state_of t) (elements_of t ++ s.elements) (children_of t ++ s.children)

      node_stands : HasState t → Stands g read (drop place text) node (node_extent node)
      node_stands has =
          let x = taken (all_spans (t ∷ below)) read after h in
          let far : drop (all_spans (t ∷ below)) text ≡ drop (span_of t) (drop place text) = ap (λ (n : ℕ). drop n text) (let q : all_spans (t ∷ below) ≡ place + span_of t = omega arith in q) ∙ sym (drop-drop (span_of t) place text) in
          let behind : StandBehindInTurn g symbol read (drop (span_of t) (drop place text)) (x.first ∷ x.others) = subst (λ (y : Bytes). StandBehindInTurn g symbol read y (x.first ∷ x.others)) far x.stand in
          let deep : tree_depth (lengthened t (added g symbol (x.first ∷ x.others)) extent (state_of t)) ≤ most_depth = subst (λ (r : Stretch). tree_depth (lengthened t r extent (state_of t)) ≤ most_depth) (sym x.is) shallow in
          let stands = whole_stands laws g fit symbol extent (state_of t) t of x.first x.others read (drop place text) spans (stack.0 has) first behind (x.ends extent (span_of t) (reach_ends extent s.elements s.children (span_of t) reach)) deep in
          subst (λ (n : ℕ). Stands g read (drop place text) node n) (sym given.extent_is) (subst (λ (r : Stretch). Stands g read (drop place text) (lengthened t r extent (state_of t)) extent) x.is stands)

      state_after : (n : ℕ) → state_of t ≡ Some n → IsStateAfter g states n read
      state_after n has = stack.1 of.1 n has

      node_elements : (n : ℕ) → state_of t ≡ Some n → LaterStand g states text place n symbol (elements_of t ++ s.elements) (children_of t ++ s.children)
      node_elements n has =
          let old = (stack.2 t place n (here t [] place) has).elements in
          let named : LaterStand g states text place n symbol (elements_of t) (children_of t) = subst (λ (y : ℕ). LaterStand g states text place n y (elements_of t) (children_of t)) of.0 old in
          let more = settled_state g states text k n read after (state_after n has) s.elements s.children (all_spans (t ∷ below)) symbol h.stand in
          later_append g states text n symbol (elements_of t) s.elements (children_of t) s.children place counted named
          (subst (λ (y : ℕ). SettledStand g states text y n symbol s.elements s.children) (let q : all_spans (t ∷ below) ≡ place + all_spans (children_of t) = omega (arith, spans) in q) more)

      node_sound : (n : ℕ) → state_of node ≡ Some n → IsSoundNode g states text place n node
      node_sound n has =
          let mine : state_of t ≡ Some n = sym given.state_is ∙ has in
          record {
            stands = λ settled. stands_for g states text place n node read (state_after n mine) (node_stands (n, mine));
            elements = subst (λ (y : ℕ). LaterStand g states text place n y (elements_of node) (children_of node)) (sym (says.symbol_is ∙ of.0))
                (subst (λ (l : List Tree). LaterStand g states text place n symbol (elements_of node) l) (sym says.children_is)
                (subst (λ (l : List Element). LaterStand g states text place n symbol l (children_of t ++ s.children)) (sym given.elements_are) (node_elements n mine)));
          }

      pub stretch_on_stack : StandOnStack g states text (node ∷ below)
      stretch_on_stack =
          let kids : AllSound g states text (children_of node) place = subst (λ (l : List Tree). AllSound g states text l place) (sym says.children_is)
          (sound_append g states text (children_of t) s.children place (sound_inside g states text t place stack.2)
          (subst (λ (n : ℕ). AllSound g states text s.children n) (let q : all_spans (t ∷ below) ≡ place + all_spans (children_of t) = omega (arith, spans) in q) h.inner)) in (
            (λ has. node_stands (has.0, sym given.state_is ∙ has.1)),
            (λ fills n has. state_after n (sym given.state_is ∙ has)),
            sound_one g states text node place node_sound kids,
            stack.3,
          )

-- ---- with extras on top

-- a parser with extras above the repetition may take the stretch over too: its first element begins with them
pub over_extras : (laws : ForcedLaws) (g : FlatGrammar) → Fit g → (states : States) (text : Bytes) (symbol k : ℕ) (s : Stretch) → 0 < length s.elements → (xs below : List Tree) → IsStateAfter g states k (stack_symbols below) → (t : Tree) → IsOfSymbol symbol t → (extent : ℕ) (state : Option ℕ)
    → IsHonestStretch g states text (all_spans (t ∷ below)) k symbol s → tree_depth (lengthened t s extent state) ≤ most_depth → AreExtras xs → EachHasState xs → StandOnStack g states text (reverse xs ++ t ∷ below)
    → Meet g text (record { stack = map bare (reverse xs ++ t ∷ below); place = all_spans (reverse xs ++ t ∷ below) }) (record { stack = map bare (lengthened t s extent state ∷ below); place = all_spans (t ∷ below) + all_spans s.children })
over_extras laws g fit states text symbol k s some xs below after t of extent state h shallow extras each stack =
    let low : List Tree = map bare (t ∷ below) in
    let place : ℕ = all_spans (t ∷ below) in
    let c : Configuration = record { stack = low; place = place } in
    let d : Configuration = record { stack = map bare (lengthened t s extent state ∷ below); place = place + all_spans s.children } in
    let turn : StandInTurn g (stack_symbols low) (drop place text) xs = subst (λ (l : List ℕ). StandInTurn g l (drop place text) xs) (sym (bare_fillings laws (t ∷ below))) (stand_in_turn g states text xs (t ∷ below) each stack) in
    let run : OnlyRun g text c (record { stack = reverse (map bare xs) ++ low; place = place + all_spans xs }) = passed_again laws g text xs low place extras turn in
    let lies : reverse (map bare xs) ++ low ≡ map bare (reverse xs ++ t ∷ below) = ap (λ (l : List Tree). l ++ low) (sym (map_turned xs)) ∙ sym (map_append (reverse xs) (t ∷ below)) in
    let there : place + all_spans xs ≡ all_spans (reverse xs ++ t ∷ below) = omega (arith, spans_append (reverse xs) (t ∷ below), spans_turned xs) in
    let e : Configuration = record { stack = map bare (reverse xs ++ t ∷ below); place = all_spans (reverse xs ++ t ∷ below) } in
    let whole : OnlyRun g text c e = subst (λ (n : ℕ). OnlyRun g text c (record { stack = map bare (reverse xs ++ t ∷ below); place = n })) there
    (subst (λ (l : List Tree). OnlyRun g text c (record { stack = l; place = place + all_spans xs })) lies run) in
    let bare_after : IsStateAfter g states k (stack_symbols (map bare below)) = subst (λ (l : List ℕ). IsStateAfter g states k l) (sym (bare_fillings laws below)) after in
    meet_chain g text e c d (e, only_here e, whole) (stretch_meets laws g fit states text symbol k s some (map bare below) bare_after t of extent place state h shallow)
