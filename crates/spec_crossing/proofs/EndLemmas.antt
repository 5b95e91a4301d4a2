-- How runs end before a place, the graph that is whole up to it tells.
use Rattle.std.proofs.Common.{◌≡◌, ◌∙◌, sym, ap, refl, subst, ℕ, ◌<◌, ◌≤◌, inl, false, List, [], ◌∷◌, ◌++◌, append_assoc, reverse, arith}
use Rattle.std.proofs.lemmas.List.{reverse-append}
use Rattle.ts_core.specs.declared.flat.FlatGrammar.{FlatGrammar}
use Rattle.spec_grammar.specs.Symbols.{start_symbol}
use Rattle.spec_trees.specs.declared.tree.Tree.{Tree}
use Rattle.spec_trees.specs.Trees.{symbol_of, is_extra_node, tree_depth, bare}
use Rattle.spec_trees.specs.Made.{accepted, filling, most_depth}
use Rattle.spec_trees.specs.Choice.{Better}
use Rattle.spec_runs.specs.Configurations.{Configuration, AreExtras}
use Rattle.spec_runs.specs.Runs.{ComesTooDeep, AcceptsTree, StopsAt}
use Rattle.spec_packing.proofs.RankLemmas.{unbared}
use Rattle.spec_packing.proofs.MadeLemmas.{IsMade, AllMade}
use Rattle.spec_packing.proofs.ReachedLemmas.{all_made_left, all_made_right}
use Rattle.spec_graph.specs.declared.graph.Head.{Head}
use Rattle.spec_graph.specs.declared.graph.Link.{Link}
use Rattle.spec_graph.specs.States.{AreRanks}
use Rattle.spec_graph.specs.Laying.{Parsing, node_made, Taken, some, nothing, Lays}
use Rattle.spec_graph.specs.Replacing.{Replaces, AllReplace}
use Rattle.spec_graph.specs.Keys.{LaysBefore}
use Rattle.spec_graph.specs.Links.{way_trees, HasWay, IsGraph, IsWholeTo}
use Rattle.spec_graph.specs.Outcomes.{GraphAccepts, GraphStopsAt}
use Rattle.spec_graph.proofs.SightLemmas.{Facts}
use Rattle.spec_graph.proofs.EntryLemmas.{filling_tree, filling_extras, all_made_back}
use Rattle.spec_graph.proofs.ReplaceLemmas.{split, turned, same_extras}
use Rattle.spec_graph.proofs.RootLemmas.{accepted_replaces}
use Rattle.spec_graph.proofs.LayLemmas.{IsBase, lays_made, lays_spans, lays_none, reduction_parts, extras_append}
use Rattle.spec_graph.proofs.OrderLemmas.{before_lays}
use Rattle.spec_graph.proofs.GraphLemmas.{has_way}
use Rattle.spec_graph.proofs.KeyLemmas.{stand_replace, way_all_made}
use Rattle.spec_graph.proofs.OutcomeLemmas.{links_made}
use Rattle.spec_crossing.specs.Leaving.{EndsBefore}
use Rattle.spec_crossing.proofs.BeforeLemmas.{first, IsBefore, EndsEarly, below_before}

extras_turned : (xs : List Tree) → AreExtras xs → AreExtras (reverse xs)
extras_turned [] a = tt
extras_turned (x ∷ xs) a = subst (λ (l : List Tree). AreExtras l) (sym (reverse-append (x ∷ []) xs)) (extras_append (reverse xs) (x ∷ []) (extras_turned xs a.1) (a.0, tt))

first_of : (ts : List Tree) (u : Tree) (us : List Tree) → AllReplace ts (u ∷ us) → (t : Tree) × (rest : List Tree) × (ts ≡ t ∷ rest) × Replaces t u × AllReplace rest us
first_of [] u us a = absurd a
first_of (t ∷ ts) u us a = (t, ts, refl, a.0, a.1)

root_symbol : (stack : List Tree) (root : Tree) (before after : List Tree) (start : ℕ) → stack ≡ reverse after ++ root ∷ reverse before → AreExtras after → is_extra_node root ≡ false → filling stack ≡ start ∷ [] → symbol_of root ≡ start
root_symbol stack root before after start is extras fills read =
    let all : symbol_of root ∷ filling (reverse before) ≡ start ∷ [] =
    sym (filling_tree root (reverse before) fills) ∙ sym (filling_extras (reverse after) (root ∷ reverse before) (extras_turned after extras)) ∙ ap filling (sym is) ∙ read in
    let h : symbol_of root ≡ start = cc in h

record RootMade (g : FlatGrammar) (root : Tree) (before after : List Tree) : Type 0 where
  pub root_made : IsMade g root
  pub before_made : AllMade g before
  pub after_made : AllMade g after

root_parts : (g : FlatGrammar) (stack : List Tree) (root : Tree) (before after : List Tree) → stack ≡ reverse after ++ root ∷ reverse before → AllMade g stack → RootMade g root before after
root_parts g stack root before after is made =
    let all : AllMade g (reverse after ++ root ∷ reverse before) = subst (λ (l : List Tree). AllMade g l) is made in
    let right : AllMade g (root ∷ reverse before) = all_made_right g (reverse after) (root ∷ reverse before) all in
    record {
      root_made = right.0;
      before_made = all_made_back g before right.1;
      after_made = all_made_back g after (all_made_left g (reverse after) (root ∷ reverse before) all);
    }

taken_alone : (P : Parsing) (facts : Facts P) (base : IsBase P) (ks w : List Tree) (now : List ℕ) (place : ℕ) → Lays P [] 0 w place now → Taken ks w [] 0 → Taken ks [] now place
taken_alone P facts base ks w now place l (some lt begins ends) = some lt begins ends
taken_alone P facts base ks w now place l (nothing none low read zero_place) = let e = lays_none P facts base [] 0 w place now l low in nothing none refl e.1 e.0

module _ (P : Parsing) (facts : Facts P) (base : IsBase P) (rank : ℕ → ℕ) (most : ℕ) (ranked : AreRanks P.grammar rank most) (n : ℕ)
    (heads : List Head) (links : List Link) (graph : IsGraph P heads links) (whole : IsWholeTo P rank heads links (record { look = n; begins = n; rank = most })) where
  -- what comes before the key has a way down
  pub way_of : (d : Configuration) → IsBefore P facts base rank most ranked n d → HasWay P heads links 0 d.stack d.place (filling d.stack)
  way_of d before = has_way P facts base rank most ranked heads links (record { look = n; begins = n; rank = most }) whole 0 [] 0 d.stack d.place (filling d.stack) whole.start before

  module _ (d : Configuration) (ends : EndsEarly P facts base rank most ranked n d) where
    laid : Lays P [] 0 d.stack d.place (filling d.stack)
    laid = before_lays P facts base rank (record { look = n; begins = n; rank = most }) [] 0 d.stack d.place (filling d.stack) ends.before

    way : HasWay P heads links 0 d.stack d.place (filling d.stack)
    way = way_of d ends.before

    stops_early : (stop : ℕ) → StopsAt P.grammar P.text d stop → (s : GraphStopsAt P heads stop) × (P.place ≤ s.place) × (s.place < n)
    stops_early stop s = (record { head = way.head; read = filling d.stack; place = d.place; at = way.at; far = s.0; sees = s.1; stop_is = s.2 }, ends.late, ends.early)

    shallow_early : ComesTooDeep P.grammar P.text d → ⊥
    shallow_early deep =
        let r = deep.reduction in
        let h = reduction_parts P facts base d deep.number deep.node deep.after laid deep.move r in
        let below = below_before P facts base rank most ranked n (r.lifted ++ reverse r.children) r.below d.place h.place (filling d.stack)
        (subst (λ (s : List Tree). LaysBefore P rank (first P facts base rank most ranked n) [] 0 s d.place (filling d.stack)) (r.stack_is ∙ sym (append_assoc r.lifted (reverse r.children) r.below)) ends.before)
        (let spans = lays_spans P facts base [] 0 r.below h.place (filling r.below) h.low in omega (arith, spans)) in
        let low = way_of (record { stack = r.below; place = h.place }) below in
        let shallow = whole.shallow low.head (filling r.below) h.place r.children h.end (filling d.stack) r.lifted d.place deep.number r.left r.production low.at
        (record {
          inner = h.inner;
          outer = h.outer;
          all_extras = r.extras;
          late = ends.late;
          taken = taken_alone P facts base r.children r.below (filling r.below) h.place h.low h.taken;
          reduces = h.folds;
          count = r.count;
        }) (inl ends.early) in
        let too : most_depth < tree_depth (node_made P deep.number r.children) = subst (λ (t : Tree). most_depth < tree_depth t) r.node_is deep.deep in
        omega (arith, shallow, too)

    accepts_early : (u : Tree) → AcceptsTree P.grammar P.text d u → (t : Tree) × (a : GraphAccepts P heads links t) × (P.place ≤ a.place) × (a.place < n) × (Better u t → ⊥)
    accepts_early u x =
        let ts = way_trees way.way in
        let replace = stand_replace way.way d.stack way.stands in
        let p = split ts (reverse x.after) (x.root ∷ reverse x.before) (subst (λ (l : List Tree). AllReplace ts l) x.stack_is replace) in
        let r = first_of p.right x.root (reverse x.before) p.second in
        let after = turned p.left x.after p.first in
        let before = turned r.1 x.before r.4 in
        let trees_are : ts ≡ reverse after.forth ++ r.0 ∷ reverse before.forth =
        p.is ∙ ap (λ (l : List Tree). l ++ p.right) after.is ∙ ap (λ (l : List Tree). reverse after.forth ++ l) (r.2 ∙ ap (λ (l : List Tree). r.0 ∷ l) before.is) in
        let mc = root_parts P.grammar d.stack x.root x.before x.after x.stack_is (lays_made P facts base [] 0 d.stack d.place (filling d.stack) laid) in
        let md = root_parts P.grammar ts r.0 before.forth after.forth trees_are (way_all_made P links (links_made P facts base heads links graph) way.way way.head 0 way.is) in
        let read = (facts.laws.runs.accepts P.grammar (filling d.stack) x.move.symbol.0 x.move.stays).1 in
        let start = root_symbol d.stack x.root x.before x.after (start_symbol P.grammar) x.stack_is x.after_extras x.root_fills read in
        let before_extras = same_extras before.forth x.before before.replace x.before_extras in
        let after_extras = same_extras after.forth x.after after.replace x.after_extras in
        let kept : Tree = accepted r.0 before.forth after.forth 0 in
        let dropped : Tree = accepted x.root x.before x.after 0 in
        let has : GraphAccepts P heads links (bare kept) = record {
          head = way.head;
          read = filling d.stack;
          place = d.place;
          at = way.at;
          symbol = x.move.symbol;
          pad = x.move.pad;
          size = x.move.size;
          sees = x.move.next;
          stays = x.move.stays;
          way = way.way;
          is = way.is;
          before = before.forth;
          root = r.0;
          after = after.forth;
          trees_are = trees_are;
          before_extras = before_extras;
          root_fills = r.3.extra ∙ x.root_fills;
          after_extras = after_extras;
          tree_is = refl;
        } in (
          bare kept,
          has,
          ends.late,
          ends.early,
          λ better. accepted_replaces P.grammar (facts.laws.runs.start_rule P.grammar facts.fit) r.0 x.root before.forth after.forth x.before x.after md.root_made mc.root_made start r.3
              md.before_made mc.before_made md.after_made mc.after_made before_extras x.before_extras after_extras x.after_extras before.replace after.replace
              (unbared kept dropped (facts.laws.runs.keeps kept) (facts.laws.runs.keeps dropped) (subst (λ (v : Tree). Better v (bare kept)) x.tree_is better)),
        )

    pub ends_early : EndsBefore P heads links n d
    ends_early = record { shallow = shallow_early; accepts = accepts_early; stops = stops_early }
