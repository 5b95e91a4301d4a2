-- Ways down from a head that accepts: what lies on them, and that extras at the start are always the
-- same.
use Rattle.std.proofs.Common.{◌≡◌, ◌∙◌, sym, ap, refl, subst, ℕ, suc, List, [], ◌∷◌, ◌++◌, append-nil, length, map, arith}
use Rattle.spec_grammar.specs.Symbols.{start_symbol}
use Rattle.spec_tables.specs.Actions.{Act, accept}
use Rattle.spec_trees.specs.declared.tree.Tree.{Tree}
use Rattle.spec_trees.specs.Trees.{bare}
use Rattle.spec_trees.specs.Made.{filling}
use Rattle.spec_runs.specs.Configurations.{AreExtras}
use Rattle.spec_graph.specs.declared.graph.Head.{Head}
use Rattle.spec_graph.specs.declared.graph.Link.{Link}
use Rattle.spec_graph.specs.States.{ShareState}
use Rattle.spec_graph.specs.Laying.{Parsing, Lays}
use Rattle.spec_graph.specs.Links.{IsAt, IsWay, way_trees, IsGraph}
use Rattle.spec_graph.proofs.SightLemmas.{Facts}
use Rattle.spec_graph.proofs.LayLemmas.{IsBase, lays_read, extras_same}
use Rattle.spec_graph.proofs.GraphLemmas.{share_head, WayLaid, ways, extras_once}
use Rattle.spec_graph.proofs.OutcomeLemmas.{own_trees}
use Rattle.ts_places.specs.Ends.{Accepts}

-- ---- the trees of a way by what they are without their links

pub record Split (way : List Link) (xs : List Tree) (y : Tree) (ys : List Tree) : Type 0 where
  pub above : List Link
  pub root : Link
  pub below : List Link
  pub is : way ≡ above ++ root ∷ below
  pub above_are : map bare (way_trees above) ≡ xs
  pub root_is : bare root.tree ≡ y
  pub below_are : map bare (way_trees below) ≡ ys

pub split_way : (way : List Link) (xs : List Tree) (y : Tree) (ys : List Tree) → map bare (way_trees way) ≡ xs ++ y ∷ ys → Split way xs y ys
split_way [] [] y ys e = absurd (let h : [] ≡ y ∷ ys = e in cc)
split_way [] (x ∷ xs) y ys e = absurd (let h : [] ≡ x ∷ (xs ++ y ∷ ys) = e in cc)
split_way (l ∷ way) [] y ys e =
    let h : bare l.tree ∷ map bare (way_trees way) ≡ y ∷ ys = e in
    record {
      above = [];
      root = l;
      below = way;
      is = refl;
      above_are = refl;
      root_is = (let f : bare l.tree ≡ y = cc in f);
      below_are = (let f : map bare (way_trees way) ≡ ys = cc in f);
    }
split_way (l ∷ way) (x ∷ xs) y ys e =
    let h : bare l.tree ∷ map bare (way_trees way) ≡ x ∷ (xs ++ y ∷ ys) = e in
    let first : bare l.tree ≡ x = cc in
    let rest : map bare (way_trees way) ≡ xs ++ y ∷ ys = cc in
    let r = split_way way xs y ys rest in
    record {
      above = l ∷ r.above;
      root = r.root;
      below = r.below;
      is = ap (λ (w : List Link). l ∷ w) r.is;
      above_are = ap (λ (t : Tree). t ∷ map bare (way_trees r.above)) first ∙ ap (λ (ts : List Tree). x ∷ ts) r.above_are;
      root_is = r.root_is;
      below_are = r.below_are;
    }

module _ (P : Parsing) (facts : Facts P) (base : IsBase P) where
  -- ---- ways down from a head

  module _ (heads : List Head) (links : List Link) (graph : IsGraph P heads links) where
    -- what lies on a way from a head down to the empty stack is laid from the start
    pub way_laid : (way : List Link) (h place : ℕ) (read : List ℕ) → IsAt P heads h read place → IsWay links h way 0 → WayLaid P facts base heads 0 [] 0 (way_trees way) h place
    way_laid way h place read at is =
        ways P facts base heads links 0 [] 0 graph.start way (way_trees way) h place read at is
        (own_trees P facts base heads links graph way h 0 is)

    -- from a head that accepts, it is one tree that fills a step, and extras
    pub accepting_way : (way : List Link) (h : ℕ) → (a : Accepts P heads h) → IsWay links h way 0 → filling (way_trees way) ≡ start_symbol P.grammar ∷ []
    accepting_way way h a is =
        let w = way_laid way h a.place a.read a.at is in
        let own : w.now ≡ filling (way_trees way) = lays_read P facts [] 0 (way_trees way) a.place w.now w.lays ∙ append-nil (filling (way_trees way)) in
        let share : ShareState P.goto a.read w.now = share_head P facts heads h a.read w.now a.place a.place a.at w.at in
        let stays : Act P.grammar w.now a.symbol.0 accept = facts.states.acts a.read w.now a.symbol.0 accept share a.stays in
        sym own ∙ (facts.laws.runs.accepts P.grammar w.now a.symbol.0 stays).1

    -- extras from one head down to the empty stack are the same on each way
    pub same_below : (v w : List Link) (b place : ℕ) (read : List ℕ) → IsAt P heads b read place → IsWay links b v 0 → IsWay links b w 0 → AreExtras (way_trees v) → AreExtras (way_trees w) → way_trees v ≡ way_trees w
    same_below v w b place read at is_v is_w all_v all_w =
        let l = way_laid v b place read at is_v in
        let m = way_laid w b place read at is_w in
        let none_l : l.now ≡ [] = extras_same P facts base (way_trees v) [] 0 place l.now all_v l.lays in
        let none_m : m.now ≡ [] = extras_same P facts base (way_trees w) [] 0 place m.now all_w m.lays in
        extras_once P facts base (suc (length (way_trees v))) [] 0 (way_trees v) (way_trees w) place (omega arith)
        (subst (λ (r : List ℕ). Lays P [] 0 (way_trees v) place r) none_l l.lays) all_v (subst (λ (r : List ℕ). Lays P [] 0 (way_trees w) place r) none_m m.lays) all_w
