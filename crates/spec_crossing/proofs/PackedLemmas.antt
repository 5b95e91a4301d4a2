-- Where one stack is left: its layers were met.
use Rattle.std.proofs.Common.{◌≡◌, ◌∙◌, sym, ap, refl, subst, ℕ, ◌≤◌, false, true≢false, List, [], ◌∷◌, map, slice_get, Some, arith}
use Rattle.ts_core.specs.declared.flat.FlatGrammar.{FlatGrammar}
use Rattle.ts_core.specs.declared.flat.Production.{Production}
use Rattle.spec_grammar.specs.Symbols.{start_symbol, production_at}
use Rattle.spec_tables.specs.Items.{IsToken}
use Rattle.spec_trees.specs.declared.tree.Tree.{Tree}
use Rattle.spec_trees.specs.Trees.{symbol_of, is_extra_node, tree_depth}
use Rattle.spec_runs.specs.Configurations.{Configuration}
use Rattle.spec_runs.specs.Runs.{IsReached}
use Rattle.spec_runs.proofs.RuleLemmas.{from_rule}
use Rattle.spec_packing.specs.Packing.{packed_trees, packed_depths, AllCover, WasMet}
use Rattle.spec_graph.specs.declared.graph.Head.{Head}
use Rattle.spec_graph.specs.declared.graph.Link.{Link}
use Rattle.spec_graph.specs.Laying.{Parsing, from_start, IsMet, node_made, Lays, flat, stood, shifted, passed, made}
use Rattle.spec_graph.specs.Links.{IsAt, IsWay, way_trees, depths_of, IsLinked, IsGraph}
use Rattle.spec_graph.proofs.ReadingLemmas.{no_reading}
use Rattle.spec_graph.proofs.SightLemmas.{Facts}
use Rattle.spec_graph.proofs.EntryLemmas.{token_says, extra_says, symbol_is}
use Rattle.spec_graph.proofs.LayLemmas.{IsBase}
use Rattle.spec_graph.proofs.GraphLemmas.{AreLaid, like}
use Rattle.spec_graph.proofs.BaseLemmas.{start_facts, start_base}
use Rattle.spec_graph.proofs.GroundLemmas.{start_met, graph_start}
use Rattle.spec_crossing.specs.Leaving.{EndsWithToken, packed_link, way_stack}
use Rattle.spec_crossing.proofs.LeaveLemmas.{down, linked, leaf, left_laid, left_reached}

-- ---- the layers of a way

trees_are : (way : List Link) → packed_trees (map packed_link way) ≡ way_trees way
trees_are [] = refl
trees_are (l ∷ way) = ap (λ (ts : List Tree). l.tree ∷ ts) (trees_are way)

depths_are : (way : List Link) → packed_depths (map packed_link way) ≡ depths_of way
depths_are [] = refl
depths_are (l ∷ way) = ap (λ (ds : List ℕ). l.depth ∷ ds) (depths_are way)

-- ---- a token is no node

rule_is_high : (g : FlatGrammar) (number left : ℕ) (p : Production) → production_at g number ≡ Some (left, p) → start_symbol g ≤ left
rule_is_high g number left p at = let f = from_rule (start_symbol g) g.rules number left p at in omega (arith, f.left_is)

-- what is laid alone with the symbol of a token, and is no extra, is flat
token_flat : (P : Parsing) (facts : Facts P) (base : IsBase P) → P.layers ≡ [] → (γ : List ℕ) (q : ℕ) (w : List Tree) (t : Tree) (p : ℕ) (δ : List ℕ) → Lays P γ q w p δ → w ≡ t ∷ [] → is_extra_node t ≡ false → IsToken P.grammar (symbol_of t) → tree_depth t ≡ 1
token_flat P facts base fresh γ q _ t _ _ (flat _ _) is fills low = absurd (let h : [] ≡ t ∷ [] = is in cc)
token_flat P facts base fresh γ q _ t _ _ (stood _ _ w p δ u above below l at place share) is fills low = absurd (no_reading P fresh above below u at)
token_flat P facts base fresh γ q _ t _ _ (shifted _ _ w p δ s pad size l late sees acts) is fills low =
    let same : _ ≡ t = cc in
    sym (ap tree_depth same) ∙ (token_says facts.laws.runs s pad size).depth
token_flat P facts base fresh γ q _ t _ _ (passed _ _ w p δ s pad size l late passes) is fills low =
    let same : _ ≡ t = cc in
    absurd (true≢false (sym (extra_says facts.laws.runs s pad size).kind ∙ ap is_extra_node same ∙ fills))
token_flat P facts base fresh γ q _ t _ _ (made _ _ w p δ ks end ε xs look number left pr l inner outer all late taken folds count deep) is fills low =
    let same : node_made P number ks ≡ t = cc in
    let name : left ≡ symbol_of t = sym (symbol_is P facts number left pr ks folds.at) ∙ ap symbol_of same in
    let high = rule_is_high P.grammar number left pr folds.at in
    absurd (omega (arith, name, high, low.1))

-- ---- the layers were met

module _ (P : Parsing) (facts : Facts P) (met : IsMet P) (heads : List Head) (links : List Link) (graph : IsGraph P heads links) where
  abbrev S : Parsing
  S = from_start P

  abbrev sf : Facts S
  sf = start_facts P facts

  abbrev sb : IsBase S
  sb = start_base P facts

  abbrev whole_graph : IsGraph S heads links
  whole_graph = graph_start P facts met heads links graph

  -- the empty stack was met
  from_there : IsMet S
  from_there = start_met S sf refl refl

  own_cover : (way : List Link) (h b : ℕ) → IsWay links h way b → AllCover (map packed_link way) (packed_trees (map packed_link way))
  own_cover [] h b is = tt
  own_cover (l ∷ way) h b is = (
    record { symbol = refl; extra = refl; pad = refl; size = refl; depth = (graph.linked l is.0).shallow },
    own_cover way l.below b is.2,
  )

  -- trees of the depths of a way, which its layers cover
  record DeepWay (way : List Link) : Type 0 where
    pub trees : List Tree
    pub laid : AreLaid S sf sb heads way trees
    pub depths : map tree_depth trees ≡ depths_of way
    pub cover : AllCover (map packed_link way) trees

  deep_way : (way : List Link) (h b : ℕ) → IsWay links h way b → DeepWay way
  deep_way [] h b is = record { trees = []; laid = tt; depths = refl; cover = tt }
  deep_way (l ∷ way) h b is =
      let k = whole_graph.linked l is.0 in
      let rest = deep_way way l.below b is.2 in
      let u = k.deepest from_there in
      let t = u.0 in
      let same = like S sf sb heads l.below l.above k.under k.over k.under k.over k.from k.to t l.tree k.below k.above k.below k.above u.1 k.lays in
      record {
        trees = t ∷ rest.trees;
        laid = (
          record { under = k.under; over = k.over; from = k.from; to = k.to; below = k.below; above = k.above; lays = u.1 },
          rest.laid,
        );
        depths = both (tree_depth t) l.depth (map tree_depth rest.trees) (depths_of way) u.2 rest.depths;
        cover = (
          record {
            symbol = sym same.symbol;
            extra = sym same.extra;
            pad = sym same.pad;
            size = sym same.size;
            depth = let d = u.2 in omega (arith, d);
          },
          rest.cover,
        );
      }
    where
      both : (a b : ℕ) (xs ys : List ℕ) → a ≡ b → xs ≡ ys → a ∷ xs ≡ b ∷ ys
      both a b xs ys e f = cc

  module _ (h place : ℕ) (read : List ℕ) (way : List Link) (at : IsAt P heads h read place) (leads : IsWay links h way 0) (ends : EndsWithToken way) where
    abbrev top : Link
    top = ends.last

    top_linked : IsLinked S heads top
    top_linked = linked S sf sb refl refl heads links whole_graph h place read way at leads ends

    rest_leads : IsWay links top.below ends.rest 0
    rest_leads = (down S sf sb refl refl heads links whole_graph h place read way at leads ends).2

    -- the topmost link stands for a token alone
    top_flat : tree_depth top.tree ≡ top.depth
    unfolding top_linked
    top_flat =
        let k = top_linked in
        let s = leaf S sf sb refl refl heads links whole_graph h place read way at leads ends in
        let u = k.deepest from_there in
        let t = u.0 in
        let same = like S sf sb heads top.below top.above k.under k.over k.under k.over k.from k.to t top.tree k.below k.above k.below k.above u.1 k.lays in
        let says = token_says facts.laws.runs s.symbol s.pad s.size in
        let name : s.symbol.0 ≡ symbol_of t = sym says.symbol ∙ sym (ap symbol_of s.tree_is) ∙ sym same.symbol in
        let low : IsToken P.grammar (symbol_of t) = subst (λ (n : ℕ). IsToken P.grammar n) name (facts.laws.runs.shifts P.grammar k.under s.symbol.0 s.acts).0 in
        let one : tree_depth t ≡ 1 = token_flat S sf sb refl k.under k.from (t ∷ []) t k.to k.over u.1 refl (same.extra ∙ ends.fills) low in
        ap tree_depth s.tree_is ∙ says.depth ∙ sym one ∙ u.2

    deep : DeepWay ends.rest
    deep = deep_way ends.rest top.below 0 rest_leads

    abbrev deep_config : Configuration
    deep_config = record { stack = top.tree ∷ deep.trees; place = place }

    deep_cover : AllCover (map packed_link way) (top.tree ∷ deep.trees)
    deep_cover = subst (λ (w : List Link). AllCover (map packed_link w) (top.tree ∷ deep.trees)) (sym ends.way_is)
        (record { symbol = refl; extra = refl; pad = refl; size = refl; depth = top_linked.shallow }, deep.cover)

    deep_depths : packed_depths (map packed_link way) ≡ map tree_depth (top.tree ∷ deep.trees)
    deep_depths =
        ap (λ (w : List Link). packed_depths (map packed_link w)) ends.way_is
        ∙ depths_are (top ∷ ends.rest)
        ∙ ap (λ (ds : List ℕ). top.depth ∷ ds) (sym deep.depths)
        ∙ ap (λ (d : ℕ). d ∷ map tree_depth deep.trees) (sym top_flat)

    pub left_met : WasMet P.grammar P.text (way_stack way place)
    left_met = record {
      reached = subst (λ (ts : List Tree). IsReached P.grammar P.text (record { stack = ts; place = place })) (sym (trees_are way))
          (left_reached S sf sb refl refl heads links whole_graph h place read way at leads ends);
      own = record { place = refl; stack = own_cover way h 0 leads };
      deepest = λ n d is. (
        deep_config,
        left_laid S sf sb refl refl heads links whole_graph h place read way at leads ends deep.trees deep.laid,
        record { place = refl; stack = deep_cover },
        subst (λ (ds : List ℕ). slice_get ds n ≡ Some d) deep_depths is,
      );
    }
