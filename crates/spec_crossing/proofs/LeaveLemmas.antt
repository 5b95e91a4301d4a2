-- Where one stack is left: it is reached, and runs that go past a place go through what its layers stand for.
use Rattle.std.proofs.Common.{◌≡◌, ◌∙◌, sym, ap, refl, subst, ℕ, ◌+◌, ◌-◌, ◌<◌, ◌≤◌, ◌⊎◌, inl, inr, false, true≢false, List, [], ◌∷◌, ◌++◌, append-nil, length, map, Option, Some, None, arith}
use lib.IntN.{ℤ, ◌+ℤ◌}
use Rattle.ts_core.specs.declared.flat.FlatGrammar.{FlatGrammar}
use Rattle.ts_core.specs.declared.flat.Production.{Production}
use Rattle.ts_core.specs.declared.symbol.Symbol.{Symbol}
use Rattle.spec_lexing.specs.Lexing.{token}
use Rattle.spec_tables.specs.Actions.{Act, shift}
use Rattle.spec_trees.specs.declared.tree.Tree.{Tree}
use Rattle.spec_trees.specs.declared.tree.Element.{Element}
use Rattle.spec_trees.specs.Trees.{production_of, is_extra_node, elements_of, children_of, total_of, all_totals, span_of, bare_element, bare}
use Rattle.spec_trees.specs.Made.{IsLeaf, element, Form, of_rule, of_first, of_next, form_of, made_by, value_of, reduced, filling}
use Rattle.spec_runs.specs.Configurations.{Configuration, token_tree, pushed}
use Rattle.spec_runs.specs.Runs.{StepsOn, shift_token, Run, run_here, run_on, IsReached}
use Rattle.spec_packing.specs.Laws.{RunLaws}
use Rattle.spec_packing.specs.Replacing.{AllReplace}
use Rattle.spec_packing.specs.Packing.{PackedStack, packed_trees, AllCover, Packs, WasMet, GoesThrough}
use Rattle.spec_packing.proofs.MadeLemmas.{over_says, CanMake, IsLawful, no_children, left_is}
use Rattle.spec_graph.specs.declared.graph.Head.{Head}
use Rattle.spec_graph.specs.declared.graph.Link.{Link}
use Rattle.spec_graph.specs.States.{ShareState, AreRanks}
use Rattle.spec_graph.specs.Laying.{Parsing, IsBegun, HasRun, IsReading, SeesAt, GoesOn, extra_tree, node_made, Lays, flat, stood, shifted, passed, made}
use Rattle.spec_graph.specs.Links.{IsAt, IsWay, way_trees, AllStandFor, IsLinked, IsGraph, IsWholeTo}
use Rattle.spec_graph.proofs.ReadingLemmas.{no_reading}
use Rattle.spec_graph.proofs.SightLemmas.{Facts, clash, sees_shared}
use Rattle.spec_graph.proofs.EntryLemmas.{token_says, extra_says, lawful_at}
use Rattle.spec_graph.proofs.LayLemmas.{IsBase, begins_taken, can_make, lays_read, lays_none, run_join}
use Rattle.spec_graph.proofs.GraphLemmas.{AreLaid, WayLaid, share_head, same_place, ways, way_reached}
use Rattle.spec_graph.proofs.BaseLemmas.{through_stack, through_run, through_reading, through_base, run_laid, within}
use Rattle.spec_graph.proofs.OutcomeLemmas.{own_trees}
use Rattle.spec_crossing.specs.Leaving.{EndsWithToken, StandsAlone, packed_link, way_stack, EndsBefore}
use Rattle.spec_crossing.proofs.BeforeLemmas.{IsBefore, begun_before, EndsEarly, GoesPast, run_before}
use Rattle.spec_crossing.proofs.EndLemmas.{way_of, ends_early}

-- ---- no node is a leaf

snoc_some : {X : Type 0} (xs : List X) (x : X) → xs ++ x ∷ [] ≡ [] → ⊥
snoc_some [] x e = cc
snoc_some (y ∷ xs) x e = let h : y ∷ (xs ++ x ∷ []) ≡ [] = e in cc

none_bared : (es : List Element) → map bare_element es ≡ [] → es ≡ []
none_bared [] e = refl
none_bared (x ∷ es) e = absurd (let h : bare_element x ∷ map bare_element es ≡ [] = e in cc)

module _ (g : FlatGrammar) (number left : ℕ) (p : Production) (lawful : IsLawful g number left p) (ks : List Tree) (can : CanMake g number left p ks) where
  no_leaf_by : (f : Form) (value : ℤ) → form_of g left number ≡ f → production_of (made_by f left number value 0 None ks) ≡ None → elements_of (made_by f left number value 0 None ks) ≡ [] → ⊥
  no_leaf_by of_rule value e none empty =
      let o = over_says left (Some number) (value +ℤ all_totals ks) [] ks in
      let h : ◌≡◌ {A = Option ℕ} (Some number) None = sym o.production_is ∙ none in cc
  no_leaf_by (of_first a) value e none empty =
      let o = over_says left None (value +ℤ all_totals ks) (element a (length ks) value 0 ∷ []) ks in
      let h : element a (length ks) value 0 ∷ [] ≡ [] = sym o.elements_is ∙ empty in cc
  no_leaf_by (of_next a) value e none empty = by ks refl
    where
      by : (us : List Tree) → ks ≡ us → ⊥
      by [] is = no_children g number left p lawful a e (subst (λ (l : List Tree). CanMake g number left p l) is can)
      by (u ∷ us) is =
          let o = over_says left None (value +ℤ (total_of u +ℤ all_totals us)) (elements_of u ++ element a (length us) value (0 - span_of u) ∷ []) (children_of u ++ us) in
          snoc_some (elements_of u) (element a (length us) value (0 - span_of u))
          (sym o.elements_is ∙ subst (λ (l : List Tree). elements_of (made_by (of_next a) left number value 0 None l) ≡ []) is empty)

  no_leaf : RunLaws → IsLeaf (bare (reduced g number 0 None ks)) → ⊥
  no_leaf laws leaf =
      let k = laws.keeps (reduced g number 0 None ks) in
      let none : production_of (reduced g number 0 None ks) ≡ None = sym k.production ∙ leaf.production in
      let empty : elements_of (reduced g number 0 None ks) ≡ [] = none_bared (elements_of (reduced g number 0 None ks)) (sym k.elements ∙ leaf.elements) in
      no_leaf_by (form_of g left number) (value_of g number) refl
      (subst (λ (s : ℕ). production_of (made_by (form_of g s number) s number (value_of g number) 0 None ks) ≡ None) (left_is g number left p lawful can.at) none)
      (subst (λ (s : ℕ). elements_of (made_by (form_of g s number) s number (value_of g number) 0 None ks) ≡ []) (left_is g number left p lawful can.at) empty)

-- ---- a leaf that is no extra was shifted

pub record IsShifted (P : Parsing) (γ : List ℕ) (q : ℕ) (t : Tree) (p : ℕ) : Type 0 where
  pub symbol : Symbol
  pub pad : ℕ
  pub size : ℕ
  pub sees : SeesAt P γ q (token symbol pad size)
  pub acts : Act P.grammar γ symbol.0 shift
  pub tree_is : t ≡ token_tree symbol pad size
  pub ends : p ≡ q + (pad + size)

leaf_shifted : (P : Parsing) (facts : Facts P) (base : IsBase P) → P.layers ≡ [] → (γ : List ℕ) (q : ℕ) (w : List Tree) (t : Tree) (p : ℕ) (δ : List ℕ) → Lays P γ q w p δ → w ≡ t ∷ [] → is_extra_node t ≡ false → IsLeaf t → IsShifted P γ q t p
leaf_shifted P facts base fresh γ q _ t _ _ (flat _ _) is fills leaf = absurd (let h : [] ≡ t ∷ [] = is in cc)
leaf_shifted P facts base fresh γ q _ t _ _ (stood _ _ w p δ u above below l at place share) is fills leaf = absurd (no_reading P fresh above below u at)
leaf_shifted P facts base fresh γ q _ t _ _ (shifted _ _ w p δ s pad size l late sees acts) is fills leaf =
    let same : token_tree s pad size ≡ t = cc in
    let none : w ≡ [] = cc in
    let h = lays_none P facts base γ q w p δ l none in
    record {
      symbol = s;
      pad = pad;
      size = size;
      sees = subst (λ (m : ℕ). SeesAt P γ m (token s pad size)) h.0 (subst (λ (r : List ℕ). SeesAt P r p (token s pad size)) h.1 sees);
      acts = subst (λ (r : List ℕ). Act P.grammar r s.0 shift) h.1 acts;
      tree_is = sym same;
      ends = let e = h.0 in omega (arith, e);
    }
leaf_shifted P facts base fresh γ q _ t _ _ (passed _ _ w p δ s pad size l late passes) is fills leaf =
    let same : extra_tree s pad size ≡ t = cc in
    absurd (true≢false (sym (extra_says facts.laws.runs s pad size).kind ∙ ap is_extra_node same ∙ fills))
leaf_shifted P facts base fresh γ q _ t _ _ (made _ _ w p δ ks end ε xs look number left pr l inner outer all late taken folds count deep) is fills leaf =
    let same : node_made P number ks ≡ t = cc in
    absurd (no_leaf P.grammar number left pr (lawful_at P facts number left pr folds.at) ks
    (can_make P facts base δ p ks end ε look number left pr inner (begins_taken P facts ks w γ q taken) folds count)
    facts.laws.runs (subst (λ (x : Tree). IsLeaf x) (sym same) leaf))

-- ---- the stack that is left is reached

module _ (P : Parsing) (facts : Facts P) (base : IsBase P) (fresh : P.layers ≡ []) (zero_place : P.place ≡ 0) (heads : List Head) (links : List Link) (graph : IsGraph P heads links) (h place : ℕ) (read : List ℕ) (way : List Link)
    (at : IsAt P heads h read place) (leads : IsWay links h way 0) (ends : EndsWithToken way) where
  pub down : IsWay links h (ends.last ∷ ends.rest) 0
  down = subst (λ (w : List Link). IsWay links h w 0) ends.way_is leads

  pub linked : IsLinked P heads ends.last
  linked = graph.linked ends.last down.0

  pub leaf : IsShifted P linked.under linked.from ends.last.tree linked.to
  leaf = leaf_shifted P facts base fresh linked.under linked.from (ends.last.tree ∷ []) ends.last.tree linked.to linked.over linked.lays refl ends.fills ends.leaf

  place_is : linked.from + span_of (token_tree leaf.symbol leaf.pad leaf.size) ≡ place
  place_is =
      let says = token_says facts.laws.runs leaf.symbol leaf.pad leaf.size in
      let to : linked.to ≡ place = same_place P facts heads h linked.over read linked.to place (subst (λ (n : ℕ). IsAt P heads n linked.over linked.to) down.1 linked.above) at in
      omega (arith, says.pad, says.size, leaf.ends, to)

  -- the topmost tree behind any that are laid along the rest of the way
  module _ (ts : List Tree) (laid : AreLaid P facts base heads ends.rest ts) where
    tail : WayLaid P facts base heads 0 [] 0 ts ends.last.below linked.from
    tail = ways P facts base heads links 0 [] 0 graph.start ends.rest ts ends.last.below linked.from linked.under linked.below down.2 laid

    share : ShareState P.goto linked.under tail.now
    share = share_head P facts heads ends.last.below linked.under tail.now linked.from linked.from linked.below tail.at

    sees : SeesAt P tail.now linked.from (token leaf.symbol leaf.pad leaf.size)
    sees = sees_shared P facts linked.under tail.now share linked.from (token leaf.symbol leaf.pad leaf.size) leaf.sees

    acts : Act P.grammar tail.now leaf.symbol.0 shift
    acts = facts.states.acts linked.under tail.now leaf.symbol.0 shift share leaf.acts

    goes : GoesOn P tail.now linked.from
    goes = record { symbol = leaf.symbol; pad = leaf.pad; size = leaf.size; sees = sees; moves = (shift, acts) }

    abbrev before : Configuration
    before = record { stack = ts; place = linked.from }

    abbrev shifted_tree : Tree
    shifted_tree = token_tree leaf.symbol leaf.pad leaf.size

    tail_reached : IsReached P.grammar P.text before
    tail_reached = way_reached P facts base fresh zero_place heads ts ends.last.below linked.from tail
        (λ s pad size p. clash P facts tail.now linked.from s pad size goes p)

    tail_read : tail.now ≡ filling ts
    tail_read = lays_read P facts [] 0 ts linked.from tail.now tail.lays ∙ append-nil (filling ts)

    stepped : StepsOn P.grammar P.text before (pushed before shifted_tree)
    stepped = shift_token leaf.symbol leaf.pad leaf.size
        (subst (λ (r : List ℕ). SeesAt P r linked.from (token leaf.symbol leaf.pad leaf.size)) tail_read sees)
        (subst (λ (r : List ℕ). Act P.grammar r leaf.symbol.0 shift) tail_read acts)

    config_is : pushed before shifted_tree ≡ record { stack = ends.last.tree ∷ ts; place = place }
    config_is =
        ap (λ (m : ℕ). pair (shifted_tree ∷ ts) m) place_is
        ∙ ap (λ (t : Tree). pair (t ∷ ts) place) (sym leaf.tree_is)
      where
        pair : List Tree → ℕ → Configuration
        pair stack m = record { stack = stack; place = m }

    pub left_laid : IsReached P.grammar P.text (record { stack = ends.last.tree ∷ ts; place = place })
    left_laid = subst (λ (c : Configuration). IsReached P.grammar P.text c) config_is
        (run_join P facts _ before (pushed before shifted_tree) tail_reached
        (run_on before (pushed before shifted_tree) (pushed before shifted_tree) stepped (run_here (pushed before shifted_tree))))

  pub left_reached : IsReached P.grammar P.text (record { stack = way_trees way; place = place })
  left_reached = subst (λ (w : List Link). IsReached P.grammar P.text (record { stack = way_trees w; place = place })) (sym ends.way_is)
      (left_laid (way_trees ends.rest) (own_trees P facts base heads links graph ends.rest ends.last.below 0 down.2))

-- ---- what runs come to

-- the layers of links cover all for which the links stand, and their trees may take the place of it
links_cover : (way : List Link) (ts : List Tree) → AllStandFor way ts → AllCover (map packed_link way) ts
links_cover [] [] a = tt
links_cover [] (t ∷ ts) a = absurd a
links_cover (l ∷ way) [] a = absurd a
links_cover (l ∷ way) (t ∷ ts) a = (
  record { symbol = a.0.tree.symbol; extra = a.0.tree.extra; pad = a.0.tree.pad; size = a.0.tree.size; depth = a.0.depth },
  links_cover way ts a.1,
)

links_replace : (way : List Link) (ts : List Tree) → AllStandFor way ts → AllReplace (packed_trees (map packed_link way)) ts
links_replace [] [] a = tt
links_replace [] (t ∷ ts) a = absurd a
links_replace (l ∷ way) [] a = absurd a
links_replace (l ∷ way) (t ∷ ts) a = (
  record {
    symbol = a.0.tree.symbol;
    extra = a.0.tree.extra;
    pad = a.0.tree.pad;
    size = a.0.tree.size;
    no_better = a.0.tree.no_better;
  },
  links_replace way ts a.1,
)

module _ (P : Parsing) (facts : Facts P) (base : IsBase P) (stack : List Tree) (r : IsReading P stack) (begins : HasRun P stack) (rank : ℕ → ℕ) (most : ℕ) (ranked : AreRanks P.grammar rank most)
    (heads : List Head) (links : List Link) (graph : IsGraph P heads links) (n : ℕ) (whole : IsWholeTo P rank heads links (record { look = n; begins = n; rank = most })) (early : begins.config.place < n) where
  runs_on : (d : Configuration) → Run P.grammar P.text begins.config d → EndsEarly P facts base rank most ranked n d ⊎ GoesPast P facts base rank most ranked n begins.config d
  runs_on d run = run_before P facts base rank most ranked n begins.config d
      (begun_before P facts base rank most ranked n stack r begins (omega (arith, early)))
      ((run_laid P facts base stack r begins begins.config (run_here begins.config)).1) early run

  -- where the place is past the text, all ends are in the graph
  ends_all : length P.text < n → P.place ≤ length P.text → (d : Configuration) → Run P.grammar P.text begins.config d → EndsBefore P heads links n d
  ends_all last inside d run = by (runs_on d run)
    where
      by : EndsEarly P facts base rank most ranked n d ⊎ GoesPast P facts base rank most ranked n begins.config d → EndsBefore P heads links n d
      by (inl ends) = ends_early P facts base rank most ranked n heads links graph whole d ends
      by (inr past) = absurd (too_far past)
        where
          too_far : GoesPast P facts base rank most ranked n begins.config d → ⊥
          too_far past =
              let laid = run_laid P facts base stack r begins past.at past.to in
              let le = within P facts base [] 0 past.at.stack past.at.place (filling past.at.stack) (omega arith) inside laid.0 in
              let far = past.past in
              omega (arith, le, far, last)

  -- each configuration past the place is one for which the layers of the only way stand
  module _ (h place : ℕ) (read : List ℕ) (way : List Link) (at : IsAt P heads h read place) (alone : StandsAlone heads n h) (only : (other : List Link) → IsWay links h other 0 → other ≡ way) where
    past_packed : (e : Configuration) → IsBefore P facts base rank most ranked n e → n ≤ e.place → Packs (way_stack way place) e
    past_packed e before past =
        let w = way_of P facts base rank most ranked n heads links graph whole e before in
        let place_at : w.at.head.place ≡ e.place = w.at.place_is in
        let same : w.head ≡ h = alone w.head w.at.head w.at.is (omega (arith, past, place_at)) in
        let top : IsAt P heads h (filling e.stack) e.place = subst (λ (k : ℕ). IsAt P heads k (filling e.stack) e.place) same w.at in
        let down : IsWay links h w.way 0 = subst (λ (k : ℕ). IsWay links k w.way 0) same w.is in
        let stands : AllStandFor way e.stack = subst (λ (v : List Link). AllStandFor v e.stack) (only w.way down) w.stands in
        record {
          covers = record { place = same_place P facts heads h read (filling e.stack) place e.place at top; stack = links_cover way e.stack stands };
          trees = links_replace way e.stack stands;
        }

    run_through : (d : Configuration) → Run P.grammar P.text begins.config d → EndsBefore P heads links n d ⊎ GoesThrough P.grammar P.text (way_stack way place) d
    run_through d run = by (runs_on d run)
      where
        by : EndsEarly P facts base rank most ranked n d ⊎ GoesPast P facts base rank most ranked n begins.config d → EndsBefore P heads links n d ⊎ GoesThrough P.grammar P.text (way_stack way place) d
        by (inl e) = inl (ends_early P facts base rank most ranked n heads links graph whole d e)
        by (inr past) = inr (record { from = past.at; reached = run_join P facts _ begins.config past.at begins.reached past.to; stands = past_packed past.at past.before past.past; run = past.on })

-- the same of runs that go through what a stack of layers stands for
module _ (P : Parsing) (facts : Facts P) (k : PackedStack) (begun : IsBegun P k) (met : WasMet P.grammar P.text k) (rank : ℕ → ℕ) (most : ℕ) (ranked : AreRanks P.grammar rank most)
    (heads : List Head) (links : List Link) (graph : IsGraph P heads links) (n : ℕ) (whole : IsWholeTo P rank heads links (record { look = n; begins = n; rank = most })) (early : k.place < n) where
  begins_early : (d : Configuration) → (w : GoesThrough P.grammar P.text k d) → w.from.place < n
  begins_early d w = let same = w.stands.covers.place in omega (arith, early, same)

  pub ends_through : length P.text < n → P.place ≤ length P.text → (d : Configuration) → GoesThrough P.grammar P.text k d → EndsBefore P heads links n d
  ends_through last inside d w = ends_all P facts (through_base P facts k begun met d w) (through_stack P facts k begun met d w) (through_reading P facts k begun met d w) (through_run P facts k begun met d w) rank most ranked heads links graph n whole (begins_early d w) last inside d w.run

  pub left_through : (h place : ℕ) (read : List ℕ) (way : List Link) → IsAt P heads h read place → StandsAlone heads n h → ((other : List Link) → IsWay links h other 0 → other ≡ way)
      → (d : Configuration) → GoesThrough P.grammar P.text k d → EndsBefore P heads links n d ⊎ GoesThrough P.grammar P.text (way_stack way place) d
  left_through h place read way at alone only d w =
      run_through P facts (through_base P facts k begun met d w) (through_stack P facts k begun met d w) (through_reading P facts k begun met d w) (through_run P facts k begun met d w) rank most ranked heads links graph n whole (begins_early d w) h place read way at alone only d w.run
