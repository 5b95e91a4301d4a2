-- A graph that is whole up to a key is whole up to the next one, once all reductions of the key are done.
use Rattle.std.proofs.Common.{◌≡◌, ◌∙◌, sym, ap, refl, subst, ℕ, zero, suc, ◌+◌, ◌<◌, ◌≤◌, ◌⊎◌, inl, inr, ⊎_elim, List, [], ◌∷◌, ◌++◌, length, reverse, map, None, arith}
use Rattle.std.specs.List.{Contains}
use Rattle.std.proofs.lemmas.Bool.{cases_order}
use Rattle.std.proofs.lemmas.List.{reverse-append, reverse-reverse, length-reverse}
use Rattle.ts_core.specs.declared.flat.Production.{Production}
use Rattle.ts_core.specs.declared.symbol.Symbol.{Symbol}
use Rattle.spec_lexing.specs.Lexing.{token}
use Rattle.spec_tables.specs.Actions.{Act, shift}
use Rattle.spec_trees.specs.declared.tree.Tree.{Tree}
use Rattle.spec_trees.specs.Trees.{span_of, all_spans, tree_depth}
use Rattle.spec_trees.specs.Made.{form_of, reduced, filling, BeginsFilled, most_depth}
use Rattle.spec_runs.specs.Configurations.{token_tree}
use Rattle.spec_packing.proofs.MadeLemmas.{IsMade, AllMade, CanMake}
use Rattle.spec_graph.specs.declared.graph.Head.{Head}
use Rattle.spec_graph.specs.declared.graph.Link.{Link}
use Rattle.spec_graph.specs.States.{ShareState, AreRanks}
use Rattle.spec_graph.specs.Laying.{Parsing, IsReading, SeesAt, PassesAt, extra_tree, node_made, Taken, some, nothing, Lays, CanMakeNode}
use Rattle.spec_graph.specs.Replacing.{Replaces, AllReplace}
use Rattle.spec_graph.specs.Keys.{Key, Earlier, IsKey, IsNextKey, LaysBefore, flat_before, stood_before, shifted_before, passed_before, made_before}
use Rattle.spec_graph.specs.Links.{IsAt, IsWay, way_trees, depths_of, AllStandFor, HasLink, IsWholeTo, HasNoneDue, way_depth, AreDone, HasGrown, AreAdded, IsOpened, HasStood}
use Rattle.spec_graph.proofs.ReadingLemmas.{cover_filling, cover_spans, cover_span, reading_layer}
use Rattle.spec_graph.proofs.SightLemmas.{Facts}
use Rattle.spec_graph.proofs.EntryLemmas.{node_tells, lawful_at, filling_turned, all_made_turned}
use Rattle.spec_graph.proofs.ReplaceLemmas.{replaces_chain, replaces_bare, all_turned, same_symbols, same_extras, same_begins, same_length, AllDeeper, deeper_over, deeper_turned}
use Rattle.spec_graph.proofs.NodeLemmas.{replaces_reduced}
use Rattle.spec_graph.proofs.LayLemmas.{IsBase, can_make, begins_taken, grows, lays_none, order_cases}
use Rattle.spec_graph.proofs.OrderLemmas.{before_lays, order_inner, order_outer}
use Rattle.spec_graph.proofs.GraphLemmas.{has_way, at_place}

-- ---- what stands for trees

pub stand_replace : (way : List Link) (ts : List Tree) → AllStandFor way ts → AllReplace (way_trees way) ts
stand_replace [] [] a = tt
stand_replace [] (t ∷ ts) a = absurd a
stand_replace (l ∷ way) [] a = absurd a
stand_replace (l ∷ way) (t ∷ ts) a = (a.0.tree, stand_replace way ts a.1)

pub stand_deeper : (way : List Link) (ts : List Tree) → AllStandFor way ts → AllDeeper (depths_of way) (map tree_depth ts)
stand_deeper [] [] a = tt
stand_deeper [] (t ∷ ts) a = absurd a
stand_deeper (l ∷ way) [] a = absurd a
stand_deeper (l ∷ way) (t ∷ ts) a = (a.0.depth, stand_deeper way ts a.1)

-- the trees of a way are made well where those of all links are
pub way_all_made : (P : Parsing) (links : List Link) → ((l : Link) → Contains links l → IsMade P.grammar l.tree) → (way : List Link) (h b : ℕ) → IsWay links h way b → AllMade P.grammar (way_trees way)
way_all_made P links sound [] h b is = tt
way_all_made P links sound (l ∷ way) h b is = (sound l is.0, way_all_made P links sound way l.below b is.2)

pub map_turned : (ts : List Tree) → map tree_depth (reverse ts) ≡ reverse (map tree_depth ts)
map_turned [] = refl
map_turned (t ∷ ts) =
    ap (map tree_depth) (reverse-append (t ∷ []) ts) ∙ map_over (reverse ts) (t ∷ [])
    ∙ ap (λ (l : List ℕ). l ++ tree_depth t ∷ []) (map_turned ts) ∙ sym (reverse-append (tree_depth t ∷ []) (map tree_depth ts))
  where
    map_over : (xs ys : List Tree) → map tree_depth (xs ++ ys) ≡ map tree_depth xs ++ map tree_depth ys
    map_over [] ys = refl
    map_over (x ∷ xs) ys = ap (λ (l : List ℕ). tree_depth x ∷ l) (map_over xs ys)

-- the link of a layer stands for the tree in its place in each reading
stood_link : (P : Parsing) (heads : List Head) (links : List Link) → HasStood P heads links → (b : ℕ) (read : List ℕ) (place : ℕ) (t : Tree) (above below : List Tree) → IsAt P heads b read place → IsReading P (above ++ t ∷ below) → place ≡ all_spans below → ShareState P.goto (filling below) read
    → HasLink P heads links b t (place + span_of t) (filling (t ∷ []) ++ read)
stood_link P heads links stands b read place t above below at r place_is share =
    let f = reading_layer P above below t r in
    let l = f.layer in
    let h = stands.each b read place l f.over f.under at f.is (place_is ∙ sym (cover_spans f.under below f.rest)) (subst (λ (s : List ℕ). ShareState P.goto s read) (sym (cover_filling f.under below f.rest)) share) in
    let fills : filling (l.tree ∷ []) ≡ filling (t ∷ []) = cover_filling (l ∷ []) (t ∷ []) (f.covers, tt) in
    record {
      link = h.link;
      there = h.there;
      below = h.below;
      above = subst (λ (s : List ℕ). IsAt P heads h.link.above (s ++ read) (place + span_of t)) fills (subst (λ (n : ℕ). IsAt P heads h.link.above (filling (l.tree ∷ []) ++ read) (place + n)) (cover_span l t f.covers) h.above);
      stands = record {
        tree = replaces_chain h.link.tree l.tree t h.tree f.replaces;
        depth = let d = h.depth in let e = f.covers.depth in omega (arith, d, e);
      };
    }

module _ (P : Parsing) (facts : Facts P) (base : IsBase P) (rank : ℕ → ℕ) (most : ℕ) (ranked : AreRanks P.grammar rank most) where
  -- a node over a way may replace the node over what the way stands for
  pub node_replaces : (number left : ℕ) (p : Production) (way : List Link) (ks : List Tree) → CanMake P.grammar number left p (reverse (way_trees way)) → CanMake P.grammar number left p ks → AllStandFor way (reverse ks) → Replaces (node_made P number (reverse (way_trees way))) (node_made P number ks)
  node_replaces number left p way ks c d a =
      let ts : List Tree = reverse (way_trees way) in
      let turned : AllReplace ts ks = subst (λ (l : List Tree). AllReplace ts l) (reverse-reverse ks) (all_turned (way_trees way) (reverse ks) (stand_replace way (reverse ks) a)) in
      replaces_bare (reduced P.grammar number 0 None ts) (reduced P.grammar number 0 None ks) (facts.laws.runs.keeps (reduced P.grammar number 0 None ts)) (facts.laws.runs.keeps (reduced P.grammar number 0 None ks))
      (replaces_reduced P.grammar number left p (lawful_at P facts number left p d.at) ts ks c d turned)

  -- and its depth is no more than the links say
  pub node_shallower : (number left : ℕ) (p : Production) (way : List Link) (ks : List Tree) → CanMake P.grammar number left p ks → AllStandFor way (reverse ks) → tree_depth (node_made P number ks) ≤ way_depth P number left way
  node_shallower number left p way ks d a =
      let deeper = deeper_turned (depths_of way) (map tree_depth (reverse ks)) (stand_deeper way (reverse ks) a) in
      let turned : reverse (map tree_depth (reverse ks)) ≡ map tree_depth ks = ap (λ (l : List ℕ). reverse l) (map_turned ks) ∙ reverse-reverse (map tree_depth ks) in
      let less = deeper_over (form_of P.grammar left number) (reverse (depths_of way)) (map tree_depth ks) (subst (λ (l : List ℕ). AllDeeper (reverse (depths_of way)) l) turned deeper) in
      let n = node_tells P facts number left p ks d in
      omega (arith, less, n.depth)

  -- ---- one key after the other

  taken_same : (way : List Link) (ks : List Tree) (δ : List ℕ) (p : ℕ) → AllReplace (way_trees way) (reverse ks) → Taken ks [] δ p → Taken (reverse (way_trees way)) [] δ p
  taken_same way ks δ p a (nothing none low read place) =
      let n : length (way_trees way) ≡ 0 = same_length (way_trees way) (reverse ks) a ∙ ap (λ (l : List Tree). length (reverse l)) none in
      nothing (ap (λ (l : List Tree). reverse l) (empty (way_trees way) n)) low read place
    where
      empty : (ts : List Tree) → length ts ≡ 0 → ts ≡ []
      empty [] e = refl
      empty (t ∷ ts) e = absurd (omega (arith, e))
  taken_same way ks δ p a (some lt begins ends) =
      let turned : AllReplace (reverse (way_trees way)) ks = subst (λ (l : List Tree). AllReplace (reverse (way_trees way)) l) (reverse-reverse ks) (all_turned (way_trees way) (reverse ks) a) in
      let n : length (reverse (way_trees way)) ≡ length ks = same_length (reverse (way_trees way)) ks turned in
      some (omega (arith, lt, n)) (same_begins (reverse (way_trees way)) ks turned begins)
      (subst (λ (l : List Tree). BeginsFilled l) (sym (reverse-reverse (way_trees way))) (same_begins (way_trees way) (reverse ks) a ends))

  module _ (heads : List Head) (links : List Link) (heads' : List Head) (links' : List Link) (k m : Key) (whole : IsWholeTo P rank heads links k) (done : AreDone P rank heads links heads' links' k)
      (sound : (l : Link) → Contains links l → IsMade P.grammar l.tree) where
    way_made : (way : List Link) (h b : ℕ) → IsWay links h way b → AllMade P.grammar (way_trees way)
    way_made way h b is = way_all_made P links sound way h b is

    -- what a node of this key is in the graph: its depth, and its link
    pub record Found (b : ℕ) (δ : List ℕ) (ks : List Tree) (end number left : ℕ) : Type 0 where
      pub shallow : tree_depth (node_made P number ks) ≤ most_depth
      pub link : HasLink P heads' links' b (node_made P number ks) end (left ∷ δ)

    done_node : (b : ℕ) (δ : List ℕ) (p : ℕ) (ks : List Tree) (end : ℕ) (ε : List ℕ) (xs : List Tree) (look number left : ℕ) (pr : Production) → IsAt P heads b δ p → CanMakeNode P δ p ks end ε xs look number left pr
        → record { look = look; begins = p; rank = rank left } ≡ k → Found b δ ks end number left
    done_node b δ p ks end ε xs look number left pr at c key =
        let j : Key = record { look = look; begins = p; rank = rank left } in
        let whole_j : IsWholeTo P rank heads links j = subst (λ (i : Key). IsWholeTo P rank heads links i) (sym key) whole in
        let low = has_way P facts base rank most ranked heads links j whole_j b δ p (reverse ks) end ε at (order_inner P facts base rank most ranked δ p ks end ε xs look number left pr at.head.state at.state c) in
        let high = has_way P facts base rank most ranked heads links j whole_j low.head ε end xs look ε low.at (order_outer P facts base rank most ranked δ p ks end ε xs look number left pr c) in
        let replace = stand_replace low.way (reverse ks) low.stands in
        let make = can_make P facts base δ p ks end ε look number left pr c.inner (begins_taken P facts ks [] δ p c.taken) c.reduces c.count in
        let count : length (filling (way_trees low.way)) ≡ length pr.steps = ap (λ (l : List ℕ). length l) (same_symbols (way_trees low.way) (reverse ks) replace) ∙ filled_turned ks ∙ c.count in
        let d = (subst (λ (i : Key). AreDone P rank heads links heads' links' i) (sym key) done) number left pr high.head low.head b high.way low.way ε δ end (record {
          top = high.at;
          middle = low.at;
          bottom = at;
          lifted = high.is;
          taken_off = low.is;
          all_extras = same_extras (way_trees high.way) xs (stand_replace high.way xs high.stands) c.all_extras;
          taken = taken_same low.way ks δ p replace c.taken;
          reduces = c.reduces;
          count = count;
          ranked = refl;
        }) in
        let less = node_shallower number left pr low.way ks make low.stands in
        let turned : AllReplace (reverse (way_trees low.way)) ks = subst (λ (l : List Tree). AllReplace (reverse (way_trees low.way)) l) (reverse-reverse ks) (all_turned (way_trees low.way) (reverse ks) replace) in
        let made_way : CanMake P.grammar number left pr (reverse (way_trees low.way)) = record {
          at = c.reduces.at;
          filled = same_symbols (reverse (way_trees low.way)) ks turned ∙ make.filled;
          begins = same_begins (reverse (way_trees low.way)) ks turned make.begins;
          made = all_made_turned P.grammar (way_trees low.way) (way_made low.way low.head b low.is);
        } in
        let deep = d.0 in
        let enough = d.6 in
        record {
          shallow = omega (arith, less, deep);
          link = record {
            link = d.1;
            there = d.2;
            below = d.3;
            above = d.4;
            stands = record {
              tree = replaces_chain d.1.tree (node_made P number (reverse (way_trees low.way))) (node_made P number ks) d.5 (node_replaces number left pr low.way ks made_way make low.stands);
              depth = omega (arith, less, enough);
            };
          };
        }
      where
        filled_turned : (ks : List Tree) → length (filling (reverse ks)) ≡ length (filling ks)
        filled_turned ks = ap (λ (l : List ℕ). length l) (filling_turned ks) ∙ length-reverse (filling ks)

    grown_link : HasGrown P heads links heads' links' → (b : ℕ) (t : Tree) (p : ℕ) (δ : List ℕ) → HasLink P heads links b t p δ → HasLink P heads' links' b t p δ
    grown_link grown b t p δ w =
        let n = grown.links_stay w.link w.there in
        record {
          link = n.0;
          there = n.1;
          below = n.3 ∙ w.below;
          above = subst (λ (h : ℕ). IsAt P heads' h δ p) (sym n.2) (grown.heads_stay w.link.above δ p w.above);
          stands = n.4 t w.stands;
        }

    -- the tokens and extras of places before the key
    record Leaves : Type 0 where
      pub shifts : (b : ℕ) (read : List ℕ) (place : ℕ) (s : Symbol) (pad size : ℕ) → IsAt P heads b read place → P.place ≤ place → place < m.look → SeesAt P read place (token s pad size) → Act P.grammar read s.0 shift → HasLink P heads' links' b (token_tree s pad size) (place + (pad + size)) (s.0 ∷ read)
      pub passes : (b : ℕ) (read : List ℕ) (place : ℕ) (s : Symbol) (pad size : ℕ) → IsAt P heads b read place → P.place ≤ place → place < m.look → PassesAt P read place s pad size → HasLink P heads' links' b (extra_tree s pad size) (place + (pad + size)) read

    advance_by : HasGrown P heads links heads' links' → AreAdded P rank heads heads' links' m → IsNextKey most k m → Leaves → IsWholeTo P rank heads' links' m
    advance_by grown added next leaves = record {
      start = grown.heads_stay 0 [] 0 whole.start;
      linked = λ b γ q t p δ at l. ⊎_elim (λ old. linked b γ q (t ∷ []) p δ t old l refl) (λ new. new.0 t p δ l) (added.each b γ q at);
      shallow = λ b δ p ks end ε xs look number left pr at c earlier. ⊎_elim
          (λ old. node_shallow b δ p ks end ε xs look number left pr old c earlier)
          (λ new. absurd (new.1 ks end ε xs look number left pr c earlier)) (added.each b δ p at);
    }
      where
        is_key : (δ : List ℕ) (p : ℕ) (ks : List Tree) (end : ℕ) (ε : List ℕ) (xs : List Tree) (look number left : ℕ) (pr : Production) → CanMakeNode P δ p ks end ε xs look number left pr → IsKey most (record { look = look; begins = p; rank = rank left })
        is_key δ p ks end ε xs look number left pr c =
            ((let a = grows P facts base δ p (reverse ks) end ε c.inner in let b = grows P facts base ε end xs look ε c.outer in omega (arith, a, b)), ranked.below left)

        node_shallow : (b : ℕ) (δ : List ℕ) (p : ℕ) (ks : List Tree) (end : ℕ) (ε : List ℕ) (xs : List Tree) (look number left : ℕ) (pr : Production) → IsAt P heads b δ p → CanMakeNode P δ p ks end ε xs look number left pr
            → Earlier (record { look = look; begins = p; rank = rank left }) m → tree_depth (node_made P number ks) ≤ most_depth
        node_shallow b δ p ks end ε xs look number left pr at c earlier =
            ⊎_elim (λ before. whole.shallow b δ p ks end ε xs look number left pr at c before) (λ key. (done_node b δ p ks end ε xs look number left pr at c key).shallow)
            (next (record { look = look; begins = p; rank = rank left }) (is_key δ p ks end ε xs look number left pr c) earlier)

        old_link : (b : ℕ) (γ : List ℕ) (q : ℕ) (t : Tree) (p : ℕ) (δ : List ℕ) → IsAt P heads b γ q → LaysBefore P rank k γ q (t ∷ []) p δ → HasLink P heads' links' b t p δ
        old_link b γ q t p δ at l = grown_link grown b t p δ (whole.linked b γ q t p δ at l)

        -- an entry on nothing
        bottom : (γ : List ℕ) (q : ℕ) (w : List Tree) (p : ℕ) (δ : List ℕ) (b : ℕ) → IsAt P heads b γ q → LaysBefore P rank m γ q w p δ → w ≡ [] → IsAt P heads b δ p
        bottom γ q w p δ b at l e = let h = lays_none P facts base γ q w p δ (before_lays P facts base rank m γ q w p δ l) e in at_place P facts heads b γ δ q p (sym h.1) (sym h.0) at

        linked : (b : ℕ) (γ : List ℕ) (q : ℕ) (all : List Tree) (p : ℕ) (δ : List ℕ) (t : Tree) → IsAt P heads b γ q → LaysBefore P rank m γ q all p δ → all ≡ t ∷ [] → HasLink P heads' links' b t p δ
        linked b γ q _ _ _ t at (flat_before _ _) is = absurd (let h : [] ≡ t ∷ [] = is in cc)
        linked b γ q _ _ _ t at (stood_before _ _ w p δ u above below l at2 place share) is =
            let none : w ≡ [] = cc in
            let same : u ≡ t = cc in
            let here = bottom γ q w p δ b at l none in
            subst (λ (x : Tree). HasLink P heads' links' b x (p + span_of u) (filling (u ∷ []) ++ δ)) same
            (old_link b δ p u (p + span_of u) (filling (u ∷ []) ++ δ) here (stood_before δ p [] p δ u above below (flat_before δ p) at2 place share))
        linked b γ q _ _ _ t at (shifted_before _ _ w p δ s pad size l late lt sees acts) is =
            let none : w ≡ [] = cc in
            let same : token_tree s pad size ≡ t = cc in
            subst (λ (x : Tree). HasLink P heads' links' b x (p + (pad + size)) (s.0 ∷ δ)) same (leaves.shifts b δ p s pad size (bottom γ q w p δ b at l none) late lt sees acts)
        linked b γ q _ _ _ t at (passed_before _ _ w p δ s pad size l late lt passes) is =
            let none : w ≡ [] = cc in
            let same : extra_tree s pad size ≡ t = cc in
            subst (λ (x : Tree). HasLink P heads' links' b x (p + (pad + size)) δ) same (leaves.passes b δ p s pad size (bottom γ q w p δ b at l none) late lt passes)
        linked b γ q _ _ _ t at (made_before _ _ w p δ ks end ε xs look number left pr l inner outer all late taken folds count deep earlier) is =
            let none : w ≡ [] = cc in
            let same : node_made P number ks ≡ t = cc in
            let here = bottom γ q w p δ b at l none in
            let low = lays_none P facts base γ q w p δ (before_lays P facts base rank m γ q w p δ l) none in
            let alone : Taken ks [] δ p = taken_here ks w γ q p δ low.0 low.1 taken in
            let c : CanMakeNode P δ p ks end ε xs look number left pr = record {
              inner = inner;
              outer = outer;
              all_extras = all;
              late = late;
              taken = alone;
              reduces = folds;
              count = count;
            } in
            subst (λ (x : Tree). HasLink P heads' links' b x end (left ∷ δ)) same
            (⊎_elim (λ before. old_link b δ p (node_made P number ks) end (left ∷ δ) here (made_before δ p [] p δ ks end ε xs look number left pr (flat_before δ p) inner outer all late alone folds count deep before))
            (λ key. (done_node b δ p ks end ε xs look number left pr here c key).link)
            (next (record { look = look; begins = p; rank = rank left }) (is_key δ p ks end ε xs look number left pr c) earlier))
          where
            taken_here : (ks w : List Tree) (γ : List ℕ) (q p : ℕ) (δ : List ℕ) → p ≡ q → δ ≡ γ → Taken ks w γ q → Taken ks [] δ p
            taken_here ks w γ q p δ e f (some lt begins ends) = some lt begins ends
            taken_here ks w γ q p δ e f (nothing none low read place) = nothing none refl (f ∙ read) (e ∙ place)

    same_leaves : HasGrown P heads links heads' links' → k.look ≡ m.look → Leaves
    same_leaves grown same = record {
      shifts = λ b read place s pad size at late lt sees acts.
          grown_link grown b (token_tree s pad size) (place + (pad + size)) (s.0 ∷ read)
          (whole.linked b read place (token_tree s pad size) (place + (pad + size)) (s.0 ∷ read) at
          (shifted_before read place [] place read s pad size (flat_before read place) late (omega (arith, lt, same)) sees acts));
      passes = λ b read place s pad size at late lt passes.
          grown_link grown b (extra_tree s pad size) (place + (pad + size)) read
          (whole.linked b read place (extra_tree s pad size) (place + (pad + size)) read at
          (passed_before read place [] place read s pad size (flat_before read place) late (omega (arith, lt, same)) passes));
    }

    pub advance : HasGrown P heads links heads' links' → AreAdded P rank heads heads' links' m → IsNextKey most k m → k.look ≡ m.look → IsWholeTo P rank heads' links' m
    advance grown added next same = advance_by grown added next (same_leaves grown same)

    opened_leaves : HasGrown P heads links heads' links' → IsOpened P heads' links' k.look → m.look ≡ suc k.look → Leaves
    opened_leaves grown opened same = record {
      shifts = λ b read place s pad size at late lt sees acts. shift_by b read place s pad size at late sees acts (order_cases place k.look) lt;
      passes = λ b read place s pad size at late lt passes. pass_by b read place s pad size at late passes (order_cases place k.look) lt;
    }
      where
        shift_by : (b : ℕ) (read : List ℕ) (place : ℕ) (s : Symbol) (pad size : ℕ) → IsAt P heads b read place → P.place ≤ place → SeesAt P read place (token s pad size) → Act P.grammar read s.0 shift → (place < k.look) ⊎ (k.look ≤ place) → place < m.look
            → HasLink P heads' links' b (token_tree s pad size) (place + (pad + size)) (s.0 ∷ read)
        shift_by b read place s pad size at late sees acts (inl less) lt =
            grown_link grown b (token_tree s pad size) (place + (pad + size)) (s.0 ∷ read)
            (whole.linked b read place (token_tree s pad size) (place + (pad + size)) (s.0 ∷ read) at (shifted_before read place [] place read s pad size (flat_before read place) late less sees acts))
        shift_by b read place s pad size at late sees acts (inr more) lt =
            let e : k.look ≡ place = omega (arith, more, lt, same) in
            subst (λ (i : ℕ). HasLink P heads' links' b (token_tree s pad size) (i + (pad + size)) (s.0 ∷ read)) e
            (opened.shifts b read s pad size (subst (λ (i : ℕ). IsAt P heads' b read i) (sym e) (grown.heads_stay b read place at)) (subst (λ (i : ℕ). SeesAt P read i (token s pad size)) (sym e) sees) acts)

        pass_by : (b : ℕ) (read : List ℕ) (place : ℕ) (s : Symbol) (pad size : ℕ) → IsAt P heads b read place → P.place ≤ place → PassesAt P read place s pad size → (place < k.look) ⊎ (k.look ≤ place) → place < m.look
            → HasLink P heads' links' b (extra_tree s pad size) (place + (pad + size)) read
        pass_by b read place s pad size at late passes (inl less) lt =
            grown_link grown b (extra_tree s pad size) (place + (pad + size)) read
            (whole.linked b read place (extra_tree s pad size) (place + (pad + size)) read at (passed_before read place [] place read s pad size (flat_before read place) late less passes))
        pass_by b read place s pad size at late passes (inr more) lt =
            let e : k.look ≡ place = omega (arith, more, lt, same) in
            subst (λ (i : ℕ). HasLink P heads' links' b (extra_tree s pad size) (i + (pad + size)) read) e
            (opened.passes b read s pad size (subst (λ (i : ℕ). IsAt P heads' b read i) (sym e) (grown.heads_stay b read place at)) (subst (λ (i : ℕ). PassesAt P read i s pad size) (sym e) passes))

    pub next_place : HasGrown P heads links heads' links' → AreAdded P rank heads heads' links' m → IsOpened P heads' links' k.look → IsNextKey most k m → m.look ≡ suc k.look → IsWholeTo P rank heads' links' m
    next_place grown added opened next same = advance_by grown added next (opened_leaves grown opened same)

  -- ---- the first key

  -- what stood on the stack from which runs go on is all that comes before its first key
  pub begins_whole : (heads : List Head) (links : List Link) → IsAt P heads 0 [] 0 → HasStood P heads links → IsWholeTo P rank heads links (record { look = P.place; begins = P.place; rank = most })
  begins_whole heads links start stands = record {
    start = start;
    linked = λ b γ q t p δ at l. linked b γ q (t ∷ []) p δ t at l refl;
    shallow = λ b δ p ks end ε xs look number left pr at c earlier.
        absurd (none δ p ks end ε xs look number left pr c.inner c.outer c.late earlier);
  }
    where
      none : (δ : List ℕ) (p : ℕ) (ks : List Tree) (end : ℕ) (ε : List ℕ) (xs : List Tree) (look number left : ℕ) (pr : Production) → Lays P δ p (reverse ks) end ε → Lays P ε end xs look ε → P.place ≤ look
          → Earlier (record { look = look; begins = p; rank = rank left }) (record { look = P.place; begins = P.place; rank = most }) → ⊥
      none δ p ks end ε xs look number left pr inner outer late (inl lt) = omega (arith, late, lt)
      none δ p ks end ε xs look number left pr inner outer late (inr both) = by both.0 both.1
        where
          by : look ≡ P.place → (P.place < p) ⊎ ((p ≡ P.place) × (most < rank left)) → ⊥
          by e (inl lt) = let a = grows P facts base δ p (reverse ks) end ε inner in let b = grows P facts base ε end xs look ε outer in omega (arith, a, b, lt, e)
          by e (inr w) = let h = ranked.below left in let g = w.1 in omega (arith, h, g)

      linked : (b : ℕ) (γ : List ℕ) (q : ℕ) (all : List Tree) (p : ℕ) (δ : List ℕ) (t : Tree) → IsAt P heads b γ q → LaysBefore P rank (record { look = P.place; begins = P.place; rank = most }) γ q all p δ → all ≡ t ∷ [] → HasLink P heads links b t p δ
      linked b γ q _ _ _ t at (flat_before _ _) is = absurd (let h : [] ≡ t ∷ [] = is in cc)
      linked b γ q _ _ _ t at (shifted_before _ _ w p δ s pad size l late lt sees acts) is = absurd (omega (arith, late, lt))
      linked b γ q _ _ _ t at (passed_before _ _ w p δ s pad size l late lt passes) is = absurd (omega (arith, late, lt))
      linked b γ q _ _ _ t at (made_before _ _ w p δ ks end ε xs look number left pr l inner outer all late taken folds count deep earlier) is = absurd (none δ p ks end ε xs look number left pr inner outer late earlier)
      linked b γ q _ _ _ t at (stood_before _ _ w p δ u above below l at2 place share) is =
          let none_w : w ≡ [] = cc in
          let same : u ≡ t = cc in
          let h = lays_none P facts base γ q w p δ (before_lays P facts base rank (record { look = P.place; begins = P.place; rank = most }) γ q w p δ l) none_w in
          let here = at_place P facts heads b γ δ q p (sym h.1) (sym h.0) at in
          subst (λ (x : Tree). HasLink P heads links b x (p + span_of u) (filling (u ∷ []) ++ δ)) same (stood_link P heads links stands b δ p u above below here at2 place share)

-- ---- keys that follow one another

abbrev key : ℕ → ℕ → ℕ → Key
key look begins rank = record { look = look; begins = begins; rank = rank }

same_key : (j : Key) (look begins r : ℕ) → j.look ≡ look → j.begins ≡ begins → j.rank ≡ r → j ≡ key look begins r
same_key j look begins r a b c =
    ap (λ (i : ℕ). key i j.begins j.rank) a ∙ ap (λ (i : ℕ). key look i j.rank) b ∙ ap (λ (i : ℕ). key look begins i) c

-- a key is before another, or the same, or after it
key_cases : (j : Key) (look begins r : ℕ) → (Earlier j (key look begins r) ⊎ (j ≡ key look begins r)) ⊎ Earlier (key look begins r) j
key_cases j look begins r = by_look (cases_order j.look look)
  where
    by_rank : j.look ≡ look → j.begins ≡ begins → (j.rank ≡ r) ⊎ ((j.rank < r) ⊎ (r < j.rank)) → (Earlier j (key look begins r) ⊎ (j ≡ key look begins r)) ⊎ Earlier (key look begins r) j
    by_rank a b (inl e) = inl (inr (same_key j look begins r a b e))
    by_rank a b (inr (inl lt)) = inr (inr (sym a, inr (sym b, lt)))
    by_rank a b (inr (inr gt)) = inl (inl (inr (a, inr (b, gt))))

    by_start : j.look ≡ look → (j.begins ≡ begins) ⊎ ((j.begins < begins) ⊎ (begins < j.begins)) → (Earlier j (key look begins r) ⊎ (j ≡ key look begins r)) ⊎ Earlier (key look begins r) j
    by_start a (inl e) = by_rank a e (cases_order j.rank r)
    by_start a (inr (inl lt)) = inr (inr (sym a, inl lt))
    by_start a (inr (inr gt)) = inl (inl (inr (a, inl gt)))

    by_look : (j.look ≡ look) ⊎ ((j.look < look) ⊎ (look < j.look)) → (Earlier j (key look begins r) ⊎ (j ≡ key look begins r)) ⊎ Earlier (key look begins r) j
    by_look (inl e) = by_start e (cases_order j.begins begins)
    by_look (inr (inl lt)) = inl (inl (inl lt))
    by_look (inr (inr gt)) = inr (inl gt)

-- so nothing is between two keys, where nothing comes after the first and before the second
nothing_between : (j : Key) (look begins r : ℕ) → (Earlier (key look begins r) j → ⊥) → Earlier j (key look begins r) ⊎ (j ≡ key look begins r)
nothing_between j look begins r none_after = ⊎_elim (λ w. w) (λ w. absurd (none_after w)) (key_cases j look begins r)

rank_gap : (j : Key) (look begins r : ℕ) → Earlier j (key look begins r) → Earlier (key look begins (suc r)) j → ⊥
rank_gap j look begins r (inl a) (inl b) = omega (arith, a, b)
rank_gap j look begins r (inl a) (inr b) = let e = b.0 in omega (arith, a, e)
rank_gap j look begins r (inr a) (inl b) = let e = a.0 in omega (arith, b, e)
rank_gap j look begins r (inr a) (inr b) = inner a.1 b.1
  where
    inner : (begins < j.begins) ⊎ ((j.begins ≡ begins) × (r < j.rank)) → (j.begins < begins) ⊎ ((begins ≡ j.begins) × (j.rank < suc r)) → ⊥
    inner (inl x) (inl y) = omega (arith, x, y)
    inner (inl x) (inr y) = let e = y.0 in omega (arith, x, e)
    inner (inr x) (inl y) = let e = x.0 in omega (arith, y, e)
    inner (inr x) (inr y) = let e = x.1 in let f = y.1 in omega (arith, e, f)

start_gap : (j : Key) (look begins most : ℕ) → j.rank < most → Earlier j (key look begins most) → Earlier (key look (suc begins) 0) j → ⊥
start_gap j look begins most low (inl a) (inl b) = omega (arith, a, b)
start_gap j look begins most low (inl a) (inr b) = let e = b.0 in omega (arith, a, e)
start_gap j look begins most low (inr a) (inl b) = let e = a.0 in omega (arith, b, e)
start_gap j look begins most low (inr a) (inr b) = inner a.1 b.1
  where
    inner : (begins < j.begins) ⊎ ((j.begins ≡ begins) × (most < j.rank)) → (j.begins < suc begins) ⊎ ((suc begins ≡ j.begins) × (j.rank < 0)) → ⊥
    inner (inl x) (inl y) = omega (arith, x, y)
    inner (inl x) (inr y) = let e = y.1 in omega (arith, e)
    inner (inr x) y = let e = x.1 in omega (arith, e, low)

look_gap : (j : Key) (look most : ℕ) → j.begins ≤ j.look → j.rank < most → Earlier j (key (suc look) (suc look) most) → Earlier (key look 0 0) j → ⊥
look_gap j look most le low (inl a) (inl b) = omega (arith, a, b)
look_gap j look most le low (inl a) (inr b) = inner b.1
  where
    inner : (j.begins < 0) ⊎ ((0 ≡ j.begins) × (j.rank < 0)) → ⊥
    inner (inl x) = omega (arith, x)
    inner (inr x) = let e = x.1 in omega (arith, e)
look_gap j look most le low (inr a) b = inner a.0 a.1
  where
    inner : j.look ≡ suc look → (suc look < j.begins) ⊎ ((j.begins ≡ suc look) × (most < j.rank)) → ⊥
    inner e (inl x) = omega (arith, e, x, le)
    inner e (inr x) = let f = x.1 in omega (arith, f, low)

pub next_rank : (most look begins r : ℕ) → IsNextKey most (key look begins (suc r)) (key look begins r)
next_rank most look begins r j is earlier = nothing_between j look begins (suc r) (rank_gap j look begins r earlier)

pub next_start : (most look begins : ℕ) → IsNextKey most (key look (suc begins) 0) (key look begins most)
next_start most look begins j is earlier = nothing_between j look (suc begins) 0 (start_gap j look begins most is.1 earlier)

pub next_look : (most look : ℕ) → IsNextKey most (key look 0 0) (key (suc look) (suc look) most)
next_look most look j is earlier = nothing_between j look 0 0 (look_gap j look most is.0 is.1 earlier)

-- ---- keys at which nothing is due

module _ (P : Parsing) (facts : Facts P) (base : IsBase P) (rank : ℕ → ℕ) (most : ℕ) (ranked : AreRanks P.grammar rank most) (heads : List Head) (links : List Link) (sound : (l : Link) → Contains links l → IsMade P.grammar l.tree) where
  one_on : (k m : Key) → IsWholeTo P rank heads links k → HasNoneDue P rank heads links k → IsNextKey most k m → k.look ≡ m.look → IsWholeTo P rank heads links m
  one_on k m whole none next same =
      advance P facts base rank most ranked heads links heads links k m whole
      (λ number left p h e b outer inner over now end due. absurd (none number left p h e b outer inner over now end due)) sound
      (record { heads_stay = λ h read place a. a; links_stay = λ l there. (l, there, refl, refl, (λ t s. s)) })
      (record { each = λ b read from at. inl at }) next same

  pub lower_rank : (n look begins r : ℕ) → IsWholeTo P rank heads links (key look begins (n + r)) → ((i : ℕ) → r < i → i ≤ n + r → HasNoneDue P rank heads links (key look begins i)) → IsWholeTo P rank heads links (key look begins r)
  lower_rank zero look begins r whole none = subst (λ (i : ℕ). IsWholeTo P rank heads links (key look begins i)) (let e : 0 + r ≡ r = omega arith in e) whole
  lower_rank (suc n) look begins r whole none =
      let up : suc n + r ≡ suc (n + r) = omega arith in
      lower_rank n look begins r
      (one_on (key look begins (suc (n + r))) (key look begins (n + r)) (subst (λ (i : ℕ). IsWholeTo P rank heads links (key look begins i)) up whole) (none (suc (n + r)) (omega arith) (omega arith)) (next_rank most look begins (n + r)) refl)
      (λ i lt le. none i lt (omega (arith, le)))

  pub earlier_start : (n look begins : ℕ) → IsWholeTo P rank heads links (key look (n + begins) most) → ((b i : ℕ) → begins < b → b ≤ n + begins → i ≤ most → HasNoneDue P rank heads links (key look b i)) → IsWholeTo P rank heads links (key look begins most)
  earlier_start zero look begins whole none = subst (λ (i : ℕ). IsWholeTo P rank heads links (key look i most)) (let e : 0 + begins ≡ begins = omega arith in e) whole
  earlier_start (suc n) look begins whole none =
      let b = suc (n + begins) in
      let up : suc n + begins ≡ suc (n + begins) = omega arith in
      let there : IsWholeTo P rank heads links (key look b most) = subst (λ (i : ℕ). IsWholeTo P rank heads links (key look i most)) up whole in
      let same : most ≡ most + 0 = omega arith in
      let low : IsWholeTo P rank heads links (key look b 0) =
      lower_rank most look b 0 (subst (λ (r : ℕ). IsWholeTo P rank heads links (key look b r)) same there) (λ i lt le. none b i (omega arith) (omega arith) (omega (arith, le))) in
      earlier_start n look begins
      (one_on (key look b 0) (key look (n + begins) most) low (none b 0 (omega arith) (omega arith) (omega arith)) (next_start most look (n + begins)) refl)
      (λ d i lt le low_rank. none d i lt (omega (arith, le)) low_rank)
