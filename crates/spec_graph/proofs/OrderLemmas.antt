-- The order in which nodes are made: all that a reduction takes comes before the node that it makes.
use Rattle.std.proofs.Common.{◌≡◌, ◌∙◌, sym, ap, refl, subst, ℕ, zero, suc, ◌+◌, ◌<◌, ◌≤◌, ◌⊎◌, inl, inr, false, true≢false, List, [], ◌∷◌, ◌++◌, append-nil, length, length-append, reverse, map, arith}
use Rattle.std.proofs.lemmas.Bool.{cases_order}
use Rattle.std.proofs.lemmas.List.{reverse-reverse}
use Rattle.ts_core.specs.declared.flat.Production.{Production}
use Rattle.ts_core.specs.declared.flat.Step.{Step}
use Rattle.ts_core.specs.declared.symbol.Symbol.{Symbol}
use Rattle.spec_lexing.specs.Lexing.{token}
use Rattle.spec_tables.specs.Actions.{shift, reduce}
use Rattle.spec_trees.specs.declared.tree.Tree.{Tree}
use Rattle.spec_trees.specs.Trees.{symbol_of, is_extra_node, all_spans}
use Rattle.spec_trees.specs.Made.{filling, BeginsFilled}
use Rattle.spec_runs.specs.Configurations.{AreExtras}
use Rattle.spec_packing.proofs.MadeLemmas.{CanMake, first_some}
use Rattle.spec_graph.specs.States.{LeadsTo, AreRanks}
use Rattle.spec_graph.specs.Laying.{Parsing, GoesOn, PassesAt, ReducesAt, extra_tree, node_made, Taken, some, nothing, Lays, flat, stood, shifted, passed, made, CanMakeNode}
use Rattle.spec_graph.specs.Keys.{Key, Earlier, LaysBefore, flat_before, stood_before, shifted_before, passed_before, made_before}
use Rattle.spec_graph.proofs.SightLemmas.{Facts, same_token, sees_one, clash, narrows}
use Rattle.spec_graph.proofs.EntryLemmas.{extra_says, token_says, kind_of, symbol_is, filling_tree, filling_turned, children_fill, shift_bytes, pass_bytes, spans_turned}
use Rattle.spec_graph.proofs.LayLemmas.{IsBase, HasBottom, bottom_turned, order_cases, extras_append, lays_read, can_make, lays_spans, grows, lays_none, lays_state, passes_on, Peeled, bare_place, one_more, peel, starts}

module _ (P : Parsing) (facts : Facts P) (base : IsBase P) where
  -- after these symbols extras alone stand from the place to `look`, where a token with a move is seen
  pub record Rests (read : List ℕ) (place look : ℕ) : Type 0 where
    pub extras : List Tree
    pub lays : Lays P read place extras look read
    pub all_extras : AreExtras extras
    pub late : P.place ≤ look
    pub goes : GoesOn P read look

  rests_here : (read : List ℕ) (place : ℕ) → P.place ≤ place → GoesOn P read place → Rests read place place
  rests_here read place late g = record { extras = []; lays = flat read place; all_extras = tt; late = late; goes = g }

  -- no extra is passed beyond that token
  pass_limit : (n : ℕ) (read : List ℕ) (place : ℕ) (xs : List Tree) (look r : ℕ) → length xs < n → Lays P read place xs look read → AreExtras xs → P.place ≤ look → Rests read place r → look ≤ r
  pass_limit zero read place xs look r lt l a late rests = absurd (omega (arith, lt))
  pass_limit (suc n) read place xs look r lt l a late rests =
      by (peel P facts base read place xs look read l a late refl) (peel P facts base read place rests.extras r read rests.lays rests.all_extras rests.late refl)
      (λ from ys b k c t. pass_limit n read from ys look r b k c late t)
    where
      by : Peeled P facts base read place xs look → Peeled P facts base read place rests.extras r → ((from : ℕ) (ys : List Tree) → length ys < n → Lays P read from ys look read → AreExtras ys → Rests read from r → look ≤ r) → look ≤ r
      by (bare_place none at) _ again = let g = grows P facts base read place rests.extras r read rests.lays in omega (arith, at, g)
      by (one_more ys s pad size is late1 first rest all) (bare_place none2 at) again = absurd (clash P facts read place s pad size (subst (λ (m : ℕ). GoesOn P read m) (sym at) rests.goes) first)
      by (one_more ys s pad size is late1 first rest all) (one_more zs t pad2 size2 is2 late2 first2 rest2 all2) again =
          let e = same_token t s pad2 pad size2 size (sees_one P facts read place (token t pad2 size2) (token s pad size) first2.sees first.sees) in
          let at : place + (pad2 + size2) ≡ place + (pad + size) = (let f = e.1 in let h = e.2 in omega (arith, f, h)) in
          let count : length xs ≡ length ys + 1 = ap length is ∙ length-append ys (extra_tree s pad size ∷ []) in
          again (place + (pad + size)) ys (omega (arith, lt, count)) rest all
          (record { extras = zs; lays = subst (λ (m : ℕ). Lays P read m zs r read) at rest2; all_extras = all2; late = rests.late; goes = rests.goes })

  -- a node is made no later than the next token with a move behind it is seen
  made_look : (ε : List ℕ) (end : ℕ) (xs : List Tree) (look number left : ℕ) (p : Production) (δ : List ℕ) (n r : ℕ) → LeadsTo P.goto (left ∷ δ) n → Lays P ε end xs look ε → AreExtras xs → P.place ≤ look → ReducesAt P ε look number left p δ → Rests (left ∷ δ) end r → look ≤ r
  made_look ε end xs look number left p δ n r k outer all late folds rests =
      pass_limit (suc (length xs)) (left ∷ δ) end xs look r (omega arith)
      (passes_on P facts base ε (left ∷ δ) (narrows P facts ε look number left p δ folds) n k xs end look all late outer) all late rests

  -- nothing ends before the place from which runs go on but what stood there
  ends_late : (ε : List ℕ) (end : ℕ) (xs : List Tree) (look : ℕ) → Lays P ε end xs look ε → AreExtras xs → P.place ≤ look → P.place ≤ end
  ends_late ε end xs look l a late = by (peel P facts base ε end xs look ε l a late refl)
    where
      by : Peeled P facts base ε end xs look → P.place ≤ end
      by (bare_place none at) = omega (arith, at, late)
      by (one_more ys s pad size is late2 first rest all) = late2

  pub node_bytes : (δ : List ℕ) (p : ℕ) (ks : List Tree) (end : ℕ) (ε : List ℕ) (look number left : ℕ) (pr : Production) → Lays P δ p (reverse ks) end ε → 0 < length ks → BeginsFilled ks → ReducesAt P ε look number left pr δ → length (filling ks) ≡ length pr.steps → p < end
  node_bytes δ p [] end ε look number left pr inner lt begins folds count = absurd (omega (arith, lt))
  node_bytes δ p (k ∷ ks) end ε look number left pr inner lt begins folds count =
      let s = lays_spans P facts base δ p (reverse (k ∷ ks)) end ε inner in
      let b = first_some P.grammar number left pr k ks (can_make P facts base δ p (k ∷ ks) end ε look number left pr inner begins folds count) in
      omega (arith, s, b, spans_turned (k ∷ ks))

  pub before_lays : (rank : ℕ → ℕ) (k : Key) (γ : List ℕ) (q : ℕ) (w : List Tree) (p : ℕ) (δ : List ℕ) → LaysBefore P rank k γ q w p δ → Lays P γ q w p δ
  before_lays rank k γ q _ _ _ (flat_before _ _) = flat γ q
  before_lays rank k γ q _ _ _ (stood_before _ _ w p δ t above below l at place share) = stood γ q w p δ t above below (before_lays rank k γ q w p δ l) at place share
  before_lays rank k γ q _ _ _ (shifted_before _ _ w p δ s pad size l late lt sees acts) = shifted γ q w p δ s pad size (before_lays rank k γ q w p δ l) late sees acts
  before_lays rank k γ q _ _ _ (passed_before _ _ w p δ s pad size l late lt passes) = passed γ q w p δ s pad size (before_lays rank k γ q w p δ l) late passes
  before_lays rank k γ q _ _ _ (made_before _ _ w p δ ks end ε xs look number left pr l inner outer all late taken folds count deep earlier) =
      made γ q w p δ ks end ε xs look number left pr (before_lays rank k γ q w p δ l) inner outer all late taken folds count deep

  module _ (rank : ℕ → ℕ) (most : ℕ) (ranked : AreRanks P.grammar rank most) (k : Key) where
    before_none : (γ : List ℕ) (q : ℕ) (w : List Tree) (p : ℕ) (δ : List ℕ) → Lays P γ q w p δ → w ≡ [] → LaysBefore P rank k γ q w p δ
    before_none γ q w p δ l e =
        let h = lays_none P facts base γ q w p δ l e in
        subst (λ (v : List Tree). LaysBefore P rank k γ q v p δ) (sym e)
        (subst (λ (m : ℕ). LaysBefore P rank k γ q [] m δ) (sym h.0) (subst (λ (r : List ℕ). LaysBefore P rank k γ q [] q r) (sym h.1) (flat_before γ q)))

    due_stood : (γ : List ℕ) (q : ℕ) (w : List Tree) (p : ℕ) (δ : List ℕ) → p < P.place → Lays P γ q w p δ → LaysBefore P rank k γ q w p δ
    due_stood γ q _ _ _ lt (flat _ _) = flat_before γ q
    due_stood γ q _ _ _ lt (stood _ _ w p δ t above below l at place share) = stood_before γ q w p δ t above below (due_stood γ q w p δ (omega (arith, lt)) l) at place share
    due_stood γ q _ _ _ lt (shifted _ _ w p δ s pad size l late sees acts) = absurd (omega (arith, lt, late))
    due_stood γ q _ _ _ lt (passed _ _ w p δ s pad size l late passes) = absurd (omega (arith, lt, late))
    due_stood γ q _ _ _ lt (made _ _ w p δ ks end ε xs look number left pr l inner outer all late taken folds count deep) =
        absurd (let h = ends_late ε end xs look outer all late in omega (arith, lt, h))

    -- a tree is laid on entries that come before the key: it starts before the key's token
    due_under : (γ : List ℕ) (q : ℕ) (w : List Tree) (p : ℕ) (δ : List ℕ) (ks : List Tree) (end : ℕ) (ε : List ℕ) (look number left : ℕ) (pr : Production) → Lays P γ q w p δ → Lays P δ p (reverse ks) end ε → Taken ks w γ q → ReducesAt P ε look number left pr δ → length (filling ks) ≡ length pr.steps
        → end ≤ k.look → ((r : ℕ) → r < k.look → Rests δ p r → LaysBefore P rank k γ q w p δ) → LaysBefore P rank k γ q w p δ
    due_under γ q w p δ ks end ε look number left pr l inner (nothing none none_w read zero_q) folds count le low = before_none γ q w p δ l none_w
    due_under γ q w p δ ks end ε look number left pr l inner (some lt begins ends) folds count le low = by (order_cases p P.place)
      where
        by : (p < P.place) ⊎ (P.place ≤ p) → LaysBefore P rank k γ q w p δ
        by (inl early) = due_stood γ q w p δ early l
        by (inr late) =
            let b = node_bytes δ p ks end ε look number left pr inner lt begins folds count in
            low p (omega (arith, b, le)) (rests_here δ p late
            (starts P facts base δ p (reverse ks) end ε inner late (bottom_turned P.grammar number left pr ks lt (can_make P facts base δ p ks end ε look number left pr inner begins folds count))))

    -- an extra that is passed below extras
    extras_over : (δ : List ℕ) (p : ℕ) (s : Symbol) (pad size : ℕ) → P.place ≤ p → PassesAt P δ p s pad size → (ε : List ℕ) (q : ℕ) (xs : List Tree) (r : ℕ) (μ : List ℕ) → Lays P ε q xs r μ → ε ≡ δ → q ≡ p + (pad + size) → AreExtras xs → Lays P δ p (xs ++ extra_tree s pad size ∷ []) r μ
    extras_over δ p s pad size late passes ε q _ _ _ (flat _ _) is at a =
        subst (λ (m : ℕ). Lays P δ p (extra_tree s pad size ∷ []) m ε) (sym at) (subst (λ (g : List ℕ). Lays P δ p (extra_tree s pad size ∷ []) (p + (pad + size)) g) (sym is) (passed δ p [] p δ s pad size (flat δ p) late passes))
    extras_over δ p s pad size late passes ε q _ _ _ (stood _ _ w i μ t above below l at2 place share) is at a = stood δ p (w ++ extra_tree s pad size ∷ []) i μ t above below (extras_over δ p s pad size late passes ε q w i μ l is at a.1) at2 place share
    extras_over δ p s pad size late passes ε q _ _ _ (shifted _ _ w i μ t pad2 size2 l late2 sees acts) is at a = shifted δ p (w ++ extra_tree s pad size ∷ []) i μ t pad2 size2 (extras_over δ p s pad size late passes ε q w i μ l is at a.1) late2 sees acts
    extras_over δ p s pad size late passes ε q _ _ _ (passed _ _ w i μ t pad2 size2 l late2 passes2) is at a = passed δ p (w ++ extra_tree s pad size ∷ []) i μ t pad2 size2 (extras_over δ p s pad size late passes ε q w i μ l is at a.1) late2 passes2
    extras_over δ p s pad size late passes ε q _ _ _ (made _ _ w i μ ks end over xs look number left pr l inner outer all2 late2 taken folds count deep) is at a = absurd (true≢false (sym a.0 ∙ kind_of P facts number left pr ks folds.at))

    extras_on : (δ : List ℕ) (p r : ℕ) (s : Symbol) (pad size : ℕ) → P.place ≤ p → PassesAt P δ p s pad size → Rests δ (p + (pad + size)) r → Rests δ p r
    extras_on δ p r s pad size late passes rests = record {
      extras = rests.extras ++ extra_tree s pad size ∷ [];
      lays = extras_over δ p s pad size late passes δ (p + (pad + size)) rests.extras r δ rests.lays refl refl rests.all_extras;
      all_extras = extras_append rests.extras (extra_tree s pad size ∷ []) rests.all_extras ((extra_says facts.laws.runs s pad size).kind, tt);
      late = rests.late;
      goes = rests.goes;
    }

    -- entries below a place at which a token with a move is seen, once extras are passed
    due_below : (γ : List ℕ) (q : ℕ) (w : List Tree) (m : ℕ) (ν : List ℕ) (n r : ℕ) → LeadsTo P.goto γ n → r < k.look → Lays P γ q w m ν → Rests ν m r → LaysBefore P rank k γ q w m ν
    due_below γ q _ _ _ n r g lt (flat _ _) rests = flat_before γ q
    due_below γ q _ _ _ n r g lt (stood _ _ w p δ t above below l at place share) rests =
        stood_before γ q w p δ t above below (due_stood γ q w p δ (let low = base.low above below t at in omega (arith, low, place)) l) at place share
    due_below γ q _ _ _ n r g lt (shifted _ _ w p δ s pad size l late sees acts) rests =
        let h = grows P facts base (s.0 ∷ δ) (p + (pad + size)) rests.extras r (s.0 ∷ δ) rests.lays in
        let less : p < k.look = (let b = shift_bytes P facts δ p s pad size sees acts in omega (arith, h, lt, b)) in
        shifted_before γ q w p δ s pad size
        (due_below γ q w p δ n p g less l (rests_here δ p late (record { symbol = s; pad = pad; size = size; sees = sees; moves = (shift, acts) }))) late less sees acts
    due_below γ q _ _ _ n r g lt (passed _ _ w p δ s pad size l late passes) rests =
        let h = grows P facts base δ (p + (pad + size)) rests.extras r δ rests.lays in
        let less : p < k.look = omega (arith, h, lt) in
        passed_before γ q w p δ s pad size (due_below γ q w p δ n r g lt l (extras_on δ p r s pad size late passes rests)) late less passes
    due_below γ q _ _ _ n r g lt (made _ _ w p δ ks end ε xs look number left pr l inner outer all late taken folds count deep) rests =
        let state = lays_state P facts base γ q (node_made P number ks ∷ w) end (left ∷ δ) n g (made γ q w p δ ks end ε xs look number left pr l inner outer all late taken folds count deep) in
        let no_later = made_look ε end xs look number left pr δ state.0 r state.1 outer all late folds rests in
        let h = grows P facts base (left ∷ δ) end rests.extras r (left ∷ δ) rests.lays in
        made_before γ q w p δ ks end ε xs look number left pr
        (due_under γ q w p δ ks end ε look number left pr l inner taken folds count (omega (arith, h, lt)) (λ r2 lt2 rests2. due_below γ q w p δ n r2 g lt2 l rests2))
        inner outer all late taken folds count deep (inl (omega (arith, no_later, lt)))

    -- extras on top
    pub due_extras : (γ : List ℕ) (q : ℕ) (v : List Tree) (end : ℕ) (ε : List ℕ) → LaysBefore P rank k γ q v end ε → (xs : List Tree) (m : ℕ) (μ : List ℕ) → Lays P ε end xs m μ → AreExtras xs → m ≤ k.look → P.place ≤ m → LaysBefore P rank k γ q (xs ++ v) m μ
    due_extras γ q v end ε due _ _ _ (flat _ _) a le late = due
    due_extras γ q v end ε due _ _ _ (stood _ _ w i μ t above below l at place share) a le late =
        absurd (let h = base.extra above below t at a.0 in omega (arith, h, place, late))
    due_extras γ q v end ε due _ _ _ (shifted _ _ w i μ s pad size l late2 sees acts) a le late = absurd (true≢false (sym a.0 ∙ (token_says facts.laws.runs s pad size).kind))
    due_extras γ q v end ε due _ _ _ (made _ _ w i μ ks stop ζ xs look number left pr l inner outer all late2 taken folds count deep) a le late = absurd (true≢false (sym a.0 ∙ kind_of P facts number left pr ks folds.at))
    due_extras γ q v end ε due _ _ _ (passed _ _ w i μ s pad size l late2 passes) a le late =
        let b = pass_bytes P facts μ i s pad size passes in
        passed_before γ q (w ++ v) i μ s pad size (due_extras γ q v end ε due w i μ l a.1 (omega (arith, le)) late2) late2 (omega (arith, b, le)) passes

  -- ---- what a reduction takes

  module _ (rank : ℕ → ℕ) (most : ℕ) (ranked : AreRanks P.grammar rank most) where
    single_step : (steps : List Step) (x : ℕ) → map (λ (step : Step). step.symbol.0) steps ≡ x ∷ [] → (step : Step) × (steps ≡ step ∷ []) × (step.symbol.0 ≡ x)
    single_step [] x e = absurd (let h : [] ≡ x ∷ [] = e in cc)
    single_step (step ∷ []) x e = (step, refl, (let h : step.symbol.0 ∷ [] ≡ x ∷ [] = e in cc))
    single_step (step ∷ other ∷ steps) x e = absurd (let h : step.symbol.0 ∷ other.symbol.0 ∷ map (λ (step : Step). step.symbol.0) steps ≡ x ∷ [] = e in cc)

    bottom_spans : (w : List Tree) → HasBottom w → 0 < all_spans w
    bottom_spans [] h = absurd h
    bottom_spans (t ∷ []) h = let b = h.1 in omega (arith, b)
    bottom_spans (t ∷ u ∷ w) h = omega (arith, bottom_spans (u ∷ w) h)

    -- what is taken by a reduction, of which the topmost is a tree
    module _ (δ : List ℕ) (p : ℕ) (ks : List Tree) (end : ℕ) (ε : List ℕ) (xs : List Tree) (look number left : ℕ) (pr : Production) (n : ℕ) (state : LeadsTo P.goto δ n)
        (inner : Lays P δ p (reverse ks) end ε) (outer : Lays P ε end xs look ε) (all : AreExtras xs) (late : P.place ≤ look) (folds : ReducesAt P ε look number left pr δ) (count : length (filling ks) ≡ length pr.steps) (long : 0 < length ks) (begins : BeginsFilled ks) where
      abbrev key : Key
      key = record { look = look; begins = p; rank = rank left }

      make : CanMake P.grammar number left pr ks
      make = can_make P facts base δ p ks end ε look number left pr inner begins folds count

      bottom : HasBottom (reverse ks)
      bottom = bottom_turned P.grammar number left pr ks long make

      end_within : end ≤ look
      end_within = grows P facts base ε end xs look ε outer

      -- the topmost tree begins later, or has a higher rank
      top_first : (t : Tree) (u : List Tree) (m left2 : ℕ) (μ : List ℕ) → reverse ks ≡ t ∷ u → is_extra_node t ≡ false → symbol_of t ≡ left2 → Lays P δ p u m μ → (p < m) ⊎ ((m ≡ p) × (rank left < rank left2))
      top_first t [] m left2 μ is kind symbol low =
          let turned : filling ks ≡ left2 ∷ [] = sym (reverse-reverse (filling ks)) ∙ ap (λ (l : List ℕ). reverse l) (sym (filling_turned ks) ∙ ap filling is ∙ filling_tree t [] kind ∙ ap (λ (x : ℕ). x ∷ []) symbol) in
          let one = single_step pr.steps left2 (sym (children_fill P facts ε δ look number left pr ks folds (lays_read P facts δ p (reverse ks) end ε inner) count) ∙ turned) in
          inr ((lays_none P facts base δ p [] m μ low refl).0, subst (λ (x : ℕ). rank left < rank x) one.2 (ranked.single number left pr one.0 folds.at one.1))
      top_first t (f ∷ u) m left2 μ is kind symbol low =
          let h : HasBottom (f ∷ u) = subst (λ (l : List Tree). HasBottom l) is bottom in
          let s = lays_spans P facts base δ p (f ∷ u) m μ low in
          let b = bottom_spans (f ∷ u) h in
          inl (omega (arith, s, b))

      rests_top : Rests ε end look
      rests_top = record {
        extras = xs;
        lays = outer;
        all_extras = all;
        late = late;
        goes = record { symbol = folds.symbol; pad = folds.pad; size = folds.size; sees = folds.sees; moves = (reduce number, folds.stays) };
      }

      earlier_top : (look2 m left2 : ℕ) → look2 ≤ look → (p < m) ⊎ ((m ≡ p) × (rank left < rank left2)) → Earlier (record { look = look2; begins = m; rank = rank left2 }) key
      earlier_top look2 m left2 le w = by (cases_order look2 look)
        where
          by : (look2 ≡ look) ⊎ ((look2 < look) ⊎ (look < look2)) → Earlier (record { look = look2; begins = m; rank = rank left2 }) key
          by (inl e) = inr (e, w)
          by (inr (inl lt)) = inl lt
          by (inr (inr gt)) = absurd (omega (arith, le, gt))

      due_trees : (v : List Tree) (to : ℕ) (ζ : List ℕ) → Lays P δ p v to ζ → v ≡ reverse ks → to ≡ end → ζ ≡ ε → BeginsFilled v → LaysBefore P rank key δ p v to ζ
      due_trees _ _ _ (flat _ _) is at read top = flat_before δ p
      due_trees _ _ _ (stood _ _ w m μ t above below l at2 place share) is at read top =
          stood_before δ p w m μ t above below (due_stood rank most ranked key δ p w m μ (let low = base.low above below t at2 in omega (arith, low, place)) l) at2 place share
      due_trees _ _ _ (shifted _ _ w m μ s pad size l late2 sees acts) is at read top =
          let less : m < look = (let b = shift_bytes P facts μ m s pad size sees acts in let e = end_within in omega (arith, b, e, at)) in
          shifted_before δ p w m μ s pad size
          (due_below rank most ranked key δ p w m μ n m state less l (rests_here μ m late2 (record { symbol = s; pad = pad; size = size; sees = sees; moves = (shift, acts) }))) late2 less sees acts
      due_trees _ _ _ (passed _ _ w m μ s pad size l late2 passes) is at read top = absurd (true≢false (sym (extra_says facts.laws.runs s pad size).kind ∙ top))
      due_trees _ _ _ (made _ _ w m μ ks2 to ε2 xs2 look2 number2 left2 pr2 l inner2 outer2 all2 late2 taken2 folds2 count2 deep2) is at read top =
          let t : Tree = node_made P number2 ks2 in
          let here = made δ p w m μ ks2 to ε2 xs2 look2 number2 left2 pr2 l inner2 outer2 all2 late2 taken2 folds2 count2 deep2 in
          let above = lays_state P facts base δ p (t ∷ w) to (left2 ∷ μ) n state here in
          let rests : Rests (left2 ∷ μ) to look = subst (λ (i : ℕ). Rests (left2 ∷ μ) i look) (sym at) (subst (λ (r : List ℕ). Rests r end look) (sym read) rests_top) in
          let no_later = made_look ε2 to xs2 look2 number2 left2 pr2 μ above.0 look above.1 outer2 all2 late2 folds2 rests in
          let first = top_first t w m left2 μ (sym is) (kind_of P facts number2 left2 pr2 ks2 folds2.at) (symbol_is P facts number2 left2 pr2 ks2 folds2.at) l in
          made_before δ p w m μ ks2 to ε2 xs2 look2 number2 left2 pr2
          (due_under rank most ranked key δ p w m μ ks2 to ε2 look2 number2 left2 pr2 l inner2 taken2 folds2 count2 (let e = end_within in omega (arith, e, at))
          (λ r lt rests2. due_below rank most ranked key δ p w m μ n r state lt l rests2))
          inner2 outer2 all2 late2 taken2 folds2 count2 deep2 (earlier_top look2 m left2 no_later first)

    -- All that a reduction takes comes before the node that it makes, and so do the extras above.
    pub order_inner : (δ : List ℕ) (p : ℕ) (ks : List Tree) (end : ℕ) (ε : List ℕ) (xs : List Tree) (look number left : ℕ) (pr : Production) (n : ℕ) → LeadsTo P.goto δ n → CanMakeNode P δ p ks end ε xs look number left pr
        → LaysBefore P rank (record { look = look; begins = p; rank = rank left }) δ p (reverse ks) end ε
    order_inner δ p ks end ε xs look number left pr n state c = by c.taken
      where
        by : Taken ks [] δ p → LaysBefore P rank (record { look = look; begins = p; rank = rank left }) δ p (reverse ks) end ε
        by (some long begins ends) = due_trees δ p ks end ε xs look number left pr n state c.inner c.outer c.all_extras c.late c.reduces c.count long begins (reverse ks) end ε c.inner refl refl refl ends
        by (nothing none low read place) = before_none rank most ranked (record { look = look; begins = p; rank = rank left }) δ p (reverse ks) end ε c.inner (ap reverse none)

    pub order_outer : (δ : List ℕ) (p : ℕ) (ks : List Tree) (end : ℕ) (ε : List ℕ) (xs : List Tree) (look number left : ℕ) (pr : Production) → CanMakeNode P δ p ks end ε xs look number left pr
        → LaysBefore P rank (record { look = look; begins = p; rank = rank left }) ε end xs look ε
    order_outer δ p ks end ε xs look number left pr c =
        subst (λ (w : List Tree). LaysBefore P rank (record { look = look; begins = p; rank = rank left }) ε end w look ε) (append-nil xs)
        (due_extras rank most ranked (record { look = look; begins = p; rank = rank left }) ε end [] end ε (flat_before ε end) xs look ε c.outer c.all_extras (omega arith) c.late)
