-- Runs lay entries one after another, and what is laid is reached.
use Rattle.std.proofs.Common.{◌≡◌, ◌∙◌, sym, ap, refl, subst, ℕ, zero, suc, ◌+◌, ◌<◌, ◌≤◌, ◌⊎◌, inl, inr, Bool, true, false, true≢false, List, [], ◌∷◌, ◌++◌, append-nil, append_assoc, length, length-append, reverse, Option, Some, None, is_some, IsTrue, arith}
use lib.IntN.{◌+ℤ◌}
use Rattle.std.proofs.lemmas.Bool.{cases_order}
use Rattle.std.proofs.lemmas.List.{reverse-append, length-map, length-reverse}
use Rattle.ts_core.specs.declared.flat.FlatGrammar.{FlatGrammar}
use Rattle.ts_core.specs.declared.flat.Production.{Production}
use Rattle.ts_core.specs.declared.flat.Step.{Step}
use Rattle.ts_core.specs.declared.symbol.Symbol.{Symbol}
use Rattle.spec_grammar.specs.Symbols.{start_symbol, production_at, is_repetition}
use Rattle.spec_lexing.specs.Lexing.{token}
use Rattle.spec_tables.specs.Actions.{Act, shift, reduce}
use Rattle.spec_trees.specs.declared.tree.Tree.{Tree}
use Rattle.spec_trees.specs.Trees.{symbol_of, production_of, is_extra_node, all_totals, span_of, all_spans, tree_depth}
use Rattle.spec_trees.specs.Made.{reduced, made_by, form_of, left_of, value_of, filling, step_symbols, BeginsFilled, most_depth}
use Rattle.spec_runs.specs.Configurations.{Configuration, token_tree, AreExtras, IsReduction}
use Rattle.spec_runs.specs.Runs.{CanMove, StepsOn, shift_token, pass_extra, reduce_trees, Run, run_here, run_on}
use Rattle.spec_packing.proofs.MadeLemmas.{over_says, IsMade, AllMade, CanMake, first_some}
use Rattle.spec_graph.specs.States.{LeadsTo, at_first, by_goto}
use Rattle.spec_graph.specs.Laying.{Parsing, IsReading, SeesAt, GoesOn, PassesAt, ReducesAt, extra_tree, node_made, Taken, some, nothing, Lays, flat, stood, shifted, passed, made, ComesOver}
use Rattle.spec_graph.proofs.ReadingLemmas.{no_reading}
use Rattle.spec_graph.proofs.SightLemmas.{Facts, same_token, sees_one, clash, stands_before, IsNarrower, narrows, passes_still, lead_from}
use Rattle.spec_graph.proofs.EntryLemmas.{token_says, extra_says, node_kind, filling_tree, filling_extra, filling_one, filling_append, filling_turned, filling_none, filling_extras, spans_turned, all_made_back, same_front, children_fill, pass_bytes, shift_made, pass_made, node_is_made, node_tells}

-- ---- lists

made_middle : (g : FlatGrammar) (above : List Tree) (t : Tree) (below : List Tree) → AllMade g (above ++ t ∷ below) → IsMade g t
made_middle g [] t below a = a.0
made_middle g (x ∷ above) t below a = made_middle g above t below a.1

begins_front : (xs ys : List Tree) → 0 < length xs → BeginsFilled (xs ++ ys) → BeginsFilled xs
begins_front [] ys lt b = absurd (omega (arith, lt))
begins_front (x ∷ xs) ys lt b = b

pub begins_more : (xs ys : List Tree) → 0 < length xs → BeginsFilled xs → BeginsFilled (xs ++ ys)
begins_more [] ys lt b = absurd (omega (arith, lt))
begins_more (x ∷ xs) ys lt b = b

none_filled : (xs : List Tree) → BeginsFilled xs → filling xs ≡ [] → xs ≡ []
none_filled [] b e = refl
none_filled (x ∷ xs) b e = absurd (let h : symbol_of x ∷ filling xs ≡ [] = sym (filling_tree x xs b) ∙ e in cc)

none_long : {X : Type 0} (xs : List X) → 0 ≡ length xs → xs ≡ []
none_long [] e = refl
none_long (x ∷ xs) e = absurd (omega (arith, e))

pub extras_append : (xs ys : List Tree) → AreExtras xs → AreExtras ys → AreExtras (xs ++ ys)
extras_append [] ys a b = b
extras_append (x ∷ xs) ys a b = (a.0, extras_append xs ys a.1 b)

-- the lowest fills a step and has bytes
abbrev pub HasBottom : List Tree → Type 0
HasBottom [] = ⊥
HasBottom (t ∷ []) = (is_extra_node t ≡ false) × (0 < span_of t)
HasBottom (t ∷ u ∷ w) = HasBottom (u ∷ w)

bottom_last : (xs : List Tree) (t : Tree) → is_extra_node t ≡ false → 0 < span_of t → HasBottom (xs ++ t ∷ [])
bottom_last [] t e lt = (e, lt)
bottom_last (x ∷ []) t e lt = (e, lt)
bottom_last (x ∷ y ∷ xs) t e lt = bottom_last (y ∷ xs) t e lt

pub bottom_turned : (g : FlatGrammar) (number left : ℕ) (p : Production) (ks : List Tree) → 0 < length ks → CanMake g number left p ks → HasBottom (reverse ks)
bottom_turned g number left p [] lt c = absurd (omega (arith, lt))
bottom_turned g number left p (k ∷ ks) lt c =
    subst (λ (l : List Tree). HasBottom l) (sym (reverse-append (k ∷ []) ks)) (bottom_last (reverse ks) k c.begins (first_some g number left p k ks c))

pub order_cases : (a b : ℕ) → (a < b) ⊎ (b ≤ a)
order_cases a b = by (cases_order a b)
  where
    by : (a ≡ b) ⊎ ((a < b) ⊎ (b < a)) → (a < b) ⊎ (b ≤ a)
    by (inl e) = inr (omega (arith, e))
    by (inr (inl h)) = inl h
    by (inr (inr h)) = inr (omega (arith, h))

-- a tree of the start rule that fills a step has a number
abbrev pub IsRuled : FlatGrammar → Tree → Type 0
IsRuled g t = is_extra_node t ≡ false → symbol_of t ≡ start_symbol g → IsTrue (is_some (production_of t))

abbrev pub AreRuled : FlatGrammar → List Tree → Type 0
AreRuled g [] = Unit {0}
AreRuled g (t ∷ ts) = IsRuled g t × AreRuled g ts

pub ruled_middle : (g : FlatGrammar) (above : List Tree) (t : Tree) (below : List Tree) → AreRuled g (above ++ t ∷ below) → IsRuled g t
ruled_middle g [] t below a = a.0
ruled_middle g (x ∷ above) t below a = ruled_middle g above t below a.1

-- what is known of all readings of the stack from which runs go on
pub record IsBase (P : Parsing) : Type 0 where
  pub spans : (stack : List Tree) → IsReading P stack → all_spans stack ≡ P.place
  pub low : (above below : List Tree) (t : Tree) → IsReading P (above ++ t ∷ below) → all_spans below < P.place
  pub extra : (above below : List Tree) (t : Tree) → IsReading P (above ++ t ∷ below) → is_extra_node t ≡ true → all_spans below + span_of t < P.place
  pub some_extra : (above below : List Tree) (t : Tree) → IsReading P (above ++ t ∷ below) → is_extra_node t ≡ true → 0 < span_of t
  pub same_extras : (above below over under : List Tree) (t u : Tree) → IsReading P (above ++ t ∷ below) → IsReading P (over ++ u ∷ under) → all_spans below ≡ all_spans under → 0 < span_of t → 0 < span_of u → is_extra_node t ≡ true → is_extra_node u ≡ true → t ≡ u
  pub rule : (above below : List Tree) (t : Tree) → IsReading P (above ++ t ∷ below) → IsRuled P.grammar t
  pub all_made : (stack : List Tree) → IsReading P stack → AllMade P.grammar stack
  pub states : (above below : List Tree) → IsReading P (above ++ below) → (n : ℕ) × LeadsTo P.goto (filling below) n

module _ (P : Parsing) (facts : Facts P) where
  run_more : (a b c : Configuration) → Run P.grammar P.text a b → StepsOn P.grammar P.text b c → Run P.grammar P.text a c
  run_more a _ c (run_here _) s = run_on a c c s (run_here c)
  run_more a b c (run_on _ d _ first rest) s = run_on a d c first (run_more d b c rest s)

  pub run_join : (a b c : Configuration) → Run P.grammar P.text a b → Run P.grammar P.text b c → Run P.grammar P.text a c
  run_join a _ c (run_here _) r = r
  run_join a b c (run_on _ d _ first rest) r = run_on a d c first (run_join d b c rest r)

  span_token : (s : Symbol) (pad size : ℕ) → span_of (token_tree s pad size) ≡ pad + size
  span_token s pad size = let t = token_says facts.laws.runs s pad size in omega (arith, t.pad, t.size)

  span_extra : (s : Symbol) (pad size : ℕ) → span_of (extra_tree s pad size) ≡ pad + size
  span_extra s pad size = let t = extra_says facts.laws.runs s pad size in omega (arith, t.pad, t.size)

  read_token : (s : Symbol) (pad size : ℕ) (w : List Tree) → filling (token_tree s pad size ∷ w) ≡ s.0 ∷ filling w
  read_token s pad size w =
      let t = token_says facts.laws.runs s pad size in
      filling_tree (token_tree s pad size) w t.kind ∙ ap (λ (n : ℕ). n ∷ filling w) t.symbol

  read_extra : (s : Symbol) (pad size : ℕ) (w : List Tree) → filling (extra_tree s pad size ∷ w) ≡ filling w
  read_extra s pad size w = filling_extra (extra_tree s pad size) w (extra_says facts.laws.runs s pad size).kind

  read_node : (number left : ℕ) (p : Production) → production_at P.grammar number ≡ Some (left, p) → (ks w : List Tree) → filling (node_made P number ks ∷ w) ≡ left ∷ filling w
  read_node number left p at ks w =
      let k = node_kind facts.laws.runs P.grammar number left p at ks in
      filling_tree (node_made P number ks) w k.1 ∙ ap (λ (n : ℕ). n ∷ filling w) k.0

  -- ---- what is laid in all

  pub lays_read : (γ : List ℕ) (q : ℕ) (w : List Tree) (p : ℕ) (δ : List ℕ) → Lays P γ q w p δ → δ ≡ filling w ++ γ
  lays_read γ q _ _ _ (flat _ _) = refl
  lays_read γ q _ _ _ (stood _ _ w p δ t above below l at place share) =
      ap (λ (r : List ℕ). filling (t ∷ []) ++ r) (lays_read γ q w p δ l)
      ∙ sym (append_assoc (filling (t ∷ [])) (filling w) γ) ∙ ap (λ (r : List ℕ). r ++ γ) (sym (filling_one t w))
  lays_read γ q _ _ _ (shifted _ _ w p δ s pad size l late sees acts) = ap (λ (r : List ℕ). s.0 ∷ r) (lays_read γ q w p δ l) ∙ ap (λ (r : List ℕ). r ++ γ) (sym (read_token s pad size w))
  lays_read γ q _ _ _ (passed _ _ w p δ s pad size l late passes) = lays_read γ q w p δ l ∙ ap (λ (r : List ℕ). r ++ γ) (sym (read_extra s pad size w))
  lays_read γ q _ _ _ (made _ _ w p δ ks end ε xs look number left pr l inner outer all late taken folds count deep) =
      ap (λ (r : List ℕ). left ∷ r) (lays_read γ q w p δ l) ∙ ap (λ (r : List ℕ). r ++ γ) (sym (read_node number left pr folds.at ks w))

  pub begins_taken : (ks w : List Tree) (γ : List ℕ) (q : ℕ) → Taken ks w γ q → BeginsFilled ks
  begins_taken ks w γ q (some lt begins ends) = begins
  begins_taken ks w γ q (nothing none low read place) = subst (λ (l : List Tree). BeginsFilled l) (sym none) tt

  module _ (base : IsBase P) where
    pub lays_made : (γ : List ℕ) (q : ℕ) (w : List Tree) (p : ℕ) (δ : List ℕ) → Lays P γ q w p δ → AllMade P.grammar w
    lays_made γ q _ _ _ (flat _ _) = tt
    lays_made γ q _ _ _ (stood _ _ w p δ t above below l at place share) = (made_middle P.grammar above t below (base.all_made (above ++ t ∷ below) at), lays_made γ q w p δ l)
    lays_made γ q _ _ _ (shifted _ _ w p δ s pad size l late sees acts) = (shift_made P facts δ p s pad size sees acts, lays_made γ q w p δ l)
    lays_made γ q _ _ _ (passed _ _ w p δ s pad size l late passes) = (pass_made P facts δ p s pad size passes, lays_made γ q w p δ l)
    lays_made γ q _ _ _ (made _ _ w p δ ks end ε xs look number left pr l inner outer all late taken folds count deep) = (
      node_is_made P facts number left pr ks (record {
        at = folds.at;
        filled = children_fill P facts ε δ look number left pr ks folds (lays_read δ p (reverse ks) end ε inner) count;
        begins = begins_taken ks w γ q taken;
        made = all_made_back P.grammar ks (lays_made δ p (reverse ks) end ε inner);
      }),
      lays_made γ q w p δ l,
    )

    -- a node of the start rule has the number of its production
    node_ruled : (number left : ℕ) (p : Production) → production_at P.grammar number ≡ Some (left, p) → (ks : List Tree) → IsRuled P.grammar (node_made P number ks)
    node_ruled number left p at ks fills start =
        subst (λ (o : Option ℕ). IsTrue (is_some o)) (sym ((facts.laws.runs.keeps (reduced P.grammar number 0 None ks)).production ∙ by (left_of P.grammar number) plain)) refl
      where
        left_is : left_of P.grammar number ≡ left
        left_is = rw at refl

        plain : is_repetition P.grammar (left_of P.grammar number) ≡ false
        plain =
            ap (is_repetition P.grammar) (left_is ∙ sym (node_kind facts.laws.runs P.grammar number left p at ks).0 ∙ start)
            ∙ facts.laws.runs.start_rule P.grammar facts.fit

        by : (l : ℕ) → is_repetition P.grammar l ≡ false → production_of (made_by (form_of P.grammar l number) l number (value_of P.grammar number) 0 None ks) ≡ Some number
        by l e = rw e (over_says l (Some number) (value_of P.grammar number +ℤ all_totals ks) [] ks).production_is

    pub lays_ruled : (γ : List ℕ) (q : ℕ) (w : List Tree) (p : ℕ) (δ : List ℕ) → Lays P γ q w p δ → AreRuled P.grammar w
    lays_ruled γ q _ _ _ (flat _ _) = tt
    lays_ruled γ q _ _ _ (stood _ _ w p δ t above below l at place share) = (base.rule above below t at, lays_ruled γ q w p δ l)
    lays_ruled γ q _ _ _ (shifted _ _ w p δ s pad size l late sees acts) = (
      (λ fills start.
          let low = (facts.laws.runs.shifts P.grammar δ s.0 acts).0.1 in
          let kind : s.0 ≡ start_symbol P.grammar = sym (token_says facts.laws.runs s pad size).symbol ∙ start in
          absurd (omega (arith, kind, low))),
      lays_ruled γ q w p δ l,
    )
    lays_ruled γ q _ _ _ (passed _ _ w p δ s pad size l late passes) = (
      (λ fills start. absurd (true≢false (sym (extra_says facts.laws.runs s pad size).kind ∙ fills))),
      lays_ruled γ q w p δ l,
    )
    lays_ruled γ q _ _ _ (made _ _ w p δ ks end ε xs look number left pr l inner outer all late taken folds count deep) =
        (node_ruled number left pr folds.at ks, lays_ruled γ q w p δ l)

    pub can_make : (δ : List ℕ) (p : ℕ) (ks : List Tree) (end : ℕ) (ε : List ℕ) (look number left : ℕ) (pr : Production) → Lays P δ p (reverse ks) end ε → BeginsFilled ks → ReducesAt P ε look number left pr δ → length (filling ks) ≡ length pr.steps → CanMake P.grammar number left pr ks
    can_make δ p ks end ε look number left pr inner begins folds count = record {
      at = folds.at;
      filled = children_fill P facts ε δ look number left pr ks folds (lays_read δ p (reverse ks) end ε inner) count;
      begins = begins;
      made = all_made_back P.grammar ks (lays_made δ p (reverse ks) end ε inner);
    }

    pub lays_spans : (γ : List ℕ) (q : ℕ) (w : List Tree) (p : ℕ) (δ : List ℕ) → Lays P γ q w p δ → q + all_spans w ≡ p
    lays_spans γ q _ _ _ (flat _ _) = omega arith
    lays_spans γ q _ _ _ (stood _ _ w p δ t above below l at place share) = omega (arith, lays_spans γ q w p δ l)
    lays_spans γ q _ _ _ (shifted _ _ w p δ s pad size l late sees acts) = omega (arith, span_token s pad size, lays_spans γ q w p δ l)
    lays_spans γ q _ _ _ (passed _ _ w p δ s pad size l late passes) = omega (arith, span_extra s pad size, lays_spans γ q w p δ l)
    lays_spans γ q _ _ _ (made _ _ w p δ ks end ε xs look number left pr l inner outer all late taken folds count deep) =
        let n = node_tells P facts number left pr ks (can_make δ p ks end ε look number left pr inner (begins_taken ks w γ q taken) folds count) in
        omega (arith, n.span, spans_turned ks, lays_spans γ q w p δ l, lays_spans δ p (reverse ks) end ε inner)

    pub grows : (γ : List ℕ) (q : ℕ) (w : List Tree) (p : ℕ) (δ : List ℕ) → Lays P γ q w p δ → q ≤ p
    grows γ q w p δ l = omega (arith, lays_spans γ q w p δ l)

    pub lays_none : (γ : List ℕ) (q : ℕ) (w : List Tree) (p : ℕ) (δ : List ℕ) → Lays P γ q w p δ → w ≡ [] → (p ≡ q) × (δ ≡ γ)
    lays_none γ q w p δ l e =
        let s : all_spans w ≡ 0 = ap all_spans e in
        (omega (arith, lays_spans γ q w p δ l, s), lays_read γ q w p δ l ∙ ap (λ (v : List Tree). filling v ++ γ) e)

    -- each list of symbols that is read leads to a state
    pub lays_state : (γ : List ℕ) (q : ℕ) (w : List Tree) (p : ℕ) (δ : List ℕ) → (n : ℕ) → LeadsTo P.goto γ n → Lays P γ q w p δ → (m : ℕ) × LeadsTo P.goto δ m
    lays_state γ q _ _ _ n k (flat _ _) = (n, k)
    lays_state γ q _ _ _ n k (stood _ _ w p δ t above below l at place share) = by (is_extra_node t) refl
      where
        by : (b : Bool) → is_extra_node t ≡ b → (m : ℕ) × LeadsTo P.goto (filling (t ∷ []) ++ δ) m
        by true e = (share.0, subst (λ (r : List ℕ). LeadsTo P.goto (r ++ δ) share.0) (sym (filling_extra t [] e)) share.2)
        by false e =
            let w = base.states above (t ∷ below) at in
            let h : LeadsTo P.goto (symbol_of t ∷ filling below) w.0 = subst (λ (r : List ℕ). LeadsTo P.goto r w.0) (filling_tree t below e) w.1 in
            let next : LeadsTo P.goto (symbol_of t ∷ δ) w.0 = by_goto δ share.0 (symbol_of t) w.0 share.2 (lead_from P.goto (filling below) (symbol_of t) w.0 share.0 share.1 h) in
            (w.0, subst (λ (r : List ℕ). LeadsTo P.goto (r ++ δ) w.0) (sym (filling_tree t [] e)) next)
    lays_state γ q _ _ _ n k (shifted _ _ w p δ s pad size l late sees acts) =
        let m = lays_state γ q w p δ n k l in
        let on = facts.states.leads δ m.0 s.0 m.1 (facts.laws.runs.shifts P.grammar δ s.0 acts).1 in
        (on.0, by_goto δ m.0 s.0 on.0 m.1 on.1)
    lays_state γ q _ _ _ n k (passed _ _ w p δ s pad size l late passes) = lays_state γ q w p δ n k l
    lays_state γ q _ _ _ n k (made _ _ w p δ ks end ε xs look number left pr l inner outer all late taken folds count deep) =
        let m = lays_state γ q w p δ n k l in
        let on = facts.states.leads δ m.0 left m.1 (stands_before P facts ε look number left pr δ folds) in
        (on.0, by_goto δ m.0 left on.0 m.1 on.1)

    -- ---- entries in parts

    pub record Split (γ : List ℕ) (q : ℕ) (w v : List Tree) (p : ℕ) (δ : List ℕ) : Type 0 where
      pub place : ℕ
      pub between : List ℕ
      pub low : Lays P γ q w place between
      pub high : Lays P between place v p δ

    -- what is taken above some trees does not depend on them, unless it is nothing
    pub split : (v w : List Tree) (γ : List ℕ) (q p : ℕ) (δ : List ℕ) → Lays P γ q (v ++ w) p δ → Split γ q w v p δ
    split [] w γ q p δ l = record { place = p; between = δ; low = l; high = flat δ p }
    split (_ ∷ v) w γ q _ _ (stood _ _ _ p δ t above below l at place share) =
        let s = split v w γ q p δ l in
        record { place = s.place; between = s.between; low = s.low; high = stood s.between s.place v p δ t above below s.high at place share }
    split (_ ∷ v) w γ q _ _ (shifted _ _ _ p δ s pad size l late sees acts) =
        let k = split v w γ q p δ l in
        record { place = k.place; between = k.between; low = k.low; high = shifted k.between k.place v p δ s pad size k.high late sees acts }
    split (_ ∷ v) w γ q _ _ (passed _ _ _ p δ s pad size l late passes) =
        let k = split v w γ q p δ l in
        record { place = k.place; between = k.between; low = k.low; high = passed k.between k.place v p δ s pad size k.high late passes }
    split (_ ∷ v) w γ q _ _ (made _ _ _ p δ ks end ε xs look number left pr l inner outer all late taken folds count deep) =
        let k = split v w γ q p δ l in
        record { place = k.place; between = k.between; low = k.low; high = made k.between k.place v p δ ks end ε xs look number left pr k.high inner outer all late (above taken k.place k.between k.low) folds count deep }
      where
        above : Taken ks (v ++ w) γ q → (m : ℕ) (μ : List ℕ) → Lays P γ q w m μ → Taken ks v μ m
        above (some lt begins ends) m μ k = some lt begins ends
        above (nothing none low read place) m μ k =
            let parts : (v ≡ []) × (w ≡ []) = both v w low in
            let here = lays_none γ q w m μ k parts.1 in
            nothing none parts.0 (here.1 ∙ read) (here.0 ∙ place)
          where
            both : (v w : List Tree) → v ++ w ≡ [] → (v ≡ []) × (w ≡ [])
            both [] w e = (refl, e)
            both (x ∷ v) w e = absurd (let h : x ∷ (v ++ w) ≡ [] = e in cc)

    -- what is laid on entries that are laid; where something is below, something is taken
    pub joins : (γ : List ℕ) (q : ℕ) (w : List Tree) (m : ℕ) (μ : List ℕ) (v : List Tree) (p : ℕ) (δ : List ℕ) → (μ ≡ [] → m ≡ 0 → (w ≡ []) × (γ ≡ []) × (q ≡ 0)) → Lays P γ q w m μ → Lays P μ m v p δ → Lays P γ q (v ++ w) p δ
    joins γ q w m μ _ _ _ low a (flat _ _) = a
    joins γ q w m μ _ _ _ low a (stood _ _ v p δ t above below l at place share) = stood γ q (v ++ w) p δ t above below (joins γ q w m μ v p δ low a l) at place share
    joins γ q w m μ _ _ _ low a (shifted _ _ v p δ s pad size l late sees acts) = shifted γ q (v ++ w) p δ s pad size (joins γ q w m μ v p δ low a l) late sees acts
    joins γ q w m μ _ _ _ low a (passed _ _ v p δ s pad size l late passes) = passed γ q (v ++ w) p δ s pad size (joins γ q w m μ v p δ low a l) late passes
    joins γ q w m μ _ _ _ low a (made _ _ v p δ ks end ε xs look number left pr l inner outer all late taken folds count deep) =
        made γ q (v ++ w) p δ ks end ε xs look number left pr (joins γ q w m μ v p δ low a l) inner outer all late (below taken) folds count deep
      where
        below : Taken ks v μ m → Taken ks (v ++ w) γ q
        below (some lt begins ends) = some lt begins ends
        below (nothing none none_v read place) =
            let h = low read place in
            nothing none (ap (λ (x : List Tree). x ++ w) none_v ∙ h.0) h.1 h.2

    -- what is laid up to the place 0, with no symbols read, is nothing
    pub nothing_laid : (γ : List ℕ) (q : ℕ) (w : List Tree) (p : ℕ) (δ : List ℕ) → Lays P γ q w p δ → δ ≡ [] → p ≡ 0 → w ≡ []
    nothing_laid γ q _ _ _ (flat _ _) e z = refl
    nothing_laid γ q _ _ _ (stood _ _ w p δ t above below l at place share) e z = absurd (by (is_extra_node t) refl)
      where
        by : (b : Bool) → is_extra_node t ≡ b → ⊥
        by true is = let h = base.some_extra above below t at is in omega (arith, h, z)
        by false is =
            let f : symbol_of t ∷ δ ≡ filling (t ∷ []) ++ δ = ap (λ (r : List ℕ). r ++ δ) (sym (filling_tree t [] is)) in
            let h : symbol_of t ∷ δ ≡ [] = f ∙ e in cc
    nothing_laid γ q _ _ _ (shifted _ _ w p δ s pad size l late sees acts) e z = absurd (let h : s.0 ∷ δ ≡ [] = e in cc)
    nothing_laid γ q _ _ _ (passed _ _ w p δ s pad size l late passes) e z = absurd (let h = pass_bytes P facts δ p s pad size passes in omega (arith, h, z))
    nothing_laid γ q _ _ _ (made _ _ w p δ ks end ε xs look number left pr l inner outer all late taken folds count deep) e z = absurd (let h : left ∷ δ ≡ [] = e in cc)

    -- extras change no symbols
    pub extras_same : (xs : List Tree) (γ : List ℕ) (q p : ℕ) (δ : List ℕ) → AreExtras xs → Lays P γ q xs p δ → δ ≡ γ
    extras_same xs γ q p δ a l = lays_read γ q xs p δ l ∙ ap (λ (r : List ℕ). r ++ γ) (filling_none xs a)

    -- an extra of the stack from which runs go on ends before that place
    pub not_stood : (above below : List Tree) (t : Tree) (p : ℕ) → IsReading P (above ++ t ∷ below) → p ≡ all_spans below → is_extra_node t ≡ true → P.place ≤ p + span_of t → ⊥
    not_stood above below t p at place e late = let h = base.extra above below t at e in omega (arith, h, place, late)

    token_fills : (s : Symbol) (pad size : ℕ) → is_extra_node (token_tree s pad size) ≡ true → ⊥
    token_fills s pad size e = true≢false (sym e ∙ (token_says facts.laws.runs s pad size).kind)

    node_fills : (number left : ℕ) (p : Production) (ks : List Tree) → production_at P.grammar number ≡ Some (left, p) → is_extra_node (node_made P number ks) ≡ true → ⊥
    node_fills number left p ks at e = true≢false (sym e ∙ (node_kind facts.laws.runs P.grammar number left p at ks).1)

    -- extras stay extras after a reduction
    pub passes_on : (γ δ : List ℕ) → IsNarrower P γ δ → (n : ℕ) → LeadsTo P.goto δ n → (xs : List Tree) (q p : ℕ) → AreExtras xs → P.place ≤ p → Lays P γ q xs p γ → Lays P δ q xs p δ
    passes_on γ δ narrower n k xs q p all late l = go xs p γ all late l refl
      where
        go : (xs : List Tree) (p : ℕ) (ε : List ℕ) → AreExtras xs → P.place ≤ p → Lays P γ q xs p ε → ε ≡ γ → Lays P δ q xs p δ
        go _ _ _ a le (flat _ _) is = flat δ q
        go _ _ _ a le (stood _ _ w m μ t above below l at place share) is = absurd (not_stood above below t m at place a.0 le)
        go _ _ _ a le (shifted _ _ w m μ s pad size l late2 sees acts) is = absurd (token_fills s pad size a.0)
        go _ _ _ a le (passed _ _ w m μ s pad size l late2 passes) is =
            passed δ q w m δ s pad size (go w m μ a.1 late2 l is) late2
            (passes_still P facts γ δ narrower n k m s pad size (subst (λ (g : List ℕ). PassesAt P g m s pad size) is passes))
        go _ _ _ a le (made _ _ w m μ ks end ε xs look number left pr l inner outer all2 late2 taken folds count deep) is = absurd (node_fills number left pr ks folds.at a.0)

    -- ---- the lowest extra

    pub data Peeled (γ : List ℕ) (q : ℕ) (xs : List Tree) (p : ℕ) : Type 0 where
      bare_place : xs ≡ [] → q ≡ p → Peeled γ q xs p
      one_more : (ys : List Tree) (s : Symbol) (pad size : ℕ) → xs ≡ ys ++ extra_tree s pad size ∷ [] → P.place ≤ q → PassesAt P γ q s pad size → Lays P γ (q + (pad + size)) ys p γ → AreExtras ys → Peeled γ q xs p

    pub peel : (γ : List ℕ) (q : ℕ) (xs : List Tree) (p : ℕ) (δ : List ℕ) → Lays P γ q xs p δ → AreExtras xs → P.place ≤ p → δ ≡ γ → Peeled γ q xs p
    peel γ q _ _ _ (flat _ _) a le is = bare_place refl refl
    peel γ q _ _ _ (stood _ _ w m μ t above below l at place share) a le is = absurd (not_stood above below t m at place a.0 le)
    peel γ q _ _ _ (shifted _ _ w p δ s pad size l late sees acts) a le is = absurd (token_fills s pad size a.0)
    peel γ q _ _ _ (made _ _ w p δ ks end ε xs look number left pr l inner outer all2 late2 taken folds count deep) a le is = absurd (node_fills number left pr ks folds.at a.0)
    peel γ q _ _ _ (passed _ _ w p δ s pad size l late passes) a le is = on (peel γ q w p δ l a.1 late is)
      where
        here_passes : PassesAt P γ p s pad size
        here_passes = subst (λ (g : List ℕ). PassesAt P g p s pad size) is passes

        on : Peeled γ q w p → Peeled γ q (extra_tree s pad size ∷ w) (p + (pad + size))
        on (bare_place none place) =
            one_more [] s pad size (ap (λ (u : List Tree). extra_tree s pad size ∷ u) none) (omega (arith, late, place)) (subst (λ (m : ℕ). PassesAt P γ m s pad size) (sym place) here_passes)
            (subst (λ (m : ℕ). Lays P γ (q + (pad + size)) [] (m + (pad + size)) γ) place (flat γ (q + (pad + size)))) tt
        on (one_more ys t pad2 size2 w_is late2 first rest all) =
            one_more (extra_tree s pad size ∷ ys) t pad2 size2 (ap (λ (v : List Tree). extra_tree s pad size ∷ v) w_is) late2 first
            (passed γ (q + (pad2 + size2)) ys p γ s pad size rest late here_passes) ((extra_says facts.laws.runs s pad size).kind, all)

    -- a tree that is laid begins with a token on which a move stays
    pub starts : (γ : List ℕ) (q : ℕ) (w : List Tree) (p : ℕ) (δ : List ℕ) → Lays P γ q w p δ → P.place ≤ q → HasBottom w → GoesOn P γ q
    starts γ q _ _ _ (flat _ _) late h = absurd h
    starts γ q _ _ _ (stood _ _ w p δ t above below l at place share) late h =
        absurd (let low = base.low above below t at in let g = grows γ q w p δ l in omega (arith, low, g, place, late))
    starts γ q _ _ _ (shifted _ _ [] p δ s pad size l late2 sees acts) late h =
        let e = lays_none γ q [] p δ l refl in
        subst (λ (m : ℕ). GoesOn P γ m) e.0 (subst (λ (r : List ℕ). GoesOn P r p) e.1 (record { symbol = s; pad = pad; size = size; sees = sees; moves = (shift, acts) }))
    starts γ q _ _ _ (shifted _ _ (f ∷ w) p δ s pad size l late2 sees acts) late h = starts γ q (f ∷ w) p δ l late h
    starts γ q _ _ _ (passed _ _ [] p δ s pad size l late2 passes) late h = absurd (true≢false (sym (extra_says facts.laws.runs s pad size).kind ∙ h.0))
    starts γ q _ _ _ (passed _ _ (f ∷ w) p δ s pad size l late2 passes) late h = starts γ q (f ∷ w) p δ l late h
    starts γ q _ _ _ (made _ _ (f ∷ w) p δ ks end ε xs look number left pr l inner outer all2 late2 taken folds count deep) late h = starts γ q (f ∷ w) p δ l late h
    starts γ q _ _ _ (made _ _ [] p δ ks end ε xs look number left pr l inner outer all2 late2 taken folds count deep) late h =
        let e = lays_none γ q [] p δ l refl in
        subst (λ (m : ℕ). GoesOn P γ m) e.0 (subst (λ (r : List ℕ). GoesOn P r p) e.1
        (starts δ p (reverse ks) end ε inner (let f = e.0 in omega (arith, late, f)) bottom))
      where
        make : CanMake P.grammar number left pr ks
        make = can_make δ p ks end ε look number left pr inner (begins_taken ks [] γ q taken) folds count

        some_bytes : 0 < all_spans ks
        some_bytes = let n = node_tells P facts number left pr ks make in let b = h.1 in omega (arith, b, n.span)

        long : (ks : List Tree) → 0 < all_spans ks → 0 < length ks
        long [] lt = lt
        long (k ∷ ks) lt = omega arith

        bottom : HasBottom (reverse ks)
        bottom = bottom_turned P.grammar number left pr ks (long ks some_bytes) make

    -- ---- each run lays entries

    children_taken : (number left : ℕ) (p : Production) (ks below : List Tree) (read : List ℕ) (seen : ℕ) → Act P.grammar read seen (reduce number) → production_at P.grammar number ≡ Some (left, p) → length (filling ks) ≡ length p.steps
        → read ≡ filling (reverse ks ++ below) → BeginsFilled (reverse ks ++ below) → BeginsFilled ks → Taken ks below [] 0
    children_taken number left p [] below read seen acts at count is begins first =
        let none : p.steps ≡ [] = none_long p.steps count in
        let empty : read ≡ [] = facts.laws.nothing P.grammar facts.fit read seen number left p acts at none in
        nothing refl (none_filled below begins (sym is ∙ empty)) refl refl
    children_taken number left p (k ∷ ks) below read seen acts at count is begins first =
        let long : length (reverse (k ∷ ks)) ≡ length (k ∷ ks) = length-reverse (k ∷ ks) in
        some (omega arith) first (begins_front (reverse (k ∷ ks)) below (omega (arith, long)) begins)

    -- what a reduction of a stack that is laid from the start takes off it
    pub record Parts (c : Configuration) (number left : ℕ) (p : Production) (xs ks w : List Tree) : Type 0 where
      pub place : ℕ
      pub end : ℕ
      pub low : Lays P [] 0 w place (filling w)
      pub inner : Lays P (filling w) place (reverse ks) end (filling c.stack)
      pub outer : Lays P (filling c.stack) end xs c.place (filling c.stack)
      pub taken : Taken ks w [] 0
      pub folds : ReducesAt P (filling c.stack) c.place number left p (filling w)

    pub reduction_parts : (c : Configuration) (number : ℕ) (node : Tree) (after : List Tree) → Lays P [] 0 c.stack c.place (filling c.stack) → CanMove P.grammar P.text c (reduce number)
        → (r : IsReduction P.grammar number c.stack node after) → Parts c number r.left r.production r.lifted r.children r.below
    reduction_parts c number node after l move r =
        let ks = r.children in
        let xs = r.lifted in
        let w = r.below in
        let read : List ℕ = filling c.stack in
        let a = split xs (reverse ks ++ w) [] 0 c.place read (subst (λ (s : List Tree). Lays P [] 0 s c.place read) r.stack_is l) in
        let e : read ≡ a.between = extras_same xs a.between a.place c.place read r.extras a.high in
        let b = split (reverse ks) w [] 0 a.place a.between a.low in
        let d : b.between ≡ filling w = lays_read [] 0 w b.place b.between b.low ∙ append-nil (filling w) in
        let now : List ℕ = filling w in
        let inner : Lays P now b.place (reverse ks) a.place read = subst (λ (g : List ℕ). Lays P now b.place (reverse ks) a.place g) (sym e) (subst (λ (g : List ℕ). Lays P g b.place (reverse ks) a.place a.between) d b.high) in
        let ends = facts.laws.runs.reduces P.grammar read move.symbol.0 number move.stays in
        let both : ◌≡◌ {A = Option (ℕ × Production)} (Some (ends.left, ends.production)) (Some (r.left, r.production)) = sym ends.at ∙ r.at in
        let pair : ◌≡◌ {A = ℕ × Production} (ends.left, ends.production) (r.left, r.production) = cc in
        let same : ends.production ≡ r.production = ap (λ (q : ℕ × Production). q.1) pair in
        let is_read : read ≡ reverse (filling ks) ++ now = lays_read now b.place (reverse ks) a.place read inner ∙ ap (λ (g : List ℕ). g ++ now) (filling_turned ks) in
        let other : read ≡ reverse (step_symbols r.production) ++ ends.earlier = ends.read_is ∙ ap (λ (q : Production). reverse (step_symbols q) ++ ends.earlier) same in
        let many : length (reverse (filling ks)) ≡ length (reverse (step_symbols r.production)) =
        length-reverse (filling ks) ∙ r.count ∙ sym (length-map r.production.steps (λ (step : Step). step.symbol.0)) ∙ sym (length-reverse (step_symbols r.production)) in
        let front : reverse (filling ks) ≡ reverse (step_symbols r.production) = same_front (reverse (filling ks)) (reverse (step_symbols r.production)) now ends.earlier many (sym is_read ∙ other) in
        let all_read : read ≡ filling (reverse ks ++ w) = ap filling r.stack_is ∙ filling_extras xs (reverse ks ++ w) r.extras in
        record {
          place = b.place;
          end = a.place;
          low = subst (λ (g : List ℕ). Lays P [] 0 w b.place g) d b.low;
          inner = inner;
          outer = subst (λ (g : List ℕ). Lays P g a.place xs c.place read) (sym e) a.high;
          taken = children_taken number r.left r.production ks w read move.symbol.0 move.stays r.at r.count all_read r.all_lifted r.first_fills;
          folds = record {
            symbol = move.symbol;
            pad = move.pad;
            size = move.size;
            sees = move.next;
            stays = move.stays;
            at = r.at;
            read_is = is_read ∙ ap (λ (g : List ℕ). g ++ now) front;
          };
        }

    -- a reduction of what is laid from the start
    lays_reduce : (c : Configuration) (number : ℕ) (node : Tree) (after : List Tree) → Lays P [] 0 c.stack c.place (filling c.stack) → P.place ≤ c.place → CanMove P.grammar P.text c (reduce number)
        → IsReduction P.grammar number c.stack node after → tree_depth node ≤ most_depth → Lays P [] 0 after c.place (filling after)
    lays_reduce c number node after l late move r shallow =
        let h = reduction_parts c number node after l move r in
        let ks = r.children in
        let xs = r.lifted in
        let w = r.below in
        let read : List ℕ = filling c.stack in
        let now : List ℕ = filling w in
        let deep : tree_depth (node_made P number ks) ≤ most_depth = subst (λ (t : Tree). tree_depth t ≤ most_depth) r.node_is shallow in
        let one = made [] 0 w h.place now ks h.end read xs c.place number r.left r.production h.low h.inner h.outer r.extras late h.taken h.folds r.count deep in
        let state = lays_state [] 0 (node_made P number ks ∷ w) h.end (r.left ∷ now) 0 at_first one in
        let over = passes_on read (r.left ∷ now) (narrows P facts read c.place number r.left r.production now h.folds) state.0 state.1 xs h.end c.place r.extras late h.outer in
        let done : Lays P [] 0 (xs ++ node_made P number ks ∷ w) c.place (r.left ∷ now) =
        joins [] 0 (node_made P number ks ∷ w) h.end (r.left ∷ now) xs c.place (r.left ∷ now) (λ none m. absurd (let h : r.left ∷ now ≡ [] = none in cc)) one over in
        let stack : xs ++ node_made P number ks ∷ w ≡ after = ap (λ (t : Tree). xs ++ t ∷ w) (sym r.node_is) ∙ sym r.after_is in
        let read_after : r.left ∷ now ≡ filling after = sym (read_node number r.left r.production r.at ks w) ∙ sym (filling_extras xs (node_made P number ks ∷ w) r.extras) ∙ ap filling stack in
        subst (λ (g : List ℕ). Lays P [] 0 after c.place g) read_after (subst (λ (s : List Tree). Lays P [] 0 s c.place (r.left ∷ now)) stack done)

    lays_step : (c d : Configuration) → Lays P [] 0 c.stack c.place (filling c.stack) → P.place ≤ c.place → StepsOn P.grammar P.text c d → Lays P [] 0 d.stack d.place (filling d.stack) × (P.place ≤ d.place)
    lays_step c _ l late (shift_token s pad size next acts) =
        let t : Tree = token_tree s pad size in
        let h = shifted [] 0 c.stack c.place (filling c.stack) s pad size l late next acts in
        let place : c.place + (pad + size) ≡ c.place + span_of t = ap (λ (n : ℕ). c.place + n) (sym (span_token s pad size)) in
        (subst (λ (m : ℕ). Lays P [] 0 (t ∷ c.stack) m (filling (t ∷ c.stack))) place (subst (λ (g : List ℕ). Lays P [] 0 (t ∷ c.stack) (c.place + (pad + size)) g) (sym (read_token s pad size c.stack)) h), omega (arith, late))
    lays_step c _ l late (pass_extra s pad size next is none) =
        let t : Tree = extra_tree s pad size in
        let h = passed [] 0 c.stack c.place (filling c.stack) s pad size l late (record { sees = next; extra = is; none = none }) in
        let place : c.place + (pad + size) ≡ c.place + span_of t = ap (λ (n : ℕ). c.place + n) (sym (span_extra s pad size)) in
        (subst (λ (m : ℕ). Lays P [] 0 (t ∷ c.stack) m (filling (t ∷ c.stack))) place (subst (λ (g : List ℕ). Lays P [] 0 (t ∷ c.stack) (c.place + (pad + size)) g) (sym (read_extra s pad size c.stack)) h), omega (arith, late))
    lays_step c _ l late (reduce_trees number node after move r shallow) = (lays_reduce c number node after l late move r shallow, late)

    pub lays_run : (c d : Configuration) → Lays P [] 0 c.stack c.place (filling c.stack) → P.place ≤ c.place → Run P.grammar P.text c d → Lays P [] 0 d.stack d.place (filling d.stack) × (P.place ≤ d.place)
    lays_run c _ l late (run_here _) = (l, late)
    lays_run c e l late (run_on _ d _ first rest) = let h = lays_step c d l late first in lays_run d e h.0 h.1 rest

    -- ---- what is laid is reached, where runs go on from the start

    module _ (fresh : P.layers ≡ []) (zero_place : P.place ≡ 0) where
      pass_step : (γ : List ℕ) (s : List Tree) (q : ℕ) (t : Symbol) (pad size : ℕ) → filling s ≡ γ → PassesAt P γ q t pad size
          → StepsOn P.grammar P.text (record { stack = s; place = q }) (record { stack = extra_tree t pad size ∷ s; place = q + (pad + size) })
      pass_step γ s q t pad size is p =
          let at : PassesAt P (filling s) q t pad size = subst (λ (g : List ℕ). PassesAt P g q t pad size) (sym is) p in
          subst (λ (m : ℕ). StepsOn P.grammar P.text (record { stack = s; place = q }) (record { stack = extra_tree t pad size ∷ s; place = q + m })) (span_extra t pad size)
          (pass_extra t pad size at.sees at.extra at.none)

      never_stood : (above below : List Tree) (t : Tree) → IsReading P (above ++ t ∷ below) → ⊥
      never_stood above below t at = no_reading P fresh above below t at

      pass_run : (γ : List ℕ) (b : List Tree) (q : ℕ) → filling b ≡ γ → (xs : List Tree) (p : ℕ) (δ : List ℕ) → Lays P γ q xs p δ → AreExtras xs → δ ≡ γ
          → Run P.grammar P.text (record { stack = b; place = q }) (record { stack = xs ++ b; place = p })
      pass_run γ b q is _ _ _ (flat _ _) a same = run_here (record { stack = b; place = q })
      pass_run γ b q is _ _ _ (stood _ _ w p δ t above below l at place share) a same = absurd (never_stood above below t at)
      pass_run γ b q is _ _ _ (shifted _ _ w p δ s pad size l late sees acts) a same = absurd (token_fills s pad size a.0)
      pass_run γ b q is _ _ _ (made _ _ w p δ ks end ε xs look number left pr l inner outer all late taken folds count deep) a same = absurd (node_fills number left pr ks folds.at a.0)
      pass_run γ b q is _ _ _ (passed _ _ w p δ s pad size l late passes) a same =
          run_more (record { stack = b; place = q }) (record { stack = w ++ b; place = p }) (record { stack = extra_tree s pad size ∷ (w ++ b); place = p + (pad + size) })
          (pass_run γ b q is w p δ l a.1 same) (pass_step δ (w ++ b) p s pad size (filling_extras w b a.1 ∙ is ∙ sym same) passes)

      moved_stack : (ys us b : List Tree) (s : Symbol) (pad size : ℕ) → ys ≡ us ++ (extra_tree s pad size ∷ []) → ys ++ b ≡ us ++ (extra_tree s pad size ∷ b)
      moved_stack ys us b s pad size is = ap (λ (w : List Tree). w ++ b) is ∙ append_assoc us (extra_tree s pad size ∷ []) b

      late_always : (p : ℕ) → P.place ≤ p
      late_always p = omega (arith, zero_place)

      same_extra : (s t : Symbol) (p q n m : ℕ) → (s ≡ t) × (p ≡ q) × (n ≡ m) → extra_tree s p n ≡ extra_tree t q m
      same_extra s t p q n m e = ap (λ (x : Symbol). extra_tree x p n) e.0 ∙ ap (λ (x : ℕ). extra_tree t x n) e.1 ∙ ap (λ (x : ℕ). extra_tree t q x) e.2

      -- some extras were passed: a run goes on to the place where a token with a move is seen
      catch_step : (γ : List ℕ) (b : List Tree) (q : ℕ) (ys : List Tree) (m : ℕ) (xs : List Tree) (p : ℕ) → filling b ≡ γ → Lays P γ q xs p γ → AreExtras xs → GoesOn P γ p
          → ((c : List Tree) (r : ℕ) (us zs : List Tree) → length us < length ys → filling c ≡ γ → Lays P γ r us m γ → AreExtras us → Lays P γ r zs p γ → AreExtras zs
          → Run P.grammar P.text (record { stack = us ++ c; place = m }) (record { stack = zs ++ c; place = p }))
          → Peeled γ q ys m → Peeled γ q xs p → Run P.grammar P.text (record { stack = ys ++ b; place = m }) (record { stack = xs ++ b; place = p })
      catch_step γ b q ys m xs p is k c g again (bare_place none place) _ =
          subst (λ (w : List Tree). Run P.grammar P.text (record { stack = w ++ b; place = m }) (record { stack = xs ++ b; place = p })) (sym none)
          (subst (λ (r : ℕ). Run P.grammar P.text (record { stack = b; place = r }) (record { stack = xs ++ b; place = p })) place (pass_run γ b q is xs p γ k c refl))
      catch_step γ b q ys m xs p is k c g again (one_more us s pad size ys_is late first rest all) (bare_place none place) = absurd (clash P facts γ q s pad size (subst (λ (r : ℕ). GoesOn P γ r) (sym place) g) first)
      catch_step γ b q ys m xs p is k c g again (one_more us s pad size ys_is late first rest all) (one_more zs t pad2 size2 xs_is late2 first2 rest2 all2) =
          let e = same_token t s pad2 pad size2 size (sees_one P facts γ q (token t pad2 size2) (token s pad size) first2.sees first.sees) in
          let one : extra_tree t pad2 size2 ≡ extra_tree s pad size = same_extra t s pad2 pad size2 size e in
          let place : q + (pad2 + size2) ≡ q + (pad + size) = (let f = e.1 in let h = e.2 in omega (arith, f, h)) in
          let count : length ys ≡ length us + 1 = ap length ys_is ∙ length-append us (extra_tree s pad size ∷ []) in
          let run = again (extra_tree s pad size ∷ b) (q + (pad + size)) us zs (omega (arith, count)) (read_extra s pad size b ∙ is) rest all (subst (λ (r : ℕ). Lays P γ r zs p γ) place rest2) all2 in
          let xs_moved : xs ++ b ≡ zs ++ (extra_tree s pad size ∷ b) = moved_stack xs zs b t pad2 size2 xs_is ∙ ap (λ (u : Tree). zs ++ (u ∷ b)) one in
          subst (λ (w : List Tree). Run P.grammar P.text (record { stack = w; place = m }) (record { stack = xs ++ b; place = p })) (sym (moved_stack ys us b s pad size ys_is))
          (subst (λ (w : List Tree). Run P.grammar P.text (record { stack = us ++ (extra_tree s pad size ∷ b); place = m }) (record { stack = w; place = p })) (sym xs_moved) run)

      catch_up : (n : ℕ) (γ : List ℕ) (b : List Tree) (q : ℕ) (ys : List Tree) (m : ℕ) (xs : List Tree) (p : ℕ) → length ys < n → filling b ≡ γ → Lays P γ q ys m γ → AreExtras ys → Lays P γ q xs p γ → AreExtras xs → GoesOn P γ p
          → Run P.grammar P.text (record { stack = ys ++ b; place = m }) (record { stack = xs ++ b; place = p })
      catch_up zero γ b q ys m xs p lt is l a k c g = absurd (omega (arith, lt))
      catch_up (suc n) γ b q ys m xs p lt is l a k c g =
          catch_step γ b q ys m xs p is k c g (λ d r us zs less is2 l2 a2 k2 c2. catch_up n γ d r us m zs p (omega (arith, less, lt)) is2 l2 a2 k2 c2 g)
          (peel γ q ys m γ l a (late_always m) refl) (peel γ q xs p γ k c (late_always p) refl)

      read_over : (γ : List ℕ) (q : ℕ) (w : List Tree) (p : ℕ) (δ : List ℕ) → Lays P γ q w p δ → (s : List Tree) → filling s ≡ γ → filling (w ++ s) ≡ δ
      read_over γ q w p δ l s is = filling_append w s ∙ ap (λ (g : List ℕ). filling w ++ g) is ∙ sym (lays_read γ q w p δ l)

      -- a run that has passed no extras, since a token with a move is seen
      no_extras : (s w : List Tree) (q p : ℕ) (δ : List ℕ) → GoesOn P δ p → ComesOver P s w q p δ → Run P.grammar P.text (record { stack = s; place = q }) (record { stack = w ++ s; place = p })
      no_extras s w q p δ g f = by_case (peel δ p f.extras f.look δ f.lays f.all_extras (late_always f.look) refl)
        where
          by_case : Peeled δ p f.extras f.look → Run P.grammar P.text (record { stack = s; place = q }) (record { stack = w ++ s; place = p })
          by_case (bare_place none place) =
              subst (λ (m : ℕ). Run P.grammar P.text (record { stack = s; place = q }) (record { stack = w ++ s; place = m })) (sym place)
              (subst (λ (u : List Tree). Run P.grammar P.text (record { stack = s; place = q }) (record { stack = u ++ (w ++ s); place = f.look })) none f.run)
          by_case (one_more us t pad size is late first rest all) = absurd (clash P facts δ p t pad size g first)

      comes_shift : (s w : List Tree) (q p : ℕ) (δ : List ℕ) (t : Symbol) (pad size : ℕ) → filling (w ++ s) ≡ δ → ComesOver P s w q p δ → SeesAt P δ p (token t pad size) → Act P.grammar δ t.0 shift
          → ComesOver P s (token_tree t pad size ∷ w) q (p + (pad + size)) (t.0 ∷ δ)
      comes_shift s w q p δ t pad size is f sees acts = record {
        extras = [];
        look = p + (pad + size);
        lays = flat (t.0 ∷ δ) (p + (pad + size));
        all_extras = tt;
        run = run_more (record { stack = s; place = q }) (record { stack = w ++ s; place = p }) (record { stack = token_tree t pad size ∷ (w ++ s); place = p + (pad + size) })
            (no_extras s w q p δ (record { symbol = t; pad = pad; size = size; sees = sees; moves = (shift, acts) }) f)
            (subst (λ (m : ℕ). StepsOn P.grammar P.text (record { stack = w ++ s; place = p }) (record { stack = token_tree t pad size ∷ (w ++ s); place = p + m })) (span_token t pad size)
            (shift_token t pad size (subst (λ (g : List ℕ). SeesAt P g p (token t pad size)) (sym is) sees) (subst (λ (g : List ℕ). Act P.grammar g t.0 shift) (sym is) acts)));
      }

      comes_pass : (s w : List Tree) (q p : ℕ) (δ : List ℕ) (t : Symbol) (pad size : ℕ) → filling (w ++ s) ≡ δ → (f : ComesOver P s w q p δ) → PassesAt P δ p t pad size → Peeled δ p f.extras f.look
          → ComesOver P s (extra_tree t pad size ∷ w) q (p + (pad + size)) δ
      comes_pass s w q p δ t pad size is f passes (bare_place none place) = record {
        extras = [];
        look = p + (pad + size);
        lays = flat δ (p + (pad + size));
        all_extras = tt;
        run = run_more (record { stack = s; place = q }) (record { stack = w ++ s; place = p }) (record { stack = extra_tree t pad size ∷ (w ++ s); place = p + (pad + size) })
            (subst (λ (m : ℕ). Run P.grammar P.text (record { stack = s; place = q }) (record { stack = w ++ s; place = m })) (sym place)
            (subst (λ (u : List Tree). Run P.grammar P.text (record { stack = s; place = q }) (record { stack = u ++ (w ++ s); place = f.look })) none f.run))
            (pass_step δ (w ++ s) p t pad size is passes);
      }
      comes_pass s w q p δ t pad size is f passes (one_more us t2 pad2 size2 xs_is late first rest all) =
          let e = same_token t2 t pad2 pad size2 size (sees_one P facts δ p (token t2 pad2 size2) (token t pad size) first.sees passes.sees) in
          let one : extra_tree t2 pad2 size2 ≡ extra_tree t pad size = same_extra t2 t pad2 pad size2 size e in
          let place : p + (pad2 + size2) ≡ p + (pad + size) = (let f = e.1 in let h = e.2 in omega (arith, f, h)) in
          record {
            extras = us;
            look = f.look;
            lays = subst (λ (r : ℕ). Lays P δ r us f.look δ) place rest;
            all_extras = all;
            run = subst (λ (w2 : List Tree). Run P.grammar P.text (record { stack = s; place = q }) (record { stack = w2; place = f.look }))
                (moved_stack f.extras us (w ++ s) t2 pad2 size2 xs_is ∙ ap (λ (u : Tree). us ++ (u ∷ (w ++ s))) one) f.run;
          }

      -- a reduction of a stack on which its entries lie
      reduction_over : (ks w xs : List Tree) (number left : ℕ) (pr : Production) → production_at P.grammar number ≡ Some (left, pr) → AreExtras xs → BeginsFilled (reverse ks ++ w) → BeginsFilled ks → length (filling ks) ≡ length pr.steps
          → IsReduction P.grammar number (xs ++ (reverse ks ++ w)) (node_made P number ks) (xs ++ node_made P number ks ∷ w)
      reduction_over ks w xs number left pr at all top bottom count = record {
        left = left;
        production = pr;
        at = at;
        lifted = xs;
        children = ks;
        below = w;
        stack_is = refl;
        extras = all;
        all_lifted = top;
        count = count;
        first_fills = bottom;
        node_is = refl;
        after_is = refl;
      }

      -- what a reduction makes of its entries is reached
      comes_reduce : (s w : List Tree) (q p : ℕ) (δ : List ℕ) (ks : List Tree) (end : ℕ) (ε : List ℕ) (xs : List Tree) (look number left : ℕ) (pr : Production)
          → filling (reverse ks ++ (w ++ s)) ≡ ε → Run P.grammar P.text (record { stack = s; place = q }) (record { stack = w ++ s; place = p }) → ComesOver P (w ++ s) (reverse ks) p end ε → Lays P ε end xs look ε → AreExtras xs
          → BeginsFilled (reverse ks ++ (w ++ s)) → BeginsFilled ks → (n : ℕ) → LeadsTo P.goto (left ∷ δ) n → ReducesAt P ε look number left pr δ → length (filling ks) ≡ length pr.steps → tree_depth (node_made P number ks) ≤ most_depth
          → ComesOver P s (node_made P number ks ∷ w) q end (left ∷ δ)
      comes_reduce s w q p δ ks end ε xs look number left pr is first g outer all top bottom n k folds count deep =
          let b : List Tree = reverse ks ++ (w ++ s) in
          let node : Tree = node_made P number ks in
          let going : GoesOn P ε look = record { symbol = folds.symbol; pad = folds.pad; size = folds.size; sees = folds.sees; moves = (reduce number, folds.stays) } in
          let caught = catch_up (suc (length g.extras)) ε b end g.extras g.look xs look (omega arith) is g.lays g.all_extras outer all going in
          let seen : filling (xs ++ b) ≡ ε = filling_extras xs b all ∙ is in
          let move : CanMove P.grammar P.text (record { stack = xs ++ b; place = look }) (reduce number) = record {
            symbol = folds.symbol;
            pad = folds.pad;
            size = folds.size;
            next = subst (λ (h : List ℕ). SeesAt P h look (token folds.symbol folds.pad folds.size)) (sym seen) folds.sees;
            stays = subst (λ (h : List ℕ). Act P.grammar h folds.symbol.0 (reduce number)) (sym seen) folds.stays;
          } in
          let stepped : StepsOn P.grammar P.text (record { stack = xs ++ b; place = look }) (record { stack = xs ++ node ∷ (w ++ s); place = look }) =
          reduce_trees number node (xs ++ node ∷ (w ++ s)) move (reduction_over ks (w ++ s) xs number left pr folds.at all top bottom count) deep in
          record {
            extras = xs;
            look = look;
            lays = passes_on ε (left ∷ δ) (narrows P facts ε look number left pr δ folds) n k xs end look all (late_always look) outer;
            all_extras = all;
            run = run_join (record { stack = s; place = q }) (record { stack = w ++ s; place = p }) (record { stack = xs ++ (node ∷ (w ++ s)); place = look }) first
                (run_join (record { stack = w ++ s; place = p }) (record { stack = g.extras ++ b; place = g.look }) (record { stack = xs ++ (node ∷ (w ++ s)); place = look }) g.run
                (run_more (record { stack = g.extras ++ b; place = g.look }) (record { stack = xs ++ b; place = look }) (record { stack = xs ++ (node ∷ (w ++ s)); place = look }) caught stepped));
          }

      -- nothing is below where nothing was read at the start
      abbrev pub AtBottom : List ℕ → ℕ → List Tree → Type 0
      AtBottom γ q s = γ ≡ [] → q ≡ 0 → s ≡ []

      bottom_over : (γ : List ℕ) (q : ℕ) (w : List Tree) (p : ℕ) (δ : List ℕ) (s : List Tree) → Lays P γ q w p δ → AtBottom γ q s → AtBottom δ p (w ++ s)
      bottom_over γ q w p δ s l low e z =
          let none = nothing_laid γ q w p δ l e z in
          let h = lays_none γ q w p δ l none in
          ap (λ (v : List Tree). v ++ s) none ∙ low (sym h.1 ∙ e) (sym h.0 ∙ z)

      pub sound : (γ : List ℕ) (q : ℕ) (w : List Tree) (p : ℕ) (δ : List ℕ) → (n : ℕ) → LeadsTo P.goto γ n → Lays P γ q w p δ → (s : List Tree) → filling s ≡ γ → AtBottom γ q s → ComesOver P s w q p δ
      sound γ q _ _ _ n k (flat _ _) s is low = record { extras = []; look = q; lays = flat γ q; all_extras = tt; run = run_here (record { stack = s; place = q }) }
      sound γ q _ _ _ n k (stood _ _ w p δ t above below l at place share) s is low = absurd (never_stood above below t at)
      sound γ q _ _ _ n k (shifted _ _ w p δ t pad size l late sees acts) s is low = comes_shift s w q p δ t pad size (read_over γ q w p δ l s is) (sound γ q w p δ n k l s is low) sees acts
      sound γ q _ _ _ n k (passed _ _ w p δ t pad size l late passes) s is low =
          let f = sound γ q w p δ n k l s is low in
          comes_pass s w q p δ t pad size (read_over γ q w p δ l s is) f passes (peel δ p f.extras f.look δ f.lays f.all_extras (late_always f.look) refl)
      sound γ q _ _ _ n k (made _ _ w p δ ks end ε xs look number left pr l inner outer all late taken folds count deep) s is low =
          by taken (sound γ q w p δ n k l s is low) (lays_state γ q w p δ n k l)
          (λ m j. sound δ p (reverse ks) end ε m j inner (w ++ s) (read_over γ q w p δ l s is) (bottom_over γ q w p δ s l low))
        where
          over_is : filling (reverse ks ++ (w ++ s)) ≡ ε
          over_is = read_over δ p (reverse ks) end ε inner (w ++ s) (read_over γ q w p δ l s is)

          state : (m : ℕ) × LeadsTo P.goto (left ∷ δ) m
          state = lays_state γ q (node_made P number ks ∷ w) end (left ∷ δ) n k (made γ q w p δ ks end ε xs look number left pr l inner outer all late taken folds count deep)

          by : Taken ks w γ q → ComesOver P s w q p δ → ((m : ℕ) × LeadsTo P.goto δ m) → ((m : ℕ) → LeadsTo P.goto δ m → ComesOver P (w ++ s) (reverse ks) p end ε) → ComesOver P s (node_made P number ks ∷ w) q end (left ∷ δ)
          by (some lt begins ends) f m g =
              let going : GoesOn P δ p = starts δ p (reverse ks) end ε inner (late_always p) (bottom_turned P.grammar number left pr ks lt (can_make δ p ks end ε look number left pr inner begins folds count)) in
              let long : length (reverse ks) ≡ length ks = length-reverse ks in
              comes_reduce s w q p δ ks end ε xs look number left pr over_is (no_extras s w q p δ going f) (g m.0 m.1) outer all (begins_more (reverse ks) (w ++ s) (omega (arith, lt, long)) ends) begins state.0 state.1 folds count deep
          by (nothing none none_w read zero_q) f m g =
              let none_s : s ≡ [] = low read zero_q in
              let none_all : reverse ks ++ (w ++ s) ≡ [] = ap (λ (v : List Tree). reverse v ++ (w ++ s)) none ∙ ap (λ (v : List Tree). v ++ s) none_w ∙ none_s in
              let h = lays_none γ q w p δ l none_w in
              let first : Run P.grammar P.text (record { stack = s; place = q }) (record { stack = w ++ s; place = p }) =
              subst (λ (v : List Tree). Run P.grammar P.text (record { stack = s; place = q }) (record { stack = v ++ s; place = p })) (sym none_w)
              (subst (λ (r : ℕ). Run P.grammar P.text (record { stack = s; place = q }) (record { stack = s; place = r })) (sym h.0) (run_here (record { stack = s; place = q }))) in
              comes_reduce s w q p δ ks end ε xs look number left pr over_is first (g m.0 m.1) outer all (subst (λ (v : List Tree). BeginsFilled v) (sym none_all) tt) (subst (λ (v : List Tree). BeginsFilled v) (sym none) tt) state.0 state.1 folds count deep
