-- What alternatives become by inlining are the expansions that are put together of the expansions of
-- the inlined rules.
use Rattle.std.proofs.Common.{◌≡◌, ◌∙◌, ap, refl, sym, subst, ℕ, zero, suc, List, [], ◌∷◌, ◌++◌, map, Option, Some, None, option_map, ◌↔◌, append_assoc, append-nil, All}
use Rattle.std.specs.List.{flat_map}
use Rattle.std.proofs.lemmas.List.Elements.{All-head, All-tail, All-nil, All-cons, All-push, All-weaker}
use lib.IntN.{ℤ}
use Rattle.ts_rules.specs.declared.tree.Alternative.{Alternative}
use Rattle.ts_rules.specs.declared.tree.NumberedStep.{NumberedStep}
use Rattle.ts_rules.specs.Alternatives.{Alternatives, alternative, stronger}
use Rattle.ts_rules.specs.Productions.{marked_by, inserted, replaced_by, Stays, Becomes, stays, replaced, AllBecome, none_left, one_more}
use Rattle.ts_productions.specs.Expansions.{Expansions, plain, last_by, Table, by_option, spread, spread_of, spread_all, onward, IsFull}
use Rattle.ts_productions.proofs.SpreadLemmas.{flat_same, flat_mapped, map_flat, plain_closed, spread_stays, spread_replaced, spread_all_same}

-- what an alternative becomes
abbrev pub expand : Table → Alternative → Alternatives
expand F p = map plain (spread_of F p)

abbrev pub expand_all : Table → Alternatives → Alternatives
expand_all F = flat_map (expand F)

pub plain_all : (F : Table) (ps : Alternatives) → map plain (spread_all F ps) ≡ expand_all F ps
plain_all F ps = map_flat plain (spread_of F) ps

some_none : {X : Type 0} (x : X) → Some x ≡ None → ⊥
some_none x e = cc

module _ (Inner : ℕ → Alternatives → Type 0) (At : ℕ → Option Alternatives) (same : (s : ℕ) (inner : Alternatives) → Inner s inner ↔ (At s ≡ Some inner))
    (F : Table) (full : IsFull At F) where
  none_at : (s : ℕ) → ((inner : Alternatives) → Inner s inner → ⊥) → At s ≡ None
  none_at s stay = by_option_of (At s) refl
    where
      by_option_of : (o : Option Alternatives) → At s ≡ o → At s ≡ None
      by_option_of None e = e
      by_option_of (Some inner) e = absurd (stay inner ((same s inner).1 e))

  stay_none : (bs : List NumberedStep) → All (Stays Inner) bs → All (λ (b : NumberedStep). F b.symbol ≡ None) bs
  stay_none bs all = All-weaker (Stays Inner) (λ (b : NumberedStep). F b.symbol ≡ None) (λ b stay. full b.symbol ∙ ap (option_map (spread_all F)) (none_at b.symbol stay)) bs all

  hit : (s : ℕ) (inner : Alternatives) → At s ≡ Some inner → F s ≡ Some (spread_all F inner)
  hit s inner e = full s ∙ ap (option_map (spread_all F)) e

  -- ---- one result

  replaced_expand : (d : ℤ) (before : List NumberedStep) (step : NumberedStep) (after : List NumberedStep) (inner : Alternatives) → All (Stays Inner) before → Inner step.symbol inner
      → expand_all F (map (replaced_by d before step after) inner) ≡ expand F (alternative d (before ++ step ∷ after))
  replaced_expand d before step after inner stay is =
      flat_mapped (expand F) (replaced_by d before step after) inner
      ∙ flat_same (λ (q : Alternative). expand F (replaced_by d before step after q)) (λ (q : Alternative). map plain (spread F (stronger d q.dynamic) before None (inserted step q.steps ++ after))) each inner
      ∙ sym (map_flat plain (λ (q : Alternative). spread F (stronger d q.dynamic) before None (inserted step q.steps ++ after)) inner)
      ∙ ap (map plain) (sym (spread_replaced F d before step after inner (hit step.symbol inner ((same step.symbol inner).0 is))))
      ∙ sym (spread_stays F d [] None before (step ∷ after) (stay_none before stay))
    where
      each : (q : Alternative) → expand F (replaced_by d before step after q) ≡ map plain (spread F (stronger d q.dynamic) before None (inserted step q.steps ++ after))
      each q =
          ap (λ (xs : List NumberedStep). map plain (spread F (stronger d q.dynamic) [] None xs)) (append_assoc before (inserted step q.steps) after)
          ∙ spread_stays F (stronger d q.dynamic) [] None before (inserted step q.steps ++ after) (stay_none before stay)

  stays_expand : (p : Alternative) → All (Stays Inner) p.steps → p ∷ [] ≡ expand F p
  stays_expand p stay =
      sym (spread_stays F p.dynamic [] None p.steps [] (stay_none p.steps stay))
      ∙ ap (λ (xs : List NumberedStep). map plain (spread F p.dynamic [] None xs)) (append-nil p.steps)

  mutual
    pub became : (p : Alternative) (all : Alternatives) → Becomes Inner p all → all ≡ expand F p
    became _ _ (stays p stay) = stays_expand p stay
    became _ _ (replaced d before step after inner all stay is become) = all_became (map (replaced_by d before step after) inner) all become ∙ replaced_expand d before step after inner stay is

    pub all_became : (ps all : Alternatives) → AllBecome Inner ps all → all ≡ expand_all F ps
    all_became _ _ none_left = refl
    all_became _ _ (one_more p ps qs rs one more) = ap (λ (xs : Alternatives). xs ++ rs) (became p qs one) ∙ ap (λ (xs : Alternatives). expand F p ++ xs) (all_became ps rs more)

  -- ---- a result

  module _ (Low : ℕ → ℕ → Type 0) (low_zero : (s : ℕ) → Low 0 s → ⊥)
      (low_step : (r s : ℕ) (inner : Alternatives) → Low (suc r) s → At s ≡ Some inner
      → All (λ (q : Alternative). All (λ (t : NumberedStep). (i : Alternatives) → At t.symbol ≡ Some i → Low r t.symbol) q.steps) inner) where
    abbrev Lower : ℕ → NumberedStep → Type 0
    Lower r t = (i : Alternatives) → At t.symbol ≡ Some i → Low r t.symbol

    inserted_lower : (r : ℕ) (s : NumberedStep) (ts : List NumberedStep) → All (Lower r) ts → All (Lower r) (inserted s ts)
    inserted_lower r s [] low = low
    inserted_lower r s (t ∷ []) low = All-cons (Lower r) (last_by s t) [] (All-head (Lower r) t [] low) (All-nil (Lower r))
    inserted_lower r s (t ∷ u ∷ ts) low =
        All-cons (Lower r) (marked_by s t) (inserted s (u ∷ ts)) (All-head (Lower r) t (u ∷ ts) low) (inserted_lower r s (u ∷ ts) (All-tail (Lower r) t (u ∷ ts) low))

    -- whatever has gone before, if it stays
    abbrev Grows : List NumberedStep → Type 0
    Grows rest = (d : ℤ) (c : List NumberedStep) → All (Stays Inner) c → Becomes Inner (alternative d (c ++ rest)) (map plain (spread F d c None rest))

    grows_none : Grows []
    grows_none d c stay = subst (λ (xs : List NumberedStep). Becomes Inner (alternative d xs) (alternative d c ∷ [])) (sym (append-nil c)) (stays (alternative d c) stay)

    grows_stays : (t : NumberedStep) (rest : List NumberedStep) → At t.symbol ≡ None → Grows rest → Grows (t ∷ rest)
    grows_stays t rest none go d c stay =
        let is : F t.symbol ≡ None = full t.symbol ∙ ap (option_map (spread_all F)) none in
        let all : map plain (spread F d (c ++ t ∷ []) None rest) ≡ map plain (spread F d c None (t ∷ rest)) =
        plain_closed F d (c ++ t ∷ []) c None (Some t) rest refl
        ∙ ap (λ (o : Option Expansions). map plain (by_option o (spread F d c (Some t) rest) (λ (inner : Expansions). flat_map (onward F d c t rest) inner))) (sym is) in
        let more : Stays Inner t = λ inner w. some_none inner (sym ((same t.symbol inner).0 w) ∙ none) in
        subst (λ (xs : Alternatives). Becomes Inner (alternative d (c ++ t ∷ rest)) xs) all
        (subst (λ (xs : List NumberedStep). Becomes Inner (alternative d xs) (map plain (spread F d (c ++ t ∷ []) None rest))) (append_assoc c (t ∷ []) rest)
        (go d (c ++ t ∷ []) (All-push (Stays Inner) c t stay more)))

    all_replaced : (r : ℕ) (d : ℤ) (c : List NumberedStep) (t : NumberedStep) (rest : List NumberedStep)
        → ((e : ℤ) (xs : List NumberedStep) → All (Lower r) xs → Becomes Inner (alternative e (c ++ (xs ++ rest))) (map plain (spread F e c None (xs ++ rest))))
        → (qs : Alternatives) → All (λ (q : Alternative). All (Lower r) q.steps) qs
        → AllBecome Inner (map (replaced_by d c t rest) qs) (flat_map (λ (q : Alternative). map plain (spread F (stronger d q.dynamic) c None (inserted t q.steps ++ rest))) qs)
    all_replaced r d c t rest go [] low = none_left
    all_replaced r d c t rest go (q ∷ qs) low =
        one_more (replaced_by d c t rest q) (map (replaced_by d c t rest) qs) (map plain (spread F (stronger d q.dynamic) c None (inserted t q.steps ++ rest)))
        (flat_map (λ (q : Alternative). map plain (spread F (stronger d q.dynamic) c None (inserted t q.steps ++ rest))) qs)
        (subst (λ (xs : List NumberedStep). Becomes Inner (alternative (stronger d q.dynamic) xs) (map plain (spread F (stronger d q.dynamic) c None (inserted t q.steps ++ rest)))) (sym (append_assoc c (inserted t q.steps) rest))
        (go (stronger d q.dynamic) (inserted t q.steps) (inserted_lower r t q.steps (All-head (λ (x : Alternative). All (Lower r) x.steps) q qs low))))
        (all_replaced r d c t rest go qs (All-tail (λ (x : Alternative). All (Lower r) x.steps) q qs low))

    grows_replaced : (r : ℕ) (t : NumberedStep) (rest : List NumberedStep) (inner : Alternatives) → At t.symbol ≡ Some inner → All (λ (q : Alternative). All (Lower r) q.steps) inner
        → ((xs : List NumberedStep) → All (Lower r) xs → Grows (xs ++ rest)) → Grows (t ∷ rest)
    grows_replaced r t rest inner is low go d c stay =
        replaced d c t rest inner (map plain (spread F d c None (t ∷ rest))) stay ((same t.symbol inner).1 is)
        (subst (λ (xs : Alternatives). AllBecome Inner (map (replaced_by d c t rest) inner) xs)
        (sym (map_flat plain (λ (q : Alternative). spread F (stronger d q.dynamic) c None (inserted t q.steps ++ rest)) inner)
        ∙ ap (map plain) (sym (spread_replaced F d c t rest inner (hit t.symbol inner is))))
        (all_replaced r d c t rest (λ e xs l. go xs l e c stay) inner low))

    grows : (r : ℕ) (xs rest : List NumberedStep) → All (Lower r) xs → Grows rest → Grows (xs ++ rest)
    grows r [] rest low go = go
    grows zero (t ∷ ts) rest low go = by_option_of (At t.symbol) refl (grows zero ts rest (All-tail (Lower zero) t ts low) go)
      where
        by_option_of : (o : Option Alternatives) → At t.symbol ≡ o → Grows (ts ++ rest) → Grows (t ∷ (ts ++ rest))
        by_option_of None e more = grows_stays t (ts ++ rest) e more
        by_option_of (Some inner) e more = absurd (low_zero t.symbol (All-head (Lower zero) t ts low inner e))
    grows (suc r) (t ∷ ts) rest low go = by_option_of (At t.symbol) refl (grows (suc r) ts rest (All-tail (Lower (suc r)) t ts low) go) (λ xs l more. grows r xs (ts ++ rest) l more)
      where
        by_option_of : (o : Option Alternatives) → At t.symbol ≡ o → Grows (ts ++ rest) → ((xs : List NumberedStep) → All (Lower r) xs → Grows (ts ++ rest) → Grows (xs ++ (ts ++ rest))) → Grows (t ∷ (ts ++ rest))
        by_option_of None e more deep = grows_stays t (ts ++ rest) e more
        by_option_of (Some inner) e more deep =
            grows_replaced r t (ts ++ rest) inner e (low_step r t.symbol inner (All-head (Lower (suc r)) t ts low inner e) e) (λ xs l. deep xs l more)

    becomes : (r : ℕ) (p : Alternative) → All (Lower r) p.steps → Becomes Inner p (expand F p)
    becomes r p low =
        subst (λ (xs : List NumberedStep). Becomes Inner (alternative p.dynamic xs) (map plain (spread F p.dynamic [] None xs))) (append-nil p.steps)
        (grows r p.steps [] low grows_none p.dynamic [] (All-nil (Stays Inner)))

    pub all_become : (r : ℕ) (ps : Alternatives) → All (λ (p : Alternative). All (Lower r) p.steps) ps → AllBecome Inner ps (expand_all F ps)
    all_become r [] low = none_left
    all_become r (p ∷ ps) low =
        one_more p ps (expand F p) (expand_all F ps) (becomes r p (All-head (λ (x : Alternative). All (Lower r) x.steps) p ps low)) (all_become r ps (All-tail (λ (x : Alternative). All (Lower r) x.steps) p ps low))

-- ---- a full table, where replacing comes to an end

module _ (At : ℕ → Option Alternatives) (Low : ℕ → ℕ → Type 0) (low_zero : (s : ℕ) → Low 0 s → ⊥)
    (low_step : (r s : ℕ) (inner : Alternatives) → Low (suc r) s → At s ≡ Some inner
    → All (λ (q : Alternative). All (λ (t : NumberedStep). (i : Alternatives) → At t.symbol ≡ Some i → Low r t.symbol) q.steps) inner) where
  -- replaced as deeply as the number says
  abbrev pub deep : ℕ → Table
  deep zero s = option_map (λ (inner : Alternatives). []) (At s)
  deep (suc n) s = option_map (spread_all (deep n)) (At s)

  deeper : (n s : ℕ) → ((i : Alternatives) → At s ≡ Some i → Low n s) → deep n s ≡ deep (suc n) s
  deeper zero s low = by_option_of (At s) refl
    where
      by_option_of : (o : Option Alternatives) → At s ≡ o → option_map (λ (inner : Alternatives). []) (At s) ≡ option_map (spread_all (deep zero)) (At s)
      by_option_of None e = ap (option_map (λ (inner : Alternatives). [])) e ∙ sym (ap (option_map (spread_all (deep zero))) e)
      by_option_of (Some inner) e = absurd (low_zero s (low inner e))
  deeper (suc n) s low = by_option_of (At s) refl (λ t l. deeper n t l)
    where
      by_option_of : (o : Option Alternatives) → At s ≡ o → ((t : ℕ) → ((i : Alternatives) → At t ≡ Some i → Low n t) → deep n t ≡ deep (suc n) t)
          → option_map (spread_all (deep n)) (At s) ≡ option_map (spread_all (deep (suc n))) (At s)
      by_option_of None e go = ap (option_map (spread_all (deep n))) e ∙ sym (ap (option_map (spread_all (deep (suc n)))) e)
      by_option_of (Some inner) e go =
          let lower : All (λ (q : Alternative). All (λ (t : NumberedStep). (i : Alternatives) → At t.symbol ≡ Some i → Low n t.symbol) q.steps) inner = low_step n s inner (low inner e) e in
          let agree : All (λ (q : Alternative). All (λ (t : NumberedStep). deep n t.symbol ≡ deep (suc n) t.symbol) q.steps) inner =
          All-weaker (λ (q : Alternative). All (λ (t : NumberedStep). (i : Alternatives) → At t.symbol ≡ Some i → Low n t.symbol) q.steps) (λ (q : Alternative). All (λ (t : NumberedStep). deep n t.symbol ≡ deep (suc n) t.symbol) q.steps)
          (λ q all. All-weaker (λ (t : NumberedStep). (i : Alternatives) → At t.symbol ≡ Some i → Low n t.symbol) (λ (t : NumberedStep). deep n t.symbol ≡ deep (suc n) t.symbol) (λ t l. go t.symbol l) q.steps all) inner lower in
          ap (option_map (spread_all (deep n))) e
          ∙ ap (λ (x : Expansions). Some x) (spread_all_same (deep n) (deep (suc n)) inner agree)
          ∙ sym (ap (option_map (spread_all (deep (suc n)))) e)

  pub deep_full : (n : ℕ) → ((s : ℕ) (i : Alternatives) → At s ≡ Some i → Low n s) → IsFull At (deep n)
  deep_full n all s = deeper n s (all s)
