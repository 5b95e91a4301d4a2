-- Inlined rules by rising rank are in an order of inlining.
use Rattle.std.proofs.Common.{◌≡◌, ◌∙◌, sym, ap, subst, refl, ℕ, zero, suc, ◌+◌, ◌<◌, ◌≤◌, inl, inr, ⊎_elim, ◌↔◌, List, [], ◌∷◌, ◌++◌, map, length, take, drop, slice_get, get_or, Some, None, option_map, append-nil, Bool, true, false, arith}
use Rattle.std.specs.Bool.{IsTrue}
use Rattle.std.specs.List.{Contains}
use Rattle.std.specs.List.Sorted.{IsPermutation, IsNonDecreasingBy}
use Rattle.std.proofs.lemmas.Bool.{cases_lt}
use Rattle.std.proofs.lemmas.List.{take_more, take_all, length-map, length-append, map-append, take-append-drop, length-take}
use Rattle.std.proofs.lemmas.List.Sorted.{Contains-permutation, IsPermutation-sym}
use Rattle.std.proofs.lemmas.Option.{slice_get_within, slice_get-map, slice_get_cases, get_or_from_slice_get}
use Rattle.ts_base.specs.Bytes.{Bytes}
use Rattle.ts_base.proofs.PlaceLemmas.{in_prefix, at_end}
use Rattle.ts_core.specs.declared.rule.Grammar.{Grammar}
use Rattle.ts_rules.specs.FirstSights.{Not, Picks, end, taken, left}
use Rattle.ts_rules.specs.Numbers.{Lists, AreLists, IsInlined}
use Rattle.ts_rules.specs.Sights.{NamedRule}
use Rattle.ts_productions.specs.declared.order.Ranked.{Ranked}
use Rattle.ts_productions.specs.Grammars.{FallAlong, IsInlineOrder}
use Rattle.ts_productions.specs.Orders.{PicksBoth, none_left, taken_both, left_both, AreRanksAmong, ArePlaced, rank_of, place_of, ranked_if}
use Rattle.ts_productions.proofs.MemberLemmas.{there, at_of}

module _ {X : Type 0} (P : X → Type 0) where
  one_pick : (xs ys zs : List X) → Picks P xs ys → Picks P xs zs → ys ≡ zs
  one_pick _ _ _ end end = refl
  one_pick _ _ _ (taken x xs ys p rest) (taken y vs zs q more) = ap (λ (ws : List X). x ∷ ws) (one_pick xs ys zs rest more)
  one_pick _ _ _ (taken x xs ys p rest) (left y vs zs q more) = absurd (q p)
  one_pick _ _ _ (left x xs ys p rest) (taken y vs zs q more) = absurd (p q)
  one_pick _ _ _ (left x xs ys p rest) (left y vs zs q more) = one_pick xs ys zs rest more

module _ {X Y : Type 0} (P : X → Type 0) where
  both_pick : (xs vs : List X) (ys ws : List Y) → PicksBoth P xs ys vs ws → Picks P xs vs
  both_pick _ _ _ _ none_left = end
  both_pick _ _ _ _ (taken_both x y xs vs ys ws p rest) = taken x xs vs p (both_pick xs vs ys ws rest)
  both_pick _ _ _ _ (left_both x y xs vs ys ws p rest) = left x xs vs p (both_pick xs vs ys ws rest)

  both_length : (xs vs : List X) (ys ws : List Y) → PicksBoth P xs ys vs ws → length vs ≡ length ws
  both_length _ _ _ _ none_left = refl
  both_length _ _ _ _ (taken_both x y xs vs ys ws p rest) = ap suc (both_length xs vs ys ws rest)
  both_length _ _ _ _ (left_both x y xs vs ys ws p rest) = both_length xs vs ys ws rest

  both_taken : (xs vs : List X) (ys ws : List Y) (x : X) (y : Y) → PicksBoth P xs ys vs ws → P x → PicksBoth P (xs ++ x ∷ []) (ys ++ y ∷ []) (vs ++ x ∷ []) (ws ++ y ∷ [])
  both_taken _ _ _ _ x y none_left p = taken_both x y [] [] [] [] p none_left
  both_taken _ _ _ _ x y (taken_both a b xs vs ys ws q rest) p = taken_both a b (xs ++ x ∷ []) (vs ++ x ∷ []) (ys ++ y ∷ []) (ws ++ y ∷ []) q (both_taken xs vs ys ws x y rest p)
  both_taken _ _ _ _ x y (left_both a b xs vs ys ws q rest) p = left_both a b (xs ++ x ∷ []) (vs ++ x ∷ []) (ys ++ y ∷ []) (ws ++ y ∷ []) q (both_taken xs vs ys ws x y rest p)

  both_left : (xs vs : List X) (ys ws : List Y) (x : X) (y : Y) → PicksBoth P xs ys vs ws → Not (P x) → PicksBoth P (xs ++ x ∷ []) (ys ++ y ∷ []) vs ws
  both_left _ _ _ _ x y none_left p = left_both x y [] [] [] [] p none_left
  both_left _ _ _ _ x y (taken_both a b xs vs ys ws q rest) p = taken_both a b (xs ++ x ∷ []) vs (ys ++ y ∷ []) ws q (both_left xs vs ys ws x y rest p)
  both_left _ _ _ _ x y (left_both a b xs vs ys ws q rest) p = left_both a b (xs ++ x ∷ []) vs (ys ++ y ∷ []) ws q (both_left xs vs ys ws x y rest p)

  -- what is picked stands in the list, and beside it what was picked with it
  both_at : (xs vs : List X) (ys ws : List Y) (j : ℕ) (v : X) → PicksBoth P xs ys vs ws → slice_get vs j ≡ Some v → (k : ℕ) × (slice_get xs k ≡ Some v) × (slice_get ws j ≡ slice_get ys k)
  both_at _ _ _ _ j v none_left e = absurd (let lt = slice_get_within {A = X} [] j v e in let z : ⊥ = omega (arith, lt) in z)
  both_at _ _ _ _ zero v (taken_both x y xs vs ys ws p rest) e = (0, e, refl)
  both_at _ _ _ _ (suc j) v (taken_both x y xs vs ys ws p rest) e = let r = both_at xs vs ys ws j v rest e in (suc r.0, r.1, r.2)
  both_at _ _ _ _ j v (left_both x y xs vs ys ws p rest) e = let r = both_at xs vs ys ws j v rest e in (suc r.0, r.1, r.2)

-- ---- the loop

pub ranks_begin : (g : Grammar) → AreRanksAmong g [] [] []
ranks_begin g = ([], none_left)

pub placed_begin : ArePlaced []
placed_begin k r e = absurd (let lt = slice_get_within {A = Ranked} [] k r e in let z : ⊥ = omega (arith, lt) in z)

module _ (g : Grammar) (ranks : List ℕ) (at : ℕ) (rule : NamedRule) (rank : ℕ) (found : List Ranked) (lt : at < length g.rules) (same : length ranks ≡ length g.rules)
    (is : slice_get g.rules at ≡ Some rule) (beside : slice_get ranks at ≡ Some rank) where
  abbrev IsIn : NamedRule → Type 0
  IsIn r = IsInlined g r.0

  longer : (inlined : List NamedRule) (all : List ℕ) → PicksBoth IsIn (take at g.rules ++ rule ∷ []) (take at ranks ++ rank ∷ []) inlined all → PicksBoth IsIn (take (at + 1) g.rules) (take (at + 1) ranks) inlined all
  longer inlined all both =
      let e : take (at + 1) g.rules ≡ take at g.rules ++ rule ∷ [] = take_more g.rules at rule lt ∙ ap (λ (r : NamedRule). take at g.rules ++ r ∷ []) (get_or_from_slice_get g.rules at rule rule is) in
      let f : take (at + 1) ranks ≡ take at ranks ++ rank ∷ [] = take_more ranks at rank (omega (arith, lt, same)) ∙ ap (λ (r : ℕ). take at ranks ++ r ∷ []) (get_or_from_slice_get ranks at rank rank beside) in
      subst (λ (rs : List NamedRule). PicksBoth IsIn rs (take (at + 1) ranks) inlined all) (sym e)
      (subst (λ (ks : List ℕ). PicksBoth IsIn (take at g.rules ++ rule ∷ []) ks inlined all) (sym f) both)

  in_rules : Contains g.rules rule
  in_rules = there g.rules at rule is

  pub ranks_taken : (place : ℕ) → AreRanksAmong g (take at g.rules) (take at ranks) found → Contains g.inline rule.0
      → AreRanksAmong g (take (at + 1) g.rules) (take (at + 1) ranks) (found ++ record { rank = rank; place = place } ∷ [])
  ranks_taken place before listed =
      let one : Ranked = record { rank = rank; place = place } in (
        before.0 ++ rule ∷ [],
        subst (λ (ks : List ℕ). PicksBoth IsIn (take (at + 1) g.rules) (take (at + 1) ranks) (before.0 ++ rule ∷ []) ks) (sym (map-append rank_of found (one ∷ [])))
            (longer (before.0 ++ rule ∷ []) (map rank_of found ++ rank ∷ [])
            (both_taken IsIn (take at g.rules) before.0 (take at ranks) (map rank_of found) rule rank before.1 (record { listed = listed; rule = (rule.1, in_rules) }))),
      )

  pub ranks_left : AreRanksAmong g (take at g.rules) (take at ranks) found → (Contains g.inline rule.0 → ⊥) → AreRanksAmong g (take (at + 1) g.rules) (take (at + 1) ranks) found
  ranks_left before absent = (
    before.0,
    longer before.0 (map rank_of found)
        (both_left IsIn (take at g.rules) before.0 (take at ranks) (map rank_of found) rule rank before.1 (λ h. absent h.listed)),
  )

  pub ranks_step : (names : List Bytes) (b : Bool) (place : ℕ) → (IsTrue b ↔ Contains names rule.0) → ((name : Bytes) → Contains names name ↔ Contains g.inline name)
      → AreRanksAmong g (take at g.rules) (take at ranks) found → AreRanksAmong g (take (at + 1) g.rules) (take (at + 1) ranks) (found ++ ranked_if b rank place)
  ranks_step names true place test known before = ranks_taken place before ((known rule.0).0 (test.0 refl))
  ranks_step names false place test known before =
      subst (λ (fs : List Ranked). AreRanksAmong g (take (at + 1) g.rules) (take (at + 1) ranks) fs) (sym (append-nil found))
      (ranks_left before (λ w. let f : false ≡ true = test.1 ((known rule.0).1 w) in cc))

pub ranks_end : (g : Grammar) (ranks : List ℕ) (at : ℕ) (found : List Ranked) → length g.rules ≤ at → length ranks ≡ length g.rules → AreRanksAmong g (take at g.rules) (take at ranks) found
    → AreRanksAmong g g.rules ranks found
ranks_end g ranks at found past same before =
    subst (λ (rs : List NamedRule). AreRanksAmong g rs ranks found) (take_all at g.rules past)
    (subst (λ (ks : List ℕ). AreRanksAmong g (take at g.rules) ks found) (take_all at ranks (omega (arith, past, same))) before)

pub placed_more : (found : List Ranked) (rank place : ℕ) → ArePlaced found → place ≡ length found → ArePlaced (found ++ record { rank = rank; place = place } ∷ [])
placed_more found rank place before is k r e = ⊎_elim
    (λ lt. before k r (sym (in_prefix found (record { rank = rank; place = place } ∷ []) k lt) ∙ e))
    (λ ge.
    let one : Ranked = record { rank = rank; place = place } in
    let lt = slice_get_within (found ++ one ∷ []) k r e in
    let size = length-append found (one ∷ []) in
    let here : k ≡ length found = omega (arith, ge, lt, size) in
    let same : Some r ≡ Some one = sym e ∙ ap (slice_get (found ++ one ∷ [])) here ∙ at_end found one in
    let f : r ≡ one = (let g : Some r ≡ Some one = same in cc) in
    ap (λ (q : Ranked). q.place) f ∙ is ∙ sym here)
    (cases_lt k (length found))

pub placed_step : (found : List Ranked) (b : Bool) (rank : ℕ) → ArePlaced found → ArePlaced (found ++ ranked_if b rank (length found))
placed_step found true rank before = placed_more found rank (length found) before refl
placed_step found false rank before = subst ArePlaced (sym (append-nil found)) before

-- ---- the order

some_is : {X : Type 0} (x y : X) → Some x ≡ Some y → x ≡ y
some_is x y e = cc

some_none : {X : Type 0} (x : X) → None ≡ Some x → ⊥
some_none x e = cc

module _ (g : Grammar) (x : Lists) (ranks : List ℕ) (found sorted : List Ranked) (lists : AreLists g x) (fall : FallAlong g g.rules ranks)
    (among : AreRanksAmong g g.rules ranks found) (placed : ArePlaced found) (same : IsPermutation found sorted) (rising : IsNonDecreasingBy rank_of sorted) where
  abbrev InlinedRule : NamedRule → Type 0
  InlinedRule r = IsInlined g r.0

  inlined_is : among.0 ≡ x.inlined
  inlined_is = one_pick InlinedRule g.rules among.0 x.inlined (both_pick InlinedRule g.rules among.0 ranks (map rank_of found) among.1) lists.inlined

  count : length found ≡ length x.inlined
  count =
      sym (length-map found rank_of) ∙ sym (both_length InlinedRule g.rules among.0 ranks (map rank_of found) among.1) ∙ ap (λ (rs : List NamedRule). length rs) inlined_is

  found_at : (k : ℕ) → k < length x.inlined → (r : Ranked) × (slice_get found k ≡ Some r) × (r.place ≡ k)
  found_at k lt = elim (slice_get_cases found k).1 [
    | inl u ↦ (u.0, u.2, placed k u.0 u.2)
    | inr u ↦ absurd (let past = u.0 in let c = count in let z : ⊥ = omega (arith, past, c, lt) in z)
  ]

  -- a place of the order
  sorted_at : (place k : ℕ) → slice_get (map place_of sorted) place ≡ Some k → (r : Ranked) × (slice_get sorted place ≡ Some r) × (slice_get found k ≡ Some r)
  sorted_at place k e = elim (slice_get_cases sorted place).1 [
    | inl u ↦ (
        let is : u.0.place ≡ k = some_is u.0.place k (ap (option_map place_of) (sym u.2) ∙ sym (slice_get-map place_of sorted place) ∙ e) in
        let w = Contains-permutation sorted found u.0 (IsPermutation-sym found sorted same) (there sorted place u.0 u.2) in
        let at = at_of found u.0 w in
        let here : w.0 ≡ k = sym (placed w.0 u.0 at) ∙ is in
        (u.0, u.2, ap (slice_get found) (sym here) ∙ at)
        )
    | inr u ↦ absurd (some_none k (ap (option_map place_of) (sym u.1) ∙ sym (slice_get-map place_of sorted place) ∙ e))
  ]

  in_sorted : (k : ℕ) (r : Ranked) → slice_get found k ≡ Some r → (i : ℕ) × (slice_get sorted i ≡ Some r)
  in_sorted k r e = let w = Contains-permutation found sorted r same (there found k r e) in (w.0, at_of sorted r w)

  rank_at : (k : ℕ) (a : NamedRule) (r : Ranked) → slice_get x.inlined k ≡ Some a → slice_get found k ≡ Some r → (j : ℕ) × (slice_get g.rules j ≡ Some a) × (slice_get ranks j ≡ Some r.rank)
  rank_at k a r here e =
      let v = both_at InlinedRule g.rules among.0 ranks (map rank_of found) k a among.1 (ap (λ (rs : List NamedRule). slice_get rs k) inlined_is ∙ here) in
      (v.0, v.1, sym v.2 ∙ slice_get-map rank_of found k ∙ ap (option_map rank_of) e)

  in_take : (xs : List ℕ) (n i k : ℕ) → slice_get xs i ≡ Some k → i < n → Contains (take n xs) k
  in_take xs n i k e lt =
      let within = slice_get_within xs i k e in
      let size = length-take n xs in
      let short : i < length (take n xs) = omega (arith, lt, within, size) in
      there (take n xs) i k (sym (in_prefix (take n xs) (drop n xs) i short) ∙ ap (λ (ys : List ℕ). slice_get ys i) (take-append-drop n xs) ∙ e)

  rank_rises : (i j : ℕ) (r q : Ranked) → slice_get sorted i ≡ Some r → slice_get sorted j ≡ Some q → i ≤ j → r.rank ≤ q.rank
  rank_rises i j r q e f le =
      let one : get_or sorted i r ≡ r = get_or_from_slice_get sorted i r r e in
      let two : get_or sorted j r ≡ q = get_or_from_slice_get sorted j q r f in
      let rises : rank_of (get_or sorted i r) ≤ rank_of (get_or sorted j r) = rising i j r le (slice_get_within sorted j q f) in
      let a = ap rank_of one in
      let b = ap rank_of two in
      omega (arith, rises, a, b)

  pub inline_order : IsInlineOrder g x (map place_of sorted)
  inline_order = record {
    within = λ k w.
        let r = sorted_at w.0 k (at_of (map place_of sorted) k w) in
        let lt = slice_get_within found k r.0 r.2 in
        let c = count in
        omega (arith, lt, c);
    every = λ k lt.
        let r = found_at k lt in
        let i = in_sorted k r.0 r.1 in
        there (map place_of sorted) i.0 k (slice_get-map place_of sorted i.0 ∙ ap (option_map place_of) i.1 ∙ ap Some r.2);
    before = λ place from to a b at here to_at inlines.
        let r = sorted_at place from at in
        let q = found_at to (slice_get_within x.inlined to b to_at) in
        let i = in_sorted to q.0 q.1 in
        let high = rank_at from a r.0 here r.2 in
        let low = rank_at to b q.0 to_at q.1 in
        let falls = fall high.0 low.0 r.0.rank q.0.rank a b high.1 low.1 inlines high.2 low.2 in
        ⊎_elim
        (λ lt. in_take (map place_of sorted) place i.0 to (slice_get-map place_of sorted i.0 ∙ ap (option_map place_of) i.1 ∙ ap Some q.2) lt)
        (λ ge. absurd (let rises = rank_rises place i.0 r.0 q.0 r.1 i.1 ge in let z : ⊥ = omega (arith, rises, falls) in z))
        (cases_lt i.0 place);
  }
