-- What all alternatives of a grammar become, and the limits.
use Rattle.std.proofs.Common.{◌≡◌, ◌≢◌, ◌∙◌, sym, ap, refl, subst, arith, ℕ, suc, ◌+◌, ◌<◌, min, ◌⊎◌, inl, inr, ⊎_elim, ◌↔◌, List, [], ◌∷◌, map, length, take, drop, slice_get, Some, None, option_map, All}
use Rattle.std.specs.List.{Contains}
use Rattle.std.proofs.lemmas.List.{length-map, length-take, take-append-drop}
use Rattle.std.proofs.lemmas.List.Elements.{All-weaker, All-contains_itself}
use Rattle.std.proofs.lemmas.Option.{slice_get_within, slice_get-get_or, slice_get-map, slice_get_cases}
use Rattle.ts_base.proofs.PlaceLemmas.{in_prefix}
use Rattle.ts_core.specs.declared.flat.Production.{Production}
use Rattle.ts_rules.specs.declared.size.Size.{Size}
use Rattle.ts_rules.specs.declared.tree.Alternative.{Alternative}
use Rattle.ts_rules.specs.declared.tree.NumberedStep.{NumberedStep}
use Rattle.ts_rules.specs.declared.tree.Tree.{Tree}
use Rattle.ts_rules.specs.Alternatives.{Alternatives, longest_of}
use Rattle.ts_rules.specs.FirstSights.{AreFirstSights}
use Rattle.ts_rules.specs.Productions.{AllBecome, production}
use Rattle.ts_productions.specs.declared.sources.Sources.{Sources}
use Rattle.ts_productions.specs.Expansions.{Expansions, Table, IsFull, plain, spread_all}
use Rattle.ts_productions.specs.Flat.{aliased, flat}
use Rattle.ts_productions.specs.Limits.{IsReplacedBy, AreMany, AreFewSources, SomeIsLong, AllAreShort, BecomeFew, AreInlinedProductions}
use Rattle.ts_productions.specs.Roots.{AreOrderedSources, StepsTo, whole, inlined_at, roots_of, before_of}
use Rattle.ts_productions.specs.Sizes.{IsSizeOf, AreWithin, longest_in}
use Rattle.ts_productions.proofs.BecomeLemmas.{expand_all, plain_all, all_became, all_become, deep, deep_full}
use Rattle.ts_productions.proofs.EntryLemmas.{entry_place}
use Rattle.ts_productions.proofs.TotalLemmas.{everywhere}

place_in_take : (xs : List ℕ) (n j : ℕ) → Contains (take n xs) j → (k : ℕ) × (k < n) × (slice_get xs k ≡ Some j)
place_in_take xs n j w = (
  w.0,
  let a = w.1 in let b = length-take n xs in omega (arith, a, b),
  ap (λ (ys : List ℕ). slice_get ys w.0) (sym (take-append-drop n xs)) ∙ in_prefix (take n xs) (drop n xs) w.0 w.1 ∙ slice_get-get_or (take n xs) w.0 j w.1 ∙ ap (λ (m : ℕ). Some m) w.2,
)

inner_same : (a b : Alternatives) → Some a ≡ Some b → a ≡ b
inner_same a b e = cc

none_inner : (a : Alternatives) → None ≡ Some a → ⊥
none_inner a e = cc

module _ (s : Sources) (ordered : AreOrderedSources s) where
  whole_at : (symbol : ℕ) (inner : Alternatives) → inlined_at s symbol ≡ Some inner → (k : ℕ) × (tree : Tree) × (symbol ≡ s.first_inlined + k) × (slice_get s.inlined.now k ≡ Some tree) × (whole tree ≡ inner)
  whole_at symbol inner is =
      let v = entry_place s.first_inlined (map whole s.inlined.now) symbol inner is in
      elim (slice_get_cases s.inlined.now v.0).1 [
        | inl u ↦ (v.0, u.0, v.1, u.2, inner_same (whole u.0) inner (sym (slice_get-map whole s.inlined.now v.0 ∙ ap (option_map whole) u.2) ∙ v.2))
        | inr u ↦ absurd (none_inner inner (sym (slice_get-map whole s.inlined.now v.0 ∙ ap (option_map whole) u.1) ∙ v.2))
      ]

  -- the symbol's rule stands before this place of the order
  abbrev Low : ℕ → ℕ → Type 0
  Low r symbol = (q : ℕ) × (k : ℕ) × (q < r) × (slice_get s.order.now q ≡ Some k) × (symbol ≡ s.first_inlined + k)

  abbrev Lower : ℕ → NumberedStep → Type 0
  Lower r t = (i : Alternatives) → inlined_at s t.symbol ≡ Some i → Low r t.symbol

  low_zero : (symbol : ℕ) → Low 0 symbol → ⊥
  low_zero symbol w = let f : ⊥ = (let a = w.2 in omega (arith, a)) in f

  low_step : (r symbol : ℕ) (inner : Alternatives) → Low (suc r) symbol → inlined_at s symbol ≡ Some inner → All (λ (q : Alternative). All (Lower r) q.steps) inner
  low_step r symbol inner low is =
      let v = whole_at symbol inner is in
      let same : v.0 ≡ low.1 = (let a = v.2 in let b = low.4 in omega (arith, a, b)) in
      subst (λ (xs : Alternatives). All (λ (q : Alternative). All (Lower r) q.steps) xs) v.4
      (All-weaker (Contains (whole v.1)) (λ (q : Alternative). All (Lower r) q.steps)
      (λ x has. All-weaker (Contains x.steps) (Lower r)
      (λ t steps i here.
      let u = whole_at t.symbol i here in
      let to : StepsTo s low.1 u.0 = record {
        tree = v.1;
        is = subst (λ (k : ℕ). slice_get s.inlined.now k ≡ Some v.1) same v.3;
        alternative = x;
        has = has;
        step = t;
        steps = steps;
        symbol = u.2;
        there = slice_get_within s.inlined.now u.0 u.1 u.3;
      } in
      let p = place_in_take s.order.now low.0 u.0 (ordered.before low.0 low.1 u.0 low.3 to) in
      (p.0, u.0, (let a = p.1 in let b = low.2 in omega (arith, a, b)), p.2, u.2))
      x.steps (All-contains_itself x.steps))
      (whole v.1) (All-contains_itself (whole v.1)))

  all_low : (symbol : ℕ) (inner : Alternatives) → inlined_at s symbol ≡ Some inner → Low (length s.order.now) symbol
  all_low symbol inner is =
      let v = whole_at symbol inner is in
      let w = ordered.every v.0 (slice_get_within s.inlined.now v.0 v.1 v.3) in
      (w.0, v.0, w.1, slice_get-get_or s.order.now w.0 v.0 w.1 ∙ ap (λ (m : ℕ). Some m) w.2, v.2)

  same : (symbol : ℕ) (inner : Alternatives) → IsReplacedBy s symbol inner ↔ (inlined_at s symbol ≡ Some inner)
  same symbol inner = (λ x. x, λ x. x)

  -- what replaces the inlined rules through and through
  pub full_table : (F : Table) × IsFull (inlined_at s) F
  full_table = (deep (inlined_at s) Low low_zero low_step (length s.order.now), deep_full (inlined_at s) Low low_zero low_step (length s.order.now) all_low)

  abbrev pub table : Table
  table = full_table.0

  pub table_full : IsFull (inlined_at s) table
  table_full = full_table.1

  pub gives : (xs : Alternatives) → AllBecome (IsReplacedBy s) xs (expand_all table xs)
  gives xs =
      all_become (IsReplacedBy s) (inlined_at s) same table table_full Low low_zero low_step (length s.order.now) xs
      (everywhere (λ (p : Alternative). All (Lower (length s.order.now)) p.steps)
      (λ p. everywhere (Lower (length s.order.now)) (λ t i is. all_low t.symbol i is) p.steps) xs)

  pub only : (xs all : Alternatives) → AllBecome (IsReplacedBy s) xs all → all ≡ expand_all table xs
  only xs all h = all_became (IsReplacedBy s) (inlined_at s) same table table_full xs all h

  count_same : (xs : Alternatives) → length (expand_all table xs) ≡ length (spread_all table xs)
  count_same xs = ap (λ (ys : Alternatives). length ys) (sym (plain_all table xs)) ∙ length-map (spread_all table xs) plain

  long_same : (xs : Alternatives) → longest_of (expand_all table xs) ≡ longest_in (spread_all table xs)
  long_same xs = ap longest_of (sym (plain_all table xs))

  -- ---- the limits

  module _ (before after : Size) (many_before : before.many ≡ min 65536 (length (before_of s))) (long_before : before.longest ≡ min 256 (longest_of (before_of s)))
      (sized : (F : Table) → IsFull (inlined_at s) F → IsSizeOf (spread_all F (roots_of s)) after) where
    many_after : after.many ≡ min 65536 (length (expand_all table (roots_of s)))
    many_after = (sized table table_full).many ∙ ap (min 65536) (sym (count_same (roots_of s)))

    long_after : after.longest ≡ min 256 (longest_of (expand_all table (roots_of s)))
    long_after = (sized table table_full).longest ∙ ap (min 256) (sym (long_same (roots_of s)))

    pub are_many : (before.many ≡ 65536) ⊎ (after.many ≡ 65536) → AreMany s
    are_many h = ⊎_elim
        (λ a. inl (omega (arith, a, many_before)))
        (λ a. inr (expand_all table (roots_of s), gives (roots_of s), let b = many_after in omega (arith, a, b)))
        h

    pub are_few : before.many ≢ 65536 → after.many ≢ 65536 → AreFewSources s
    are_few h k = (omega (arith, h, many_before), (expand_all table (roots_of s), gives (roots_of s), let b = many_after in omega (arith, k, b)))

    pub some_long : (before.longest ≡ 256) ⊎ (after.longest ≡ 256) → SomeIsLong s
    some_long h = ⊎_elim
        (λ a. inl (omega (arith, a, long_before)))
        (λ a. inr (expand_all table (roots_of s), gives (roots_of s), let b = long_after in omega (arith, a, b)))
        h

    pub all_short : before.longest ≢ 256 → after.longest ≢ 256 → AllAreShort s
    all_short h k = (omega (arith, h, long_before), (expand_all table (roots_of s), gives (roots_of s), let b = long_after in omega (arith, k, b)))

  pub few_not_many : AreFewSources s → AreMany s → ⊥
  few_not_many few many = ⊎_elim
      (λ a. let f : ⊥ = (let b = few.0 in omega (arith, a, b)) in f)
      (λ a.
      let e : few.1.0 ≡ a.0 = only (roots_of s) few.1.0 few.1.1 ∙ sym (only (roots_of s) a.0 a.1) in
      let g : length few.1.0 ≡ length a.0 = ap (λ (ys : Alternatives). length ys) e in
      let f : ⊥ = (let b = few.1.2 in let d = a.2 in omega (arith, g, b, d)) in f)
      many

  pub short_not_long : AllAreShort s → SomeIsLong s → ⊥
  short_not_long short long = ⊎_elim
      (λ a. let f : ⊥ = (let b = short.0 in omega (arith, a, b)) in f)
      (λ a.
      let e : short.1.0 ≡ a.0 = only (roots_of s) short.1.0 short.1.1 ∙ sym (only (roots_of s) a.0 a.1) in
      let g : longest_of short.1.0 ≡ longest_of a.0 = ap longest_of e in
      let f : ⊥ = (let b = short.1.2 in let d = a.2 in omega (arith, g, b, d)) in f)
      long

  -- ---- productions

  pub within : (xs : Alternatives) → BecomeFew s xs → AreWithin (spread_all table xs)
  within xs few =
      let w = few (expand_all table xs) (gives xs) in
      let a = count_same xs in
      let b = long_same xs in
      (let d = w.0 in omega (arith, a, d), let d = w.1 in omega (arith, b, d))

  flat_twice : (es : Expansions) → map (flat s.aliases.now) es ≡ map (production (aliased s.aliases.now)) (map plain es)
  flat_twice [] = refl
  flat_twice (e ∷ es) = ap (λ ps. flat s.aliases.now e ∷ ps) (flat_twice es)

  pub inlined_productions : (xs : Alternatives) (es : Expansions) (found : List Production) → es ≡ spread_all table xs → AreFirstSights (map (flat s.aliases.now) es) found → AreInlinedProductions s xs found
  inlined_productions xs es found is firsts = record {
    all = expand_all table xs;
    become = gives xs;
    firsts =
        subst (λ (ps : List Production). AreFirstSights ps found)
        (ap (map (flat s.aliases.now)) is ∙ flat_twice (spread_all table xs) ∙ ap (map (production (aliased s.aliases.now))) (plain_all table xs)) firsts;
  }
