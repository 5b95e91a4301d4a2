-- The size of all alternatives of trees.
use Rattle.std.proofs.Common.{◌≡◌, ◌∙◌, sym, ap, refl, subst, arith, ℕ, zero, suc, ◌+◌, ◌*◌, ◌<◌, ◌≤◌, min, max, ◌⊎◌, inl, inr, ⊎_elim, List, [], ◌∷◌, map, ◌++◌, length, take, set, get_or, slice_get, Option, Some, None, option_map, append-nil, All}
use Rattle.std.specs.List.{Contains, flat_map}
use Rattle.std.proofs.lemmas.Bool.{cases_eq}
use Rattle.std.proofs.lemmas.List.{take_more, take_all, length-set, length-map}
use Rattle.std.proofs.lemmas.Option.{slice_get_within, slice_get-get_or, slice_get-map, slice_get_cases}
use Rattle.std.proofs.lemmas.List.Elements.{Contains-get_or, All-nil, All-cons, All-weaker, All-contains_itself, Contains-append_cases}
use Rattle.ts_base.proofs.PlaceLemmas.{set_here, set_there}
use Rattle.ts_rules.specs.declared.size.Size.{Size}
use Rattle.ts_rules.specs.declared.tree.Alternative.{Alternative}
use Rattle.ts_rules.specs.declared.tree.NumberedStep.{NumberedStep}
use Rattle.ts_rules.specs.declared.tree.Tree.{Tree}
use Rattle.ts_rules.specs.Alternatives.{Alternatives, longest_of}
use Rattle.ts_rules.specs.Productions.{filled, again}
use Rattle.ts_productions.specs.declared.measure.Measure.{Measure}
use Rattle.ts_productions.specs.declared.sources.Sources.{Sources}
use Rattle.ts_productions.specs.declared.weights.Weights.{Weights}
use Rattle.ts_productions.specs.Expansions.{Expansions, Table, IsFull, by_option, spread_all}
use Rattle.ts_productions.specs.Roots.{AreOrderedSources, whole, filled_all, repeated_all, inlined_at}
use Rattle.ts_productions.specs.Sizes.{size_at, one_step, many_of, longest_by, weigh, span, tall, total, reach, IsMeasure, IsSizeBy, IsSizeOf, SizesHold, longest_in, IsWeighed, AllAgree}
use Rattle.ts_productions.proofs.EntryLemmas.{entry_miss, entry_cases, entry_there}
use Rattle.ts_productions.proofs.SizeLemmas.{total_append, total_apart, total_filled, reach_append, reach_filled, reach_none, zero_or, tall_some, tall_none}
use Rattle.ts_productions.proofs.SpreadLemmas.{flat_append}
use Rattle.ts_productions.proofs.SpreadSizeLemmas.{size_of_spread}

-- ---- lists, one after another

pub size_append : (w : Weights) (xs ys : Alternatives) (a b c : Size) → IsSizeBy w xs a → IsSizeBy w ys b → c.many ≡ min 65536 (a.many + b.many) → c.longest ≡ max a.longest b.longest → IsSizeBy w (xs ++ ys) c
size_append w xs ys a b c one two many longest = record {
  many = let e = one.many in let f = two.many in let g = total_append (many_of w) xs ys in omega (arith, e, f, g, many);
  longest = let e = one.longest in let f = two.longest in let g = reach_append (many_of w) (longest_by w) xs ys in omega (arith, e, f, g, longest);
}

pub size_none : (w : Weights) (a : Size) → a.many ≡ 0 → a.longest ≡ 0 → IsSizeBy w [] a
size_none w a many longest = record { many = omega (arith, many); longest = omega (arith, longest) }

pub measure_size : (w : Weights) (xs : Alternatives) (m : Measure) (z : Size) → IsMeasure w xs m → z.many ≡ min 65536 (m.blank + m.filled) → z.longest ≡ m.longest → IsSizeBy w xs z
measure_size w xs m z is many longest = record {
  many = let e = is.blank in let f = is.filled in let g = total_apart (many_of w) xs in omega (arith, e, f, g, many);
  longest = longest ∙ is.longest;
}

pub measure_filled : (w : Weights) (xs : Alternatives) (m : Measure) (z : Size) → IsMeasure w xs m → z.many ≡ m.filled → z.longest ≡ m.longest → IsSizeBy w (filled xs) z
measure_filled w xs m z is many longest = record {
  many = many ∙ is.filled ∙ ap (min 65536) (sym (total_filled (many_of w) xs));
  longest = longest ∙ is.longest ∙ ap (min 256) (sym (reach_filled (many_of w) (longest_by w) xs));
}

flat_more : (f : Tree → Alternatives) (trees : List Tree) (i : ℕ) (tree : Tree) → i < length trees → tree ≡ get_or trees i tree → flat_map f (take (i + 1) trees) ≡ flat_map f (take i trees) ++ f tree
flat_more f trees i tree lt at =
    ap (flat_map f) (take_more trees i tree lt ∙ ap (λ (t : Tree). take i trees ++ t ∷ []) (sym at))
    ∙ flat_append f (take i trees) (tree ∷ [])
    ∙ ap (λ (xs : Alternatives). flat_map f (take i trees) ++ xs) (append-nil (f tree))

pub size_more : (w : Weights) (f : Tree → Alternatives) (trees : List Tree) (i : ℕ) (tree : Tree) (acc z new : Size) → i < length trees → tree ≡ get_or trees i tree
    → IsSizeBy w (flat_map f (take i trees)) acc → IsSizeBy w (f tree) z → new.many ≡ min 65536 (acc.many + z.many) → new.longest ≡ max acc.longest z.longest
    → IsSizeBy w (flat_map f (take (i + 1) trees)) new
size_more w f trees i tree acc z new lt at before one many longest =
    subst (λ (xs : Alternatives). IsSizeBy w xs new) (sym (flat_more f trees i tree lt at)) (size_append w (flat_map f (take i trees)) (f tree) acc z new before one many longest)

pub size_ends : (w : Weights) (f : Tree → Alternatives) (trees : List Tree) (i : ℕ) (acc : Size) → length trees ≤ i → IsSizeBy w (flat_map f (take i trees)) acc → IsSizeBy w (flat_map f trees) acc
size_ends w f trees i acc past before = subst (λ (ts : List Tree). IsSizeBy w (flat_map f ts) acc) (take_all i trees past) before

-- ---- repetitions

module _ (W L : ℕ → ℕ) where
  again_total : (n : ℕ) (xs : Alternatives) → W n ≡ 1 → total W (again n xs) ≡ total W xs
  again_total n [] one = refl
  again_total n (x ∷ xs) one =
      let e : W n * weigh W x.steps ≡ weigh W x.steps = ap (λ (k : ℕ). k * weigh W x.steps) one ∙ grind arith in
      let rest : total W (again n xs) ≡ total W xs = again_total n xs one in
      omega (arith, e, rest)

  again_reach : (n : ℕ) (xs : Alternatives) → W n ≡ 1 → L n ≡ 1 → 1 ≤ total W xs → reach W L (again n xs) ≡ suc (reach W L xs)
  again_reach n [] one step some = absurd (omega arith)
  again_reach n (x ∷ xs) one step some = by_both (zero_or W L (weigh W x.steps)) (zero_or W L (total W xs)) (λ h. again_reach n xs one step h)
    where
      here : tall (W n * weigh W x.steps) (L n + span L x.steps) ≡ tall (weigh W x.steps) (suc (span L x.steps))
      here =
          ap (λ (k : ℕ). tall k (L n + span L x.steps)) (ap (λ (k : ℕ). k * weigh W x.steps) one ∙ grind arith)
          ∙ ap (λ (k : ℕ). tall (weigh W x.steps) k) (ap (λ (k : ℕ). k + span L x.steps) step ∙ omega arith)

      by_both : (weigh W x.steps ≡ 0) ⊎ (1 ≤ weigh W x.steps) → (total W xs ≡ 0) ⊎ (1 ≤ total W xs) → (1 ≤ total W xs → reach W L (again n xs) ≡ suc (reach W L xs))
          → max (tall (W n * weigh W x.steps) (L n + span L x.steps)) (reach W L (again n xs)) ≡ suc (max (tall (weigh W x.steps) (span L x.steps)) (reach W L xs))
      by_both (inl none) (inl done) go = absurd (omega (arith, some, none, done))
      by_both (inl none) (inr more) go =
          let a = tall_none W L (weigh W x.steps) (suc (span L x.steps)) none in
          let b = tall_none W L (weigh W x.steps) (span L x.steps) none in
          let rest : reach W L (again n xs) ≡ suc (reach W L xs) = go more in
          omega (arith, here, a, b, rest)
      by_both (inr there) (inl done) go =
          let a = tall_some W L (weigh W x.steps) (suc (span L x.steps)) there in
          let b = tall_some W L (weigh W x.steps) (span L x.steps) there in
          let rest : reach W L (again n xs) ≡ 0 = reach_none W L (again n xs) (again_total n xs one ∙ done) in
          let last : reach W L xs ≡ 0 = reach_none W L xs done in
          omega (arith, here, a, b, rest, last)
      by_both (inr there) (inr more) go =
          let a = tall_some W L (weigh W x.steps) (suc (span L x.steps)) there in
          let b = tall_some W L (weigh W x.steps) (span L x.steps) there in
          let rest : reach W L (again n xs) ≡ suc (reach W L xs) = go more in
          omega (arith, here, a, b, rest)

  -- the symbols from one on, so many, are one step each
  abbrev Ones : ℕ → ℕ → Type 0
  Ones n count = (k : ℕ) → n ≤ k → k < n + count → (W k ≡ 1) × (L k ≡ 1)

  repeated_total : (n : ℕ) (trees : List Tree) → Ones n (length trees) → total W (repeated_all n trees) ≡ total W (filled_all trees) + total W (filled_all trees)
  repeated_total n [] ones = refl
  repeated_total n (tree ∷ trees) ones =
      let xs : Alternatives = filled (whole tree) in
      let a : total W ((xs ++ again n xs) ++ repeated_all (suc n) trees) ≡ total W (xs ++ again n xs) + total W (repeated_all (suc n) trees) = total_append W (xs ++ again n xs) (repeated_all (suc n) trees) in
      let b : total W (xs ++ again n xs) ≡ total W xs + total W (again n xs) = total_append W xs (again n xs) in
      let c : total W (again n xs) ≡ total W xs = again_total n xs (ones n (omega arith) (omega arith)).0 in
      let d : total W (repeated_all (suc n) trees) ≡ total W (filled_all trees) + total W (filled_all trees) = repeated_total (suc n) trees (λ k ge lt. ones k (omega arith) (omega arith)) in
      let e : total W (xs ++ filled_all trees) ≡ total W xs + total W (filled_all trees) = total_append W xs (filled_all trees) in
      omega (arith, a, b, c, d, e)

  repeated_reach : (n : ℕ) (trees : List Tree) → Ones n (length trees) → 1 ≤ total W (filled_all trees) → reach W L (repeated_all n trees) ≡ suc (reach W L (filled_all trees))
  repeated_reach n [] ones some = absurd (omega arith)
  repeated_reach n (tree ∷ trees) ones some = by_both (filled (whole tree)) (zero_or W L (total W (filled (whole tree)))) (zero_or W L (total W (filled_all trees))) some (λ h. repeated_reach (suc n) trees ones_on h)
    where
      ones_on : Ones (suc n) (length trees)
      ones_on k ge lt = ones k (omega arith) (omega arith)

      one : (W n ≡ 1) × (L n ≡ 1)
      one = ones n (omega arith) (omega arith)

      by_both : (xs : Alternatives) → (total W xs ≡ 0) ⊎ (1 ≤ total W xs) → (total W (filled_all trees) ≡ 0) ⊎ (1 ≤ total W (filled_all trees)) → 1 ≤ total W (xs ++ filled_all trees)
          → (1 ≤ total W (filled_all trees) → reach W L (repeated_all (suc n) trees) ≡ suc (reach W L (filled_all trees)))
          → reach W L ((xs ++ again n xs) ++ repeated_all (suc n) trees) ≡ suc (reach W L (xs ++ filled_all trees))
      by_both xs here there h go =
          let a : reach W L ((xs ++ again n xs) ++ repeated_all (suc n) trees) ≡ max (reach W L (xs ++ again n xs)) (reach W L (repeated_all (suc n) trees)) = reach_append W L (xs ++ again n xs) (repeated_all (suc n) trees) in
          let b : reach W L (xs ++ again n xs) ≡ max (reach W L xs) (reach W L (again n xs)) = reach_append W L xs (again n xs) in
          let c : reach W L (xs ++ filled_all trees) ≡ max (reach W L xs) (reach W L (filled_all trees)) = reach_append W L xs (filled_all trees) in
          let d : total W (xs ++ filled_all trees) ≡ total W xs + total W (filled_all trees) = total_append W xs (filled_all trees) in
          let e : total W (repeated_all (suc n) trees) ≡ total W (filled_all trees) + total W (filled_all trees) = repeated_total (suc n) trees ones_on in
          ⊎_elim
          (λ none. ⊎_elim
          (λ done. absurd (omega (arith, h, d, none, done)))
          (λ more.
          let f = reach_none W L xs none in
          let g = reach_none W L (again n xs) (again_total n xs one.0 ∙ none) in
          let r = go more in
          omega (arith, a, b, c, f, g, r))
          there)
          (λ some. ⊎_elim
          (λ done.
          let f = again_reach n xs one.0 one.1 some in
          let g = reach_none W L (filled_all trees) done in
          let r = reach_none W L (repeated_all (suc n) trees) (let z : total W (filled_all trees) + total W (filled_all trees) ≡ 0 = omega (arith, done) in e ∙ z) in
          omega (arith, a, b, c, f, g, r))
          (λ more.
          let f = again_reach n xs one.0 one.1 some in
          let r = go more in
          omega (arith, a, b, c, f, r))
          there)
          here

pub repeated_size : (w : Weights) (n : ℕ) (trees : List Tree) (f z : Size) → n + length trees ≤ w.first → IsSizeBy w (filled_all trees) f
    → z.many ≡ min 65536 (f.many + f.many) → (f.many ≡ 0 → z.longest ≡ f.longest) → (1 ≤ f.many → z.longest ≡ min 256 (f.longest + 1)) → IsSizeBy w (repeated_all n trees) z
repeated_size w n trees f z apart is many none some = record {
  many = let e = is.many in let g = repeated_total (many_of w) (longest_by w) n trees ones in omega (arith, e, g, many);
  longest = ⊎_elim
      (λ gone.
      let e = reach_none (many_of w) (longest_by w) (repeated_all n trees) (let g = repeated_total (many_of w) (longest_by w) n trees ones in omega (arith, g, gone)) in
      let g = reach_none (many_of w) (longest_by w) (filled_all trees) gone in
      let h = none (let k = is.many in omega (arith, k, gone)) in
      let k = is.longest in
      omega (arith, e, g, h, k))
      (λ there.
      let e = repeated_reach (many_of w) (longest_by w) n trees ones there in
      let h = some (let k = is.many in omega (arith, k, there)) in
      let k = is.longest in
      omega (arith, e, h, k))
      (zero_or (many_of w) (longest_by w) (total (many_of w) (filled_all trees)));
}
  where
    ones : (k : ℕ) → n ≤ k → k < n + length trees → (many_of w k ≡ 1) × (longest_by w k ≡ 1)
    ones k ge lt =
        let e : size_at w k ≡ one_step = ap (λ (o : Option Size). by_option o one_step (λ (s : Size). s)) (entry_miss w.first w.sizes.now k (inl (omega (arith, apart, lt)))) in
        (ap (λ (s : Size). s.many) e, ap (λ (s : Size). s.longest) e)

-- ---- before inlining

unit_weigh : (W : ℕ → ℕ) → ((k : ℕ) → W k ≡ 1) → (steps : List NumberedStep) → weigh W steps ≡ 1
unit_weigh W one [] = refl
unit_weigh W one (s ∷ steps) =
    ap (λ (n : ℕ). n * weigh W steps) (one s.symbol) ∙ ap (λ (n : ℕ). 1 * n) (unit_weigh W one steps)

unit_span : (L : ℕ → ℕ) → ((k : ℕ) → L k ≡ 1) → (steps : List NumberedStep) → span L steps ≡ length steps
unit_span L one [] = refl
unit_span L one (s ∷ steps) = let a = one s.symbol in let b = unit_span L one steps in omega (arith, a, b)

unit_total : (W : ℕ → ℕ) → ((k : ℕ) → W k ≡ 1) → (xs : Alternatives) → total W xs ≡ length xs
unit_total W one [] = refl
unit_total W one (x ∷ xs) = let a = unit_weigh W one x.steps in let b = unit_total W one xs in omega (arith, a, b)

unit_reach : (W L : ℕ → ℕ) → ((k : ℕ) → W k ≡ 1) → ((k : ℕ) → L k ≡ 1) → (xs : Alternatives) → reach W L xs ≡ longest_of xs
unit_reach W L one step [] = refl
unit_reach W L one step (x ∷ xs) =
    ap (λ (n : ℕ). max (tall n (span L x.steps)) (reach W L xs)) (unit_weigh W one x.steps)
    ∙ ap (λ (n : ℕ). max n (reach W L xs)) (unit_span L step x.steps)
    ∙ ap (λ (n : ℕ). max (length x.steps) n) (unit_reach W L one step xs)

pub unit_size : (w : Weights) (xs : Alternatives) (z : Size) → w.sizes.now ≡ [] → IsSizeBy w xs z → (z.many ≡ min 65536 (length xs)) × (z.longest ≡ min 256 (longest_of xs))
unit_size w xs z none is = (
  is.many ∙ ap (min 65536) (unit_total (many_of w) (λ k. ap (λ (s : Size). s.many) (plain k)) xs),
  is.longest ∙ ap (min 256) (unit_reach (many_of w) (longest_by w) (λ k. ap (λ (s : Size). s.many) (plain k)) (λ k. ap (λ (s : Size). s.longest) (plain k)) xs),
)
  where
    plain : (k : ℕ) → size_at w k ≡ one_step
    plain k =
        ap (λ (o : Option Size). by_option o one_step (λ (s : Size). s))
        (⊎_elim (λ v. absurd (let e : length w.sizes.now ≡ 0 = ap (λ (ss : List Size). length ss) none in let f = v.2 in omega (arith, e, f))) (λ v. entry_miss w.first w.sizes.now k v) (entry_cases w.first w.sizes.now k))

-- ---- the sizes of the inlined rules

pub everywhere : {X : Type 0} (P : X → Type 0) → ((x : X) → P x) → (xs : List X) → All P xs
everywhere P all [] = All-nil P
everywhere P all (x ∷ xs) = All-cons P x xs (all x) (everywhere P all xs)

agree_at : (s : Sources) (F : Table) (w : Weights) (done : List ℕ) (t : ℕ) → w.first ≡ s.first_inlined → IsFull (inlined_at s) F → SizesHold s done w.sizes.now
    → ((j : ℕ) → t ≡ s.first_inlined + j → j < length s.inlined.now → Contains done j) → IsWeighed F w t
agree_at s F w done t first full hold known = ⊎_elim there away (entry_cases s.first_inlined s.inlined.now t)
  where
    there : (j : ℕ) × (t ≡ s.first_inlined + j) × (j < length s.inlined.now) → IsWeighed F w t
    there v = elim (slice_get_cases s.inlined.now v.0).1 [
      | inl u ↦
          let e : F t ≡ Some (spread_all F (whole u.0)) =
          full t ∙ ap (option_map (spread_all F)) (entry_there s.first_inlined (map whole s.inlined.now) t v.0 (whole u.0) v.1 (slice_get-map whole s.inlined.now v.0 ∙ ap (option_map whole) u.2)) in
          let size = hold.tell F v.0 (spread_all F (whole u.0)) full (known v.0 v.1 v.2) (ap F (sym v.1) ∙ e) in
          let f : size_at w t ≡ size.0 = ap (λ (o : Option Size). by_option o one_step (λ (z : Size). z)) (entry_there w.first w.sizes.now t v.0 size.0 (v.1 ∙ ap (λ (n : ℕ). n + v.0) (sym first)) size.1) in (
            ap (λ (z : Size). z.many) f ∙ size.2.many ∙ ap (λ (o : Option Expansions). min 65536 (by_option o 1 (λ (found : Expansions). length found))) (sym e),
            ap (λ (z : Size). z.longest) f ∙ size.2.longest ∙ ap (λ (o : Option Expansions). min 256 (by_option o 1 longest_in)) (sym e),
          )
      | inr u ↦ absurd (let a = u.0 in let b = v.2 in omega (arith, a, b))
    ]

    away : (t < s.first_inlined) ⊎ (s.first_inlined + length s.inlined.now ≤ t) → IsWeighed F w t
    away v =
        let e : F t ≡ None = full t ∙ ap (option_map (spread_all F)) (entry_miss s.first_inlined (map whole s.inlined.now) t (⊎_elim (λ a. inl a) (λ a. inr (let b = length-map s.inlined.now whole in omega (arith, a, b))) v)) in
        let f : size_at w t ≡ one_step = ap (λ (o : Option Size). by_option o one_step (λ (z : Size). z)) (entry_miss w.first w.sizes.now t (⊎_elim (λ a. inl (omega (arith, a, first))) (λ a. inr (let b = hold.one_each in omega (arith, a, b, first))) v)) in (
          ap (λ (z : Size). z.many) f ∙ ap (λ (o : Option Expansions). min 65536 (by_option o 1 (λ (found : Expansions). length found))) (sym e),
          ap (λ (z : Size). z.longest) f ∙ ap (λ (o : Option Expansions). min 256 (by_option o 1 longest_in)) (sym e),
        )

-- where all sizes are known
pub agree_all : (s : Sources) (F : Table) (w : Weights) (xs : Alternatives) → w.first ≡ s.first_inlined → IsFull (inlined_at s) F → AreOrderedSources s → SizesHold s s.order.now w.sizes.now → AllAgree F w xs
agree_all s F w xs first full ordered hold =
    everywhere (λ (x : Alternative). All (λ (t : NumberedStep). IsWeighed F w t.symbol) x.steps)
    (λ x. everywhere (λ (t : NumberedStep). IsWeighed F w t.symbol) (λ t. agree_at s F w s.order.now t.symbol first full hold (λ j e lt. ordered.every j lt)) x.steps) xs

-- where those before a place are known
pub agree_before : (s : Sources) (F : Table) (w : Weights) (place k : ℕ) (tree : Tree) → w.first ≡ s.first_inlined → IsFull (inlined_at s) F → AreOrderedSources s → SizesHold s (take place s.order.now) w.sizes.now
    → slice_get s.order.now place ≡ Some k → slice_get s.inlined.now k ≡ Some tree → AllAgree F w (whole tree)
agree_before s F w place k tree first full ordered hold here is =
    All-weaker (Contains (whole tree)) (λ (x : Alternative). All (λ (t : NumberedStep). IsWeighed F w t.symbol) x.steps)
    (λ x has. All-weaker (Contains x.steps) (λ (t : NumberedStep). IsWeighed F w t.symbol)
    (λ t steps. agree_at s F w (take place s.order.now) t.symbol first full hold
    (λ j e lt. ordered.before place k j here (record { tree = tree; is = is; alternative = x; has = has; step = t; steps = steps; symbol = e; there = lt })))
    x.steps (All-contains_itself x.steps))
    (whole tree) (All-contains_itself (whole tree))

pub only_one : (x y : ℕ) → Contains (x ∷ []) y → y ≡ x
only_one x y w = one w.0 w.1 w.2
  where
    one : (k : ℕ) → k < 1 → get_or (x ∷ []) k y ≡ y → y ≡ x
    one zero h e = sym e
    one (suc k) h e = absurd (omega arith)

sizes_more : (s : Sources) (w : Weights) (place k d : ℕ) (tree : Tree) (z : Size) → AreOrderedSources s → w.first ≡ s.first_inlined → SizesHold s (take place s.order.now) w.sizes.now
    → place < length s.order.now → k ≡ get_or s.order.now place d → slice_get s.inlined.now k ≡ Some tree → IsSizeBy w (whole tree) z
    → SizesHold s (take (place + 1) s.order.now) (set w.sizes.now k z)
sizes_more s w place k d tree z ordered first hold lt at is size = record {
  one_each = length-set w.sizes.now k z ∙ hold.one_each;
  tell = λ F j found full has here. ⊎_elim
      (λ e. (z, ap (slice_get (set w.sizes.now k z)) e ∙ set_here w.sizes.now k z (let a = slice_get_within s.inlined.now k tree is in let b = hold.one_each in omega (arith, a, b)), new F found j full e here))
      (λ other.
      let old = hold.tell F j found full (known j other has) here in
      (old.0, set_there w.sizes.now k j z other ∙ old.1, old.2))
      (cases_eq j k);
}
  where
    longer : take (place + 1) s.order.now ≡ take place s.order.now ++ k ∷ []
    longer = take_more s.order.now place d lt ∙ ap (λ (n : ℕ). take place s.order.now ++ n ∷ []) (sym at)

    known : (j : ℕ) → (j ≡ k → ⊥) → Contains (take (place + 1) s.order.now) j → Contains (take place s.order.now) j
    known j other has = ⊎_elim (λ v. v) (λ v. absurd (other (only_one k j v))) (Contains-append_cases (take place s.order.now) (k ∷ []) j (subst (λ (xs : List ℕ). Contains xs j) longer has))

    new : (F : Table) (found : Expansions) (j : ℕ) → IsFull (inlined_at s) F → j ≡ k → F (s.first_inlined + j) ≡ Some found → IsSizeOf found z
    new F found j full e here =
        let f : F (s.first_inlined + k) ≡ Some (spread_all F (whole tree)) =
        full (s.first_inlined + k) ∙ ap (option_map (spread_all F)) (entry_there s.first_inlined (map whole s.inlined.now) (s.first_inlined + k) k (whole tree) refl (slice_get-map whole s.inlined.now k ∙ ap (option_map whole) is)) in
        let g : Some found ≡ Some (spread_all F (whole tree)) = sym here ∙ ap (λ (n : ℕ). F (s.first_inlined + n)) e ∙ f in
        let same : found ≡ spread_all F (whole tree) = cc in
        subst (λ (xs : Expansions). IsSizeOf xs z) (sym same)
        (size_of_spread F w (whole tree) z (agree_before s F w place k tree first full ordered hold (slice_get-get_or s.order.now place d lt ∙ ap (λ (n : ℕ). Some n) (sym at)) is) size)

pub place_within : (s : Sources) (place d : ℕ) → AreOrderedSources s → place < length s.order.now → get_or s.order.now place d < length s.inlined.now
place_within s place d ordered lt = ordered.within (get_or s.order.now place d) (Contains-get_or s.order.now place d lt)

pub sizes_next : (s : Sources) (w : Weights) (place d : ℕ) (z : Size) → AreOrderedSources s → w.first ≡ s.first_inlined → SizesHold s (take place s.order.now) w.sizes.now
    → place < length s.order.now → ((tree : Tree) → slice_get s.inlined.now (get_or s.order.now place d) ≡ Some tree → IsSizeBy w (whole tree) z)
    → SizesHold s (take (place + 1) s.order.now) (set w.sizes.now (get_or s.order.now place d) z)
sizes_next s w place d z ordered first hold lt size = elim (slice_get_cases s.inlined.now (get_or s.order.now place d)).1 [
  | inl u ↦ sizes_more s w place (get_or s.order.now place d) d u.0 z ordered first hold lt refl u.2 (size u.0 u.2)
  | inr u ↦ absurd (let a = u.0 in let b = place_within s place d ordered lt in omega (arith, a, b))
]
