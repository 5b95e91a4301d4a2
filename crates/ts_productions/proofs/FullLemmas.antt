-- The expansions of the inlined rules, built one after another.
use Rattle.std.proofs.Common.{◌≡◌, ◌∙◌, sym, ap, refl, subst, arith, ℕ, ◌+◌, ◌*◌, ◌<◌, ◌≤◌, ◌⊎◌, inl, inr, ⊎_elim, List, [], ◌∷◌, map, ◌++◌, length, take, set, get_or, slice_get, Option, Some, None, option_map, All}
use Rattle.std.specs.List.{Contains}
use Rattle.std.proofs.lemmas.Bool.{cases_eq}
use Rattle.std.proofs.lemmas.List.{take_more, length-set, length-map}
use Rattle.std.proofs.lemmas.List.Elements.{All-nil, All-cons, All-head, All-tail, All-weaker, All-contains_itself, Contains-append_cases, Contains-get_or}
use Rattle.std.proofs.lemmas.Option.{slice_get_within, slice_get-get_or, slice_get-map, slice_get_cases}
use Rattle.std.proofs.Math.Nat.{le-mul_of_pos_right, mul_comm}
use Rattle.ts_base.proofs.PlaceLemmas.{set_here, set_there}
use Rattle.ts_rules.specs.declared.size.Size.{Size}
use Rattle.ts_rules.specs.declared.tree.Alternative.{Alternative}
use Rattle.ts_rules.specs.declared.tree.NumberedStep.{NumberedStep}
use Rattle.ts_rules.specs.declared.tree.Tree.{Tree}
use Rattle.ts_rules.specs.Alternatives.{Alternatives}
use Rattle.ts_productions.specs.declared.sources.Sources.{Sources}
use Rattle.ts_productions.specs.declared.spread.Inlined.{Inlined}
use Rattle.ts_productions.specs.Expansions.{Expansions, Table, IsFull, by_option, spread_all}
use Rattle.ts_productions.specs.Roots.{AreOrderedSources, whole, inlined_at}
use Rattle.ts_productions.specs.Sizes.{IsWeighed, AllAgree, IsUsable, AreWithin, IsSizeOf, SizesHold, FullHold, look, weights_of, count_in, length_in, longest_in, weigh, span, total, reach}
use Rattle.ts_productions.proofs.EntryLemmas.{entry_miss, entry_cases, entry_there}
use Rattle.ts_productions.proofs.SizeLemmas.{both_some, tall_some}
use Rattle.ts_productions.proofs.SpreadSizeLemmas.{all_count, all_length}
use Rattle.ts_productions.proofs.TotalLemmas.{agree_all, everywhere, only_one}

module _ (W L : ℕ → ℕ) (m n : ℕ) where
  abbrev pub Light : NumberedStep → Type 0
  Light t = (W t.symbol ≤ m) × (L t.symbol ≤ n)

  light_steps : (steps : List NumberedStep) → 1 ≤ weigh W steps → weigh W steps ≤ m → span L steps ≤ n → All Light steps
  light_steps [] some few short = All-nil Light
  light_steps (s ∷ ss) some few short =
      let both : (1 ≤ W s.symbol) × (1 ≤ weigh W ss) = both_some W L (W s.symbol) (weigh W ss) some in
      let one : W s.symbol ≤ W s.symbol * weigh W ss = le-mul_of_pos_right (W s.symbol) both.1 in
      let two : weigh W ss ≤ weigh W ss * W s.symbol = le-mul_of_pos_right (weigh W ss) both.0 in
      let same : weigh W ss * W s.symbol ≡ W s.symbol * weigh W ss = mul_comm (weigh W ss) (W s.symbol) in
      All-cons Light s ss (omega (arith, one, few), omega (arith, short)) (light_steps ss both.1 (omega (arith, two, same, few)) (omega (arith, short)))

  light_all : (xs : Alternatives) → total W xs ≤ m → reach W L xs ≤ n → All (λ (x : Alternative). 1 ≤ weigh W x.steps → All Light x.steps) xs
  light_all [] few short = All-nil (λ (x : Alternative). 1 ≤ weigh W x.steps → All Light x.steps)
  light_all (x ∷ xs) few short =
      All-cons (λ (x : Alternative). 1 ≤ weigh W x.steps → All Light x.steps) x xs
      (λ some. light_steps x.steps some (omega (arith, few)) (let e = tall_some W L (weigh W x.steps) (span L x.steps) some in omega (arith, e, short)))
      (light_all xs (omega (arith, few)) (omega (arith, short)))

zip_all : {X : Type 0} (P Q R : X → Type 0) → ((x : X) → P x → Q x → R x) → (xs : List X) → All P xs → All Q xs → All R xs
zip_all P Q R f [] p q = All-nil R
zip_all P Q R f (x ∷ xs) p q = All-cons R x xs (f x (All-head P x xs p) (All-head Q x xs q)) (zip_all P Q R f xs (All-tail P x xs p) (All-tail Q x xs q))

-- the symbol is no inlined rule's, or that rule's place is told
abbrev pub Known : Sources → List ℕ → ℕ → Type 0
Known s done t = (j : ℕ) → t ≡ s.first_inlined + j → j < length s.inlined.now → Contains done j

look_at : (s : Sources) (F : Table) (t : Inlined) (done : List ℕ) (symbol : ℕ) → t.first ≡ s.first_inlined → IsFull (inlined_at s) F → FullHold s done t.full.now → Known s done symbol
    → (count_in F symbol ≤ 65535) × (length_in F symbol ≤ 255) → F symbol ≡ look t symbol
look_at s F t done symbol first full hold known light = ⊎_elim there away (entry_cases s.first_inlined s.inlined.now symbol)
  where
    there : (j : ℕ) × (symbol ≡ s.first_inlined + j) × (j < length s.inlined.now) → F symbol ≡ look t symbol
    there v = elim (slice_get_cases s.inlined.now v.0).1 [
      | inl u ↦
          let e : F symbol ≡ Some (spread_all F (whole u.0)) =
          full symbol ∙ ap (option_map (spread_all F)) (entry_there s.first_inlined (map whole s.inlined.now) symbol v.0 (whole u.0) v.1 (slice_get-map whole s.inlined.now v.0 ∙ ap (option_map whole) u.2)) in
          let a : count_in F symbol ≡ length (spread_all F (whole u.0)) = ap (λ (o : Option Expansions). by_option o 1 (λ (found : Expansions). length found)) e in
          let b : length_in F symbol ≡ longest_in (spread_all F (whole u.0)) = ap (λ (o : Option Expansions). by_option o 1 longest_in) e in
          let within : AreWithin (spread_all F (whole u.0)) = (let l = light.0 in omega (arith, a, l), let l = light.1 in omega (arith, b, l)) in
          let built = hold.tell F v.0 (spread_all F (whole u.0)) full (known v.0 v.1 v.2) (ap F (sym v.1) ∙ e) within in
          e ∙ sym (entry_there t.first t.full.now symbol v.0 (spread_all F (whole u.0)) (v.1 ∙ ap (λ (n : ℕ). n + v.0) (sym first)) built)
      | inr u ↦ absurd (let a = u.0 in let b = v.2 in omega (arith, a, b))
    ]

    away : (symbol < s.first_inlined) ⊎ (s.first_inlined + length s.inlined.now ≤ symbol) → F symbol ≡ look t symbol
    away v =
        let e : F symbol ≡ None = full symbol ∙ ap (option_map (spread_all F)) (entry_miss s.first_inlined (map whole s.inlined.now) symbol (⊎_elim (λ a. inl a) (λ a. inr (let b = length-map s.inlined.now whole in omega (arith, a, b))) v)) in
        e ∙ sym (entry_miss t.first t.full.now symbol (⊎_elim (λ a. inl (omega (arith, a, first))) (λ a. inr (let b = hold.one_each in omega (arith, a, b, first))) v))

usable_by : (s : Sources) (F : Table) (t : Inlined) (done : List ℕ) (xs : Alternatives) → t.first ≡ s.first_inlined → IsFull (inlined_at s) F → FullHold s done t.full.now → AllAgree F (weights_of t) xs
    → AreWithin (spread_all F xs) → All (λ (x : Alternative). All (λ (step : NumberedStep). Known s done step.symbol) x.steps) xs → All (IsUsable F t) xs
usable_by s F t done xs first full hold agree within known =
    zip_all (λ (x : Alternative). All (λ (step : NumberedStep). IsWeighed F (weights_of t) step.symbol) x.steps) Built (IsUsable F t) (λ x a b. record { agree = a; built = b }) xs agree
    (zip_all (λ (x : Alternative). All (λ (step : NumberedStep). Known s done step.symbol) x.steps) (λ (x : Alternative). 1 ≤ weigh (count_in F) x.steps → All (Light (count_in F) (length_in F) 65535 255) x.steps) Built
    (λ x k l some. zip_all (λ (step : NumberedStep). Known s done step.symbol) (Light (count_in F) (length_in F) 65535 255) (λ (step : NumberedStep). F step.symbol ≡ look t step.symbol)
    (λ step a b. look_at s F t done step.symbol first full hold a b) x.steps k (l some))
    xs known
    (light_all (count_in F) (length_in F) 65535 255 xs (let a = within.0 in let b = all_count F xs in omega (arith, a, b)) (let a = within.1 in let b = all_length F xs in omega (arith, a, b))))
  where
    Built : Alternative → Type 0
    Built x = 1 ≤ weigh (count_in F) x.steps → All (λ (step : NumberedStep). F step.symbol ≡ look t step.symbol) x.steps

known_before : (s : Sources) (place k : ℕ) (tree : Tree) → AreOrderedSources s → slice_get s.order.now place ≡ Some k → slice_get s.inlined.now k ≡ Some tree
    → All (λ (x : Alternative). All (λ (step : NumberedStep). Known s (take place s.order.now) step.symbol) x.steps) (whole tree)
known_before s place k tree ordered here is =
    All-weaker (Contains (whole tree)) (λ (x : Alternative). All (λ (step : NumberedStep). Known s (take place s.order.now) step.symbol) x.steps)
    (λ x has. All-weaker (Contains x.steps) (λ (step : NumberedStep). Known s (take place s.order.now) step.symbol)
    (λ t steps j e lt. ordered.before place k j here (record { tree = tree; is = is; alternative = x; has = has; step = t; steps = steps; symbol = e; there = lt }))
    x.steps (All-contains_itself x.steps))
    (whole tree) (All-contains_itself (whole tree))

-- where all is built
pub usable_all : (s : Sources) (F : Table) (t : Inlined) (xs : Alternatives) → t.first ≡ s.first_inlined → IsFull (inlined_at s) F → AreOrderedSources s → SizesHold s s.order.now t.sizes.now → FullHold s s.order.now t.full.now
    → AreWithin (spread_all F xs) → All (IsUsable F t) xs
usable_all s F t xs first full ordered sizes hold within =
    usable_by s F t s.order.now xs first full hold (agree_all s F (weights_of t) xs first full ordered sizes) within
    (everywhere (λ (x : Alternative). All (λ (step : NumberedStep). Known s s.order.now step.symbol) x.steps)
    (λ x. everywhere (λ (step : NumberedStep). Known s s.order.now step.symbol) (λ step j e lt. ordered.every j lt) x.steps) xs)

full_more : (s : Sources) (t : Inlined) (place k d : ℕ) (tree : Tree) (size : Size) (new : Expansions) → AreOrderedSources s → t.first ≡ s.first_inlined → SizesHold s s.order.now t.sizes.now
    → FullHold s (take place s.order.now) t.full.now → place < length s.order.now → k ≡ get_or s.order.now place d → slice_get s.inlined.now k ≡ Some tree → slice_get t.sizes.now k ≡ Some size
    → ((F : Table) → IsSizeOf (spread_all F (whole tree)) size → AreWithin (spread_all F (whole tree)) → All (IsUsable F t) (whole tree) → new ≡ spread_all F (whole tree))
    → FullHold s (take (place + 1) s.order.now) (set t.full.now k new)
full_more s t place k d tree size new ordered first sizes hold lt at is sized made = record {
  one_each = length-set t.full.now k new ∙ hold.one_each;
  tell = λ F j found full has here within. ⊎_elim
      (λ e. ap (slice_get (set t.full.now k new)) e ∙ set_here t.full.now k new (let a = slice_get_within s.inlined.now k tree is in let b = hold.one_each in omega (arith, a, b)) ∙ ap (λ (xs : Expansions). Some xs) (same F found j full e here within))
      (λ other. set_there t.full.now k j new other ∙ hold.tell F j found full (known j other has) here within)
      (cases_eq j k);
}
  where
    longer : take (place + 1) s.order.now ≡ take place s.order.now ++ k ∷ []
    longer = take_more s.order.now place d lt ∙ ap (λ (n : ℕ). take place s.order.now ++ n ∷ []) (sym at)

    known : (j : ℕ) → (j ≡ k → ⊥) → Contains (take (place + 1) s.order.now) j → Contains (take place s.order.now) j
    known j other has = ⊎_elim (λ v. v) (λ v. absurd (other (only_one k j v))) (Contains-append_cases (take place s.order.now) (k ∷ []) j (subst (λ (xs : List ℕ). Contains xs j) longer has))

    ordered_here : slice_get s.order.now place ≡ Some k
    ordered_here = slice_get-get_or s.order.now place d lt ∙ ap (λ (n : ℕ). Some n) (sym at)

    same : (F : Table) (found : Expansions) (j : ℕ) → IsFull (inlined_at s) F → j ≡ k → F (s.first_inlined + j) ≡ Some found → AreWithin found → new ≡ found
    same F found j full e here within =
        let f : F (s.first_inlined + k) ≡ Some (spread_all F (whole tree)) =
        full (s.first_inlined + k) ∙ ap (option_map (spread_all F)) (entry_there s.first_inlined (map whole s.inlined.now) (s.first_inlined + k) k (whole tree) refl (slice_get-map whole s.inlined.now k ∙ ap (option_map whole) is)) in
        let g : Some found ≡ Some (spread_all F (whole tree)) = sym here ∙ ap (λ (n : ℕ). F (s.first_inlined + n)) e ∙ f in
        let equal : found ≡ spread_all F (whole tree) = cc in
        let inside : AreWithin (spread_all F (whole tree)) = subst AreWithin equal within in
        let told = sizes.tell F k (spread_all F (whole tree)) full (ordered.every k (slice_get_within s.inlined.now k tree is)) f in
        let one : Some told.0 ≡ Some size = sym told.1 ∙ sized in
        let size_same : told.0 ≡ size = cc in
        made F (subst (λ (z : Size). IsSizeOf (spread_all F (whole tree)) z) size_same told.2) inside
        (usable_by s F t (take place s.order.now) (whole tree) first full hold
        (agree_all s F (weights_of t) (whole tree) first full ordered sizes) inside (known_before s place k tree ordered ordered_here is))
        ∙ sym equal

pub full_next : (s : Sources) (t : Inlined) (place d : ℕ) (new : Expansions) → AreOrderedSources s → t.first ≡ s.first_inlined → SizesHold s s.order.now t.sizes.now
    → FullHold s (take place s.order.now) t.full.now → place < length s.order.now
    → ((F : Table) (tree : Tree) (size : Size) → slice_get s.inlined.now (get_or s.order.now place d) ≡ Some tree → slice_get t.sizes.now (get_or s.order.now place d) ≡ Some size
    → IsSizeOf (spread_all F (whole tree)) size → AreWithin (spread_all F (whole tree)) → All (IsUsable F t) (whole tree) → new ≡ spread_all F (whole tree))
    → FullHold s (take (place + 1) s.order.now) (set t.full.now (get_or s.order.now place d) new)
full_next s t place d new ordered first sizes hold lt made = elim (slice_get_cases s.inlined.now (get_or s.order.now place d)).1 [
  | inl u ↦ elim (slice_get_cases t.sizes.now (get_or s.order.now place d)).1 [
    | inl v ↦ full_more s t place (get_or s.order.now place d) d u.0 v.0 new ordered first sizes hold lt refl u.2 v.2 (λ F. made F u.0 v.0 u.2 v.2)
    | inr v ↦ absurd (let a = v.0 in let b = u.1 in let e = sizes.one_each in omega (arith, a, b, e))
  ]
  | inr u ↦ absurd (let a = u.0 in let b = ordered.within (get_or s.order.now place d) (Contains-get_or s.order.now place d lt) in omega (arith, a, b))
]
