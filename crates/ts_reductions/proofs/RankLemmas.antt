-- The ranks of symbols, counted up.
use Rattle.std.proofs.Common.{◌≡◌, ◌∙◌, sym, ap, refl, subst, ℕ, zero, suc, ◌+◌, ◌<◌, ◌≤◌, ◌-◌, ◌^◌, Option, List, [], ◌∷◌, length, take, slice_get, Some, None, arith, max, Bool, true, false, nat_eq}
use Rattle.std.specs.Prelude.{if◌then◌else◌, unwrap_or}
use Rattle.std.specs.Bool.{Decides}
use lib.Pointwise.{pointwise}
use Rattle.std.proofs.lemmas.Bool.Decides.{nat_tests}
use Rattle.std.proofs.lemmas.Slice.Eq.{slice_eq-Decides}
use Rattle.std.proofs.lemmas.List.{take_all}
use Rattle.std.proofs.lemmas.Option.{slice_get_within}
use Rattle.ts_core.specs.declared.flat.FlatGrammar.{FlatGrammar}
use Rattle.ts_core.specs.declared.flat.Production.{Production}
use Rattle.spec_grammar.specs.Symbols.{all_productions, production_at, symbol_count}
use Rattle.ts_table.specs.Ranks.{is_alone, greatest, unit_height}
use Rattle.ts_reductions.specs.Ranking.{AreLedUp, AreRanksOf, AreRanksUpTo, Raises, rank_in, led_up}
use Rattle.ts_reductions.proofs.LineLemmas.{left_low}

-- ---- the greatest of a list

none_at : {X P : Type 0} (k : ℕ) (x : X) → slice_get [] k ≡ Some x → P
none_at k x e = let f : ⊥ = omega (arith, slice_get_within [] k x e) in elim f [ ]

same_greatest : {X : Type 0} (f h : X → ℕ) (xs : List X) → ((k : ℕ) (x : X) → slice_get xs k ≡ Some x → f x ≡ h x) → greatest f xs ≡ greatest h xs
same_greatest f h [] same = refl
same_greatest f h (x ∷ xs) same =
    let p = same 0 x refl in
    let q = same_greatest f h xs (λ k y e. same (suc k) y e) in
    let r : greatest f (x ∷ xs) ≡ max (f x) (greatest f xs) = refl in
    let t : greatest h (x ∷ xs) ≡ max (h x) (greatest h xs) = refl in
    omega (arith, p, q, r, t)

greatest_most : {X : Type 0} (f : X → ℕ) (xs : List X) (n : ℕ) → ((x : X) → f x ≤ n) → greatest f xs ≤ n
greatest_most f [] n h = omega arith
greatest_most f (x ∷ xs) n h =
    let p = h x in
    let q = greatest_most f xs n h in
    let r : greatest f (x ∷ xs) ≡ max (f x) (greatest f xs) = refl in
    omega (arith, p, q, r)

greatest_next : {X : Type 0} (f : X → ℕ) (xs : List X) (k : ℕ) (x : X) → slice_get xs k ≡ Some x → greatest f (take (suc k) xs) ≡ max (greatest f (take k xs)) (f x)
greatest_next f [] k x e = none_at k x e
greatest_next f (y ∷ xs) zero x e =
    let h : Some y ≡ Some x = e in
    let s : y ≡ x = cc in
    let v : f y ≡ f x = ap f s in
    let r : greatest f (y ∷ []) ≡ max (f y) 0 = refl in
    omega (arith, r, v)
greatest_next f (y ∷ xs) (suc k) x e =
    let r : greatest f (y ∷ take (suc k) xs) ≡ max (f y) (greatest f (take (suc k) xs)) = refl in
    let t : greatest f (y ∷ take k xs) ≡ max (f y) (greatest f (take k xs)) = refl in
    let n = greatest_next f xs k x e in
    omega (arith, r, t, n)

-- ---- one production

pub led_up_next : (g : FlatGrammar) (ranks old new : List ℕ) (number left : ℕ) (p : Production) (rank : ℕ)
    → production_at g number ≡ Some (left, p) → rank ≡ suc (rank_in ranks left)
    → AreLedUp g (rank_in ranks) number old → Raises p.steps rank old new → AreLedUp g (rank_in ranks) (suc number) new
led_up_next g ranks old new number left p rank at is led raises = record {
  many = raises.many ∙ led.many;
  each = λ symbol found there.
      let lt = slice_get_within new symbol found there in
      let before = read old symbol (omega (arith, lt, raises.many)) in
      let now : Some found ≡ Some (max before.0 (if is_alone symbol p.steps then rank else 0)) = sym there ∙ raises.each symbol before.0 before.1 in
      let same : found ≡ max before.0 (if is_alone symbol p.steps then rank else 0) = cc in
      let r : rank ≡ suc (rank_in ranks left) = is in
      same
      ∙ ap (λ (n : ℕ). max before.0 (if is_alone symbol p.steps then n else 0)) r
      ∙ ap (λ (n : ℕ). max n (led_up (rank_in ranks) symbol (left, p))) (led.each symbol before.0 before.1)
      ∙ sym (greatest_next (led_up (rank_in ranks) symbol) (all_productions g) number (left, p) at);
}
  where
    read : (xs : List ℕ) (k : ℕ) → k < length xs → (x : ℕ) × (slice_get xs k ≡ Some x)
    read [] k low = absurd (omega (arith, low))
    read (x ∷ xs) zero low = (x, refl)
    read (x ∷ xs) (suc k) low = read xs k (omega (arith, low))

-- ---- all productions, one after another

pub height_most : (g : FlatGrammar) (bound symbol : ℕ) → unit_height (all_productions g) bound symbol ≤ bound
height_most g zero symbol = omega arith
height_most g (suc bound) symbol =
    greatest_most (λ (p : ℕ × Production). if is_alone symbol p.1.steps then suc (unit_height (all_productions g) bound p.0) else 0) (all_productions g) (suc bound)
    (λ p. by (is_alone symbol p.1.steps) (unit_height (all_productions g) bound p.0) (height_most g bound p.0))
  where
    by : (b : Bool) (n : ℕ) → n ≤ bound → (if b then suc n else 0) ≤ suc bound
    by true n h = omega (arith, h)
    by false n h = omega arith

rank_there : (xs : List ℕ) (k x : ℕ) → slice_get xs k ≡ Some x → rank_in xs k ≡ x
rank_there xs k x e = ap (λ (o : Option ℕ). unwrap_or o 0) e

read_rank : (xs : List ℕ) (k : ℕ) → k < length xs → slice_get xs k ≡ Some (rank_in xs k)
read_rank [] k low = absurd (omega (arith, low))
read_rank (x ∷ xs) zero low = refl
read_rank (x ∷ xs) (suc k) low = read_rank xs k (omega (arith, low))

module _ (g : FlatGrammar) (bound : ℕ) (ranks : List ℕ) (up : AreRanksUpTo g bound ranks) where
  rank_is : (symbol : ℕ) → symbol < symbol_count g → rank_in ranks symbol ≡ unit_height (all_productions g) bound symbol
  rank_is symbol low = up.each symbol (rank_in ranks symbol) (read_rank ranks symbol (omega (arith, low, up.many)))

  pub small_ranks : bound < 2 ^ 16 → (symbol : ℕ) → rank_in ranks symbol < 2 ^ 16
  small_ranks few symbol = by (slice_get ranks symbol) refl
    where
      by : (o : Option ℕ) → slice_get ranks symbol ≡ o → rank_in ranks symbol < 2 ^ 16
      by None e = let z : rank_in ranks symbol ≡ 0 = ap (λ (o : Option ℕ). unwrap_or o 0) e in omega (arith, z)
      by (Some r) e = let z = rank_there ranks symbol r e in let h = height_most g bound symbol in let q = up.each symbol r e in omega (arith, z, h, q, few)

  pub up_one_more : (next : List ℕ) → AreLedUp g (rank_in ranks) (length (all_productions g)) next → AreRanksUpTo g (suc bound) next
  up_one_more next led = record {
    many = led.many;
    each = λ symbol found there.
        led.each symbol found there
        ∙ ap (greatest (led_up (rank_in ranks) symbol)) (take_all (length (all_productions g)) (all_productions g) (omega arith))
        ∙ same_greatest (led_up (rank_in ranks) symbol) (led_up (unit_height (all_productions g) bound) symbol) (all_productions g)
        (λ k p at. ap (λ (n : ℕ). if is_alone symbol p.1.steps then suc n else 0) (rank_is p.0 (left_low g k p.0 p.1 at)));
  }

-- where ranks stay once they stay for good
module _ (g : FlatGrammar) (bound : ℕ) (same : (symbol : ℕ) → symbol < symbol_count g → unit_height (all_productions g) (suc bound) symbol ≡ unit_height (all_productions g) bound symbol) where
  abbrev above : ℕ → ℕ
  above zero = bound
  above (suc more) = suc (above more)

  above_is : (more : ℕ) → above more ≡ more + bound
  above_is zero = omega arith
  above_is (suc more) = let h = above_is more in let e : above (suc more) ≡ suc (above more) = refl in omega (arith, h, e)

  stays : (more symbol : ℕ) → symbol < symbol_count g → unit_height (all_productions g) (suc (above more)) symbol ≡ unit_height (all_productions g) (above more) symbol
  stays zero symbol low = same symbol low
  stays (suc more) symbol low =
      same_greatest (led_up (unit_height (all_productions g) (suc (above more))) symbol) (led_up (unit_height (all_productions g) (above more)) symbol) (all_productions g)
      (λ k p at. ap (λ (n : ℕ). if is_alone symbol p.1.steps then suc n else 0) (stays more p.0 (left_low g k p.0 p.1 at)))

  stay : (more symbol : ℕ) → symbol < symbol_count g → unit_height (all_productions g) (above more) symbol ≡ unit_height (all_productions g) bound symbol
  stay zero symbol low = refl
  stay (suc more) symbol low = stays more symbol low ∙ stay more symbol low

  stay_to : (most symbol : ℕ) → bound ≤ most → symbol < symbol_count g → unit_height (all_productions g) most symbol ≡ unit_height (all_productions g) bound symbol
  stay_to most symbol le low =
      let e : most ≡ above (most - bound) = let a = above_is (most - bound) in omega (arith, a, le) in
      ap (λ (n : ℕ). unit_height (all_productions g) n symbol) e ∙ stay (most - bound) symbol low

pub ranks_stay : (g : FlatGrammar) (bound : ℕ) (ranks : List ℕ) → AreRanksUpTo g bound ranks → AreRanksUpTo g (suc bound) ranks → bound ≤ symbol_count g → AreRanksOf g ranks
ranks_stay g bound ranks here there most = record {
  many = here.many;
  each = λ symbol rank at.
      let low : symbol < symbol_count g = let lt = slice_get_within ranks symbol rank at in omega (arith, lt, here.many) in
      here.each symbol rank at ∙ sym (stay_to g bound (λ s lt. same s lt) (symbol_count g) symbol most low);
}
  where
    same : (s : ℕ) → s < symbol_count g → unit_height (all_productions g) (suc bound) s ≡ unit_height (all_productions g) bound s
    same s lt =
        let r = read_rank ranks s (omega (arith, lt, here.many)) in
        sym (there.each s (rank_in ranks s) r) ∙ here.each s (rank_in ranks s) r

pub ranks_reached : (g : FlatGrammar) (ranks : List ℕ) → AreRanksUpTo g (symbol_count g) ranks → AreRanksOf g ranks
ranks_reached g ranks up = record { many = up.many; each = up.each }

-- ---- lists that are found to be equal

same_nat : (x y : ℕ) → nat_eq x y ≡ true → x ≡ y
same_nat x y h = grind (arith, nat_tests)

itself : (x : ℕ) → nat_eq x x ≡ true
itself x = grind (arith, nat_tests)

nat_decides : (x y : ℕ) → Decides (nat_eq x y) (x ≡ y)
nat_decides x y = (same_nat x y, (λ e. subst (λ (z : ℕ). nat_eq x z ≡ true) e (itself x)))

pub same_lists : (xs ys : List ℕ) → true ≡ pointwise nat_eq xs ys → xs ≡ ys
same_lists xs ys h = (slice_eq-Decides nat_decides xs ys (pointwise nat_eq xs ys) refl).0 (sym h)
