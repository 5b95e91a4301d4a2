-- Ranges in canonical form that have characters alone are a set in form.
use Rattle.std.proofs.Common.{◌≡◌, sym, subst, refl, ℕ, ◌+◌, ◌<◌, ◌≤◌, ◌⊎◌, inl, inr, ⊎_elim, Bool, true, false, nat_le, nat_lt, ◌&&◌, ◌||◌, List, [], ◌∷◌, length, arith}
use Rattle.std.specs.List.{Contains}
use Rattle.std.proofs.lemmas.Bool.{cases_lt}
use Rattle.regex_class.specs.Ranges.{in_range, in_ranges, fits_from, rises_from, IsCanonical}
use Rattle.spec_tables.specs.Fit.{IsCharacter, IsRange, AreApartRanges, IsSet}
use Rattle.ts_pattern.specs.Characters.{is_scalar}
use Rattle.ts_normalise.proofs.ListLemmas.{none_in, member_cases}
use Rattle.ts_normalise.proofs.FitStepLemmas.{all_of}

pub le_true : (a b : ℕ) → nat_le a b ≡ true → a ≤ b
le_true a b e = grind arith

pub true_le : (a b : ℕ) → a ≤ b → nat_le a b ≡ true
true_le a b e = grind arith

pub lt_true : (a b : ℕ) → nat_lt a b ≡ true → a < b
lt_true a b e = grind arith

pub and_true : (a b : Bool) → (a && b) ≡ true → (a ≡ true) × (b ≡ true)
and_true true b e = (refl, e)
and_true false b e = absurd cc

true_and : (a b : Bool) → a ≡ true → b ≡ true → (a && b) ≡ true
true_and true b e h = h
true_and false b e h = absurd cc

or_cases : (a b : Bool) → (a || b) ≡ true → (a ≡ true) ⊎ (b ≡ true)
or_cases true b e = inl refl
or_cases false b e = inr e

or_first : (a b : Bool) → a ≡ true → (a || b) ≡ true
or_first true b e = refl
or_first false b e = absurd cc

or_second : (a b : Bool) → b ≡ true → (a || b) ≡ true
or_second true b e = refl
or_second false b e = e

pub character : (c : ℕ) → is_scalar c ≡ true → IsCharacter c
character c e = ⊎_elim
    (λ h. inl (lt_true c 55296 h))
    (λ h.
    let w = and_true (nat_le 57344 c) (nat_le c 1114111) h in
    let low = le_true 57344 c w.0 in
    let high = le_true c 1114111 w.1 in
    inr (low, omega (arith, high)))
    (or_cases (nat_lt c 55296) (nat_le 57344 c && nat_le c 1114111) e)

surrogate : is_scalar 55296 ≡ true → ⊥
surrogate e = let h : false ≡ true = e in cc

-- ---- canonical ranges

record Rises (n : ℕ) (r : ℕ × ℕ) (rs : List (ℕ × ℕ)) : Type 0 where
  from : n ≤ r.0
  order : r.0 ≤ r.1
  top : r.1 ≤ 1114111
  rest : rises_from (r.1 + 2) rs ≡ true

rises : (n : ℕ) (r : ℕ × ℕ) (rs : List (ℕ × ℕ)) → rises_from n (r ∷ rs) ≡ true → Rises n r rs
unfolding rises_from
rises n r rs e =
    let w = and_true (fits_from n r) (rises_from (r.1 + 2) rs) e in
    let fits = and_true (nat_le n r.0) (nat_le r.0 r.1 && nat_le r.1 1114111) w.0 in
    let ends = and_true (nat_le r.0 r.1) (nat_le r.1 1114111) fits.1 in
    record { from = le_true n r.0 fits.0; order = le_true r.0 r.1 ends.0; top = le_true r.1 1114111 ends.1; rest = w.1 }

-- each range takes a number at least
count : (n : ℕ) (rs : List (ℕ × ℕ)) → n ≤ 1114113 → rises_from n rs ≡ true → n + length rs ≤ 1114113
count n [] le e = omega arith
count n (r ∷ rs) le e =
    let h = rises n r rs e in
    let from = h.from in
    let order = h.order in
    let top = h.top in
    let more = count (r.1 + 2) rs (omega (arith, top)) h.rest in
    omega (arith, from, order, more)

apart : (n : ℕ) (rs : List (ℕ × ℕ)) → rises_from n rs ≡ true → AreApartRanges rs
apart n [] e = tt
apart n (a ∷ []) e = tt
apart n (a ∷ b ∷ rs) e =
    let h = rises n a (b ∷ rs) e in
    let k = rises (a.1 + 2) b rs h.rest in
    let from = k.from in
    (omega (arith, from), apart (a.1 + 2) (b ∷ rs) h.rest)

-- the numbers of a range are in the ranges
member : (rs : List (ℕ × ℕ)) (r : ℕ × ℕ) (c : ℕ) → Contains rs r → r.0 ≤ c → c ≤ r.1 → in_ranges rs c ≡ true
unfolding in_ranges in_range
member [] r c w low high = absurd (none_in r w)
member (s ∷ rs) r c w low high = ⊎_elim
    (λ e. or_first (nat_le s.0 c && nat_le c s.1) (in_ranges rs c)
    (true_and (nat_le s.0 c) (nat_le c s.1)
    (true_le s.0 c (subst (λ (z : ℕ × ℕ). z.0 ≤ c) e low)) (true_le c s.1 (subst (λ (z : ℕ × ℕ). c ≤ z.1) e high))))
    (λ later. or_second (nat_le s.0 c && nat_le c s.1) (in_ranges rs c) (member rs r c later low high))
    (member_cases s r rs w)

ordered : (n : ℕ) (rs : List (ℕ × ℕ)) (r : ℕ × ℕ) → rises_from n rs ≡ true → Contains rs r → r.0 ≤ r.1
ordered n [] r e w = absurd (none_in r w)
ordered n (s ∷ rs) r e w =
    let h = rises n s rs e in
    ⊎_elim
    (λ is. subst (λ (z : ℕ × ℕ). z.0 ≤ z.1) (sym is) h.order)
    (λ later. ordered (s.1 + 2) rs r h.rest later)
    (member_cases s r rs w)

module _ (rs : List (ℕ × ℕ)) (canonical : IsCanonical rs) (scalars : (c : ℕ) → in_ranges rs c ≡ true → is_scalar c ≡ true) where
  range_fit : (r : ℕ × ℕ) → Contains rs r → IsRange r
  range_fit r w =
      let order = ordered 0 rs r canonical w in
      let low : IsCharacter r.0 = character r.0 (scalars r.0 (member rs r r.0 w (omega arith) order)) in
      let high : IsCharacter r.1 = character r.1 (scalars r.1 (member rs r r.1 w order (omega arith))) in (
        order,
        low,
        high,
        ⊎_elim
            (λ below. inl below)
            (λ past. ⊎_elim
            (λ under. absurd (surrogate (scalars 55296 (member rs r 55296 w (low_side low under) past))))
            (λ above. inr above)
            (cases_lt r.0 57344))
            (cases_lt r.1 55296),
      )
    where
      low_side : IsCharacter r.0 → r.0 < 57344 → r.0 ≤ 55296
      low_side (inl h) under = omega arith
      low_side (inr h) under = let ge = h.0 in omega (arith, ge, under)

  pub set_fit : IsSet rs
  set_fit =
      let few = count 0 rs (omega arith) canonical in
      (omega (arith, few), all_of IsRange rs range_fit, apart 0 rs canonical)

-- one character is a set
pub one_fit : (c : ℕ) → IsCharacter c → IsSet ((c, c) ∷ [])
one_fit c h = (
  omega arith,
  all_of IsRange ((c, c) ∷ []) (λ r w. ⊎_elim
      (λ e. subst IsRange (sym e) (omega arith, h, h, side h))
      (λ none. absurd (none_in r none))
      (member_cases (c, c) r [] w)),
  tt,
)
  where
    side : IsCharacter c → (c < 55296) ⊎ (57344 ≤ c)
    side (inl k) = inl k
    side (inr k) = inr k.0
