-- Where no symbol derives itself alone, following productions of one step up comes to an end.
use Rattle.std.proofs.Common.{◌≡◌, ◌∙◌, sym, ap, refl, subst, ℕ, zero, suc, ◌+◌, ◌<◌, ◌≤◌, ⊎_elim, List, [], ◌∷◌, length, slice_get, Some, None, arith, max, Bool, true, false, nat_eq, eqb, if◌then◌else◌, ◌||◌}
use Rattle.std.specs.List.{IsDistinct, AllByRecursion, list_any}
use Rattle.std.proofs.lemmas.Bool.Decides.{nat_tests}
use Rattle.std.proofs.lemmas.Map.Steps.{length-le_from_distinct_below}
use Rattle.std.proofs.lemmas.Option.{slice_get_within}
use Rattle.ts_core.specs.declared.flat.FlatGrammar.{FlatGrammar}
use Rattle.ts_core.specs.declared.flat.Production.{Production}
use Rattle.ts_core.specs.declared.flat.Step.{Step}
use Rattle.ts_core.specs.declared.symbol.Symbol.{Symbol}
use Rattle.spec_grammar.specs.Symbols.{all_productions, production_at, symbol_count, start_symbol}
use Rattle.spec_tables.specs.Fit.{Fit, IsFitProduction, IsFitStep, Alone, Derives, at_once, through, rule_symbol}
use Rattle.ts_table.specs.Ranks.{is_alone, greatest, unit_height, unit_rank, AreUnitRanks}
use Rattle.ts_table.proofs.ListLemmas.{three, in_of}
use Rattle.ts_table.proofs.ItemLemmas.{all_at, from_at}

-- ---- the greatest of a list

at_most_greatest : {X : Type 0} (f : X → ℕ) (xs : List X) (k : ℕ) (x : X) → slice_get xs k ≡ Some x → f x ≤ greatest f xs
at_most_greatest f [] k x h = absurd (let e : None ≡ Some x = h in cc)
at_most_greatest f (y ∷ ys) zero x h = let e : Some y ≡ Some x = h in let s : y ≡ x = cc in let p = ap f s in let q : greatest f (y ∷ ys) ≡ max (f y) (greatest f ys) = refl in omega (arith, p, q)
at_most_greatest f (y ∷ ys) (suc k) x h = let p = at_most_greatest f ys k x h in let q : greatest f (y ∷ ys) ≡ max (f y) (greatest f ys) = refl in omega (arith, p, q)

greatest_below : {X : Type 0} (f : X → ℕ) (xs : List X) (n : ℕ) → ((k : ℕ) (x : X) → slice_get xs k ≡ Some x → f x ≤ n) → greatest f xs ≤ n
greatest_below f [] n h = omega arith
greatest_below f (x ∷ xs) n h = let p = h 0 x refl in let q = greatest_below f xs n (λ k y e. h (suc k) y e) in let r : greatest f (x ∷ xs) ≡ max (f x) (greatest f xs) = refl in omega (arith, p, q, r)

same_greatest : {X : Type 0} (f h : X → ℕ) (xs : List X) → ((k : ℕ) (x : X) → slice_get xs k ≡ Some x → f x ≡ h x) → greatest f xs ≡ greatest h xs
same_greatest f h [] same = refl
same_greatest f h (x ∷ xs) same = let p = same 0 x refl in let q = same_greatest f h xs (λ k y e. same (suc k) y e) in let r : greatest f (x ∷ xs) ≡ max (f x) (greatest f xs) = refl in let t : greatest h (x ∷ xs) ≡ max (h x) (greatest h xs) = refl in omega (arith, p, q, r, t)

is_greatest : {X : Type 0} (f : X → ℕ) (xs : List X) (n : ℕ) → greatest f xs ≡ suc n → (k : ℕ) × (x : X) × (slice_get xs k ≡ Some x) × (f x ≡ suc n)
is_greatest f [] n e = absurd (omega (arith, e))
is_greatest f (x ∷ xs) n e =
    let r : max (f x) (greatest f xs) ≡ suc n = e in
    ⊎_elim
    (λ lt. let w = is_greatest f xs n (omega (arith, r, lt)) in (suc w.0, w.1, w.2, w.3))
    (λ o. ⊎_elim (λ s. (0, x, refl, omega (arith, r, s))) (λ gt. (0, x, refl, omega (arith, r, gt))) o)
    (three (f x) (greatest f xs))

-- ---- heights

abbrev up : List (ℕ × Production) → ℕ → ℕ → ℕ × Production → ℕ
up ps bound symbol p = if is_alone symbol p.1.steps then suc (unit_height ps bound p.0) else 0

cond_most : (b : Bool) (n m : ℕ) → n ≤ m → (if b then n else 0) ≤ m
cond_most true n m h = h
cond_most false n m h = omega arith

height_most : (ps : List (ℕ × Production)) (n y : ℕ) → unit_height ps n y ≤ n
height_most ps zero y = omega arith
height_most ps (suc n) y = greatest_below (up ps n y) ps (suc n) (λ k p at. cond_most (is_alone y p.1.steps) (suc (unit_height ps n p.0)) (suc n) (let h = height_most ps n p.0 in omega (arith, h)))

-- a unit_height below its bound stays
height_stays : (ps : List (ℕ × Production)) (n y : ℕ) → unit_height ps n y < n → unit_height ps (suc n) y ≡ unit_height ps n y
height_stays ps zero y lt = absurd (omega (arith, lt))
height_stays ps (suc n) y lt = same_greatest (up ps (suc n) y) (up ps n y) ps (λ k p at. by (λ z below. height_stays ps n z below) p (is_alone y p.1.steps) refl (at_most_greatest (up ps n y) ps k p at))
  where
    by : ((z : ℕ) → unit_height ps n z < n → unit_height ps (suc n) z ≡ unit_height ps n z) → (p : ℕ × Production) (b : Bool) → is_alone y p.1.steps ≡ b → (if is_alone y p.1.steps then suc (unit_height ps n p.0) else 0) ≤ greatest (up ps n y) ps
        → (if is_alone y p.1.steps then suc (unit_height ps (suc n) p.0) else 0) ≡ (if is_alone y p.1.steps then suc (unit_height ps n p.0) else 0)
    by stays p true e le =
        let low : suc (unit_height ps n p.0) ≤ greatest (up ps n y) ps = subst (λ (b : Bool). (if b then suc (unit_height ps n p.0) else 0) ≤ greatest (up ps n y) ps) e le in
        let same = stays p.0 (omega (arith, low, lt)) in
        ap (λ (h : ℕ). if is_alone y p.1.steps then suc h else 0) same
    by stays p false e le = ap (λ (b : Bool). if b then suc (unit_height ps (suc n) p.0) else 0) e ∙ sym (ap (λ (b : Bool). if b then suc (unit_height ps n p.0) else 0) e)

-- ---- chains

itself : (x : ℕ) → nat_eq x x ≡ true
itself x = grind (arith, nat_tests)

same_nat : (x y : ℕ) → nat_eq x y ≡ true → x ≡ y
same_nat x y h = grind (arith, nat_tests)

alone_step : (y : ℕ) (steps : List Step) → is_alone y steps ≡ true → (s : Step) × (steps ≡ s ∷ []) × (s.symbol.0 ≡ y)
alone_step y [] h = absurd (let e : false ≡ true = h in cc)
alone_step y (s ∷ []) h = (s, refl, same_nat s.symbol.0 y h)
alone_step y (s ∷ t ∷ ss) h = absurd (let e : false ≡ true = h in cc)

-- a production of the left side is the symbol alone
record IsUnit (g : FlatGrammar) (left y : ℕ) : Type 0 where
  number : ℕ
  production : Production
  at : production_at g number ≡ Some (left, production)
  step : Step
  alone : production.steps ≡ step ∷ []
  is : step.symbol.0 ≡ y

data Up (g : FlatGrammar) : ℕ → List ℕ → Type 0 where
  up_none : (y : ℕ) → Up g y []
  up_one : (y left : ℕ) (zs : List ℕ) → IsUnit g left y → Up g left zs → Up g y (left ∷ zs)

chain : (g : FlatGrammar) (n y : ℕ) → unit_height (all_productions g) n y ≡ n → (zs : List ℕ) × Up g y zs × (length zs ≡ n)
chain g zero y e = ([], up_none y, refl)
chain g (suc n) y e =
    let w = is_greatest (up (all_productions g) n y) (all_productions g) n e in
    let p = w.1 in
    by (λ z full. chain g n z full) p w.0 w.2 (is_alone y p.1.steps) refl w.3
  where
    by : ((z : ℕ) → unit_height (all_productions g) n z ≡ n → (zs : List ℕ) × Up g z zs × (length zs ≡ n)) → (p : ℕ × Production) (k : ℕ) → slice_get (all_productions g) k ≡ Some p → (b : Bool) → is_alone y p.1.steps ≡ b → (if is_alone y p.1.steps then suc (unit_height (all_productions g) n p.0) else 0) ≡ suc n
        → (zs : List ℕ) × Up g y zs × (length zs ≡ suc n)
    by on p k at true t h =
        let full : suc (unit_height (all_productions g) n p.0) ≡ suc n = subst (λ (b : Bool). (if b then suc (unit_height (all_productions g) n p.0) else 0) ≡ suc n) t h in
        let c = on p.0 (omega (arith, full)) in
        let s = alone_step y p.1.steps t in
        (p.0 ∷ c.0, up_one y p.0 c.0 (record { number = k; production = p.1; at = at; step = s.0; alone = s.1; is = s.2 }) c.1, ap suc c.2)
    by on p k at false t h = absurd (let z : 0 ≡ suc n = subst (λ (b : Bool). (if b then suc (unit_height (all_productions g) n p.0) else 0) ≡ suc n) t h in omega (arith, z))

abbrev symbol : ℕ → Symbol
symbol y = record { 0 = y }

module _ (g : FlatGrammar) (fit : Fit g) where
  unit_alone : (left y : ℕ) → IsUnit g left y → Alone g (symbol left) (symbol y)
  unit_alone left y u =
      let f = from_at (start_symbol g) g.rules u.number left u.production u.at in
      let left_is : left ≡ suc (length g.tokens + f.number) = let e = f.left in omega (arith, e) in
      record {
        rule = f.rule;
        has_rule = (f.number, f.at, ap symbol left_is);
        production = u.production;
        has_production = in_of f.rule.productions f.place u.production f.there;
        step = u.step;
        is_alone = u.alone;
        leads = ap symbol u.is;
      }

  left_within : (left y : ℕ) → IsUnit g left y → left < symbol_count g
  left_within left y u = let f = from_at (start_symbol g) g.rules u.number left u.production u.at in let lt = slice_get_within g.rules f.number f.rule f.at in let e = f.left in omega (arith, lt, e)

  right_within : (left y : ℕ) → IsUnit g left y → y < symbol_count g
  right_within left y u =
      let f = from_at (start_symbol g) g.rules u.number left u.production u.at in
      let good : IsFitProduction g u.production = all_at (IsFitProduction g) f.rule.productions f.place u.production (fit.rules f.number f.rule f.at).productions f.there in
      let s : IsFitStep g u.step = all_at (IsFitStep g) u.production.steps 0 u.step good.steps (ap (λ (l : List Step). slice_get l 0) u.alone) in
      let lt = s.symbol in
      let e = u.is in
      omega (arith, lt, e)

  no_circle : (left y : ℕ) → IsUnit g left y → Derives g (symbol left) (symbol left) → ⊥
  no_circle left y u d =
      let f = from_at (start_symbol g) g.rules u.number left u.production u.at in
      let e : symbol left ≡ rule_symbol g f.number = ap symbol (let e = f.left in let z : left ≡ suc (length g.tokens + f.number) = omega (arith, e) in z) in
      (fit.rules f.number f.rule f.at).straight (subst (λ (s : Symbol). Derives g s s) e d)

  joined : (a b c : Symbol) → Derives g a b → Derives g b c → Derives g a c
  joined a b c (at_once _ _ x) h = through a b c x h
  joined a b c (through _ m _ x d) h = through a m c x (joined m b c d h)

  -- each symbol of a chain derives that from which the chain goes up
  derives : (y : ℕ) (zs : List ℕ) (k z : ℕ) → Up g y zs → slice_get zs k ≡ Some z → Derives g (symbol z) (symbol y)
  derives y _ k z (up_none _) at = absurd (let e : None ≡ Some z = at in cc)
  derives y _ zero z (up_one _ left zs u c) at = let e : Some left ≡ Some z = at in let s : left ≡ z = cc in subst (λ (x : ℕ). Derives g (symbol x) (symbol y)) s (at_once (symbol left) (symbol y) (unit_alone left y u))
  derives y _ (suc k) z (up_one _ left zs u c) at = joined (symbol z) (symbol left) (symbol y) (derives left zs k z c at) (at_once (symbol left) (symbol y) (unit_alone left y u))

  -- the first of a chain is not in it, where it is a left side
  apart : (y : ℕ) (zs : List ℕ) (k : ℕ) → Up g y zs → slice_get zs k ≡ Some y → ⊥
  apart y _ k (up_none _) at = let e : None ≡ Some y = at in cc
  apart y _ k (up_one _ left zs u c) at =
      let d = derives y (left ∷ zs) k y (up_one y left zs u c) at in
      let e = at_once (symbol left) (symbol y) (unit_alone left y u) in
      no_circle left y u (joined (symbol left) (symbol y) (symbol left) e (by k at))
    where
      by : (j : ℕ) → slice_get (left ∷ zs) j ≡ Some y → Derives g (symbol y) (symbol left)
      by zero h =
          let w : Some left ≡ Some y = h in
          let s : left ≡ y = cc in
          subst (λ (x : ℕ). Derives g (symbol x) (symbol left)) s (subst (λ (x : ℕ). Derives g (symbol left) (symbol x)) (sym s) (at_once (symbol left) (symbol y) (unit_alone left y u)))
      by (suc j) h = derives left zs j y c h

  all_differ : (y : ℕ) (zs : List ℕ) → ((k : ℕ) → slice_get zs k ≡ Some y → ⊥) → AllByRecursion (λ (z : ℕ). eqb y z ≡ false) zs
  all_differ y [] none = tt
  all_differ y (z ∷ zs) none = (differ (eqb y z) refl, all_differ y zs (λ k at. none (suc k) at))
    where
      differ : (b : Bool) → eqb y z ≡ b → eqb y z ≡ false
      differ true e = absurd (none 0 (ap Some (sym (same_nat y z e))))
      differ false e = e

  distinct : (y : ℕ) (zs : List ℕ) → Up g y zs → IsDistinct eqb (y ∷ zs)
  unfolding IsDistinct
  distinct y _ (up_none _) = (tt, tt)
  distinct y _ (up_one _ left zs u c) = (all_differ y (left ∷ zs) (λ k at. apart y (left ∷ zs) k (up_one y left zs u c) at), distinct left zs c)

  within : (y : ℕ) (zs : List ℕ) (k z : ℕ) → Up g y zs → slice_get zs k ≡ Some z → z < symbol_count g
  within y _ k z (up_none _) at = absurd (let e : None ≡ Some z = at in cc)
  within y _ zero z (up_one _ left zs u c) at = let e : Some left ≡ Some z = at in let s : left ≡ z = cc in let lt = left_within left y u in omega (arith, lt, s)
  within y _ (suc k) z (up_one _ left zs u c) at = within left zs k z c at

  any_at : (q : ℕ) (xs : List ℕ) → list_any (eqb q) xs ≡ true → (k : ℕ) × (slice_get xs k ≡ Some q)
  any_at q [] h = absurd (let e : false ≡ true = h in cc)
  any_at q (x ∷ xs) h = by (λ t. any_at q xs t) (eqb q x) refl
    where
      by : (list_any (eqb q) xs ≡ true → (k : ℕ) × (slice_get xs k ≡ Some q)) → (b : Bool) → eqb q x ≡ b → (k : ℕ) × (slice_get (x ∷ xs) k ≡ Some q)
      by rest true e = (0, ap Some (sym (same_nat q x e)))
      by rest false e = let w = rest (ap (λ (b : Bool). b || list_any (eqb q) xs) (sym e) ∙ h) in (suc w.0, w.1)

  short : (y : ℕ) (zs : List ℕ) → Up g y zs → y < symbol_count g → suc (length zs) ≤ symbol_count g
  short y zs c lt = length-le_from_distinct_below (y ∷ zs) (symbol_count g) (distinct y zs c) (λ q h. by q (any_at q (y ∷ zs) h))
    where
      by : (q : ℕ) → (k : ℕ) × (slice_get (y ∷ zs) k ≡ Some q) → q < symbol_count g
      by q (zero, at) = let e : Some y ≡ Some q = at in let s : y ≡ q = cc in omega (arith, lt, s)
      by q (suc k, at) = within y zs k q c at

  low : (y : ℕ) (zs : List ℕ) → Up g y zs → length zs < symbol_count g
  low y _ (up_none _) = omega arith
  low y _ (up_one _ left zs u c) = let s = short y (left ∷ zs) (up_one y left zs u c) (right_within left y u) in omega (arith, s)

  below : (y : ℕ) → unit_rank g y < symbol_count g
  below y =
      let most = height_most (all_productions g) (symbol_count g) y in
      ⊎_elim (λ lt. lt) (λ o. ⊎_elim (λ e. absurd (let c = chain g (symbol_count g) y e in let lt = low y c.0 c.1 in let size = c.2 in omega (arith, lt, size))) (λ gt. absurd (omega (arith, gt, most))) o)
      (three (unit_rank g y) (symbol_count g))

  alone_is : (s : Step) (steps : List Step) → steps ≡ s ∷ [] → is_alone s.symbol.0 steps ≡ true
  alone_is s steps e = ap (is_alone s.symbol.0) e ∙ itself s.symbol.0

  pub are_ranks : AreUnitRanks g (unit_rank g) (symbol_count g)
  are_ranks = record {
    below = below;
    unit = λ number left p s at alone.
        let y = s.symbol.0 in
        let ps = all_productions g in
        let stays = height_stays ps (symbol_count g) y (below y) in
        let le = at_most_greatest (up ps (symbol_count g) y) ps number (left, p) at in
        let is : up ps (symbol_count g) y (left, p) ≡ suc (unit_rank g left) = ap (λ (b : Bool). if b then suc (unit_rank g left) else 0) (alone_is s p.steps alone) in
        omega (arith, stays, le, is);
  }
