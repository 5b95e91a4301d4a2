-- The latest end of ways: what a link leads to, what becomes of what was found by each step, and why
-- the steps end.
use Rattle.std.proofs.Common.{◌≡◌, ◌∙◌, sym, ap, refl, subst, ℕ, zero, suc, ◌+◌, ◌-◌, ◌*◌, ◌^◌, ◌<◌, ◌≤◌, ◌⊎◌, inl, inr, Bool, true, false, true≢false, List, [], ◌∷◌, ◌++◌, append-nil, append_assoc, length, length-append, take, map, slice_get, Option, Some, None, nat_eq, arith}
use Rattle.std.specs.Prelude.{MatchOption, if◌then◌else◌}
use Rattle.std.specs.Bool.{IsTrue}
use Rattle.std.specs.List.{Contains}
use Rattle.std.specs.Option.{option_map_or}
use Rattle.std.proofs.Math.Nat.{one-le-pow, pow-le-pow_right, pow-suc, mul-le-mul_right, mul_comm, suc-mul, zero-mul}
use Rattle.std.proofs.lemmas.List.{length-map}
use Rattle.std.proofs.lemmas.List.Elements.{Contains-append_left, Contains-append_right, Contains-append_cases, Contains-push_cases}
use Rattle.spec_graph.specs.declared.graph.Head.{Head}
use Rattle.spec_graph.specs.declared.graph.Link.{Link}
use Rattle.spec_graph.specs.Links.{IsWay}
use Rattle.ts_graph.specs.declared.latest.Spot.{Spot}
use Rattle.ts_graph.specs.Down.{numbers_down, number_if, links_down, links_from, place_at, HoldsEachOnce}
use Rattle.ts_graph.specs.Ways.{TakesFilled, EndsBy, IsLatestEnd}
use Rattle.ts_graph.specs.Parts.{below_at, wanting_past}
use Rattle.ts_graph.specs.Latest.{spot_of, spot_past, past, Finds, Meets, Leaves, IsMet, CanGoDown, weight, GoesDown}
use Rattle.ts_graph.proofs.ListLemmas.{Has, has_contained, contained_has, has_mapped, mapped_has}
use Rattle.ts_graph.proofs.DownLemmas.{aboves, down_has}
use Rattle.ts_graph.proofs.BetweenLemmas.{GoDown, go_above, go_next, go_rest}
use Rattle.ts_graph.proofs.PartLemmas.{below_is, behind_is}
use Rattle.ts_graph.proofs.WayLemmas.{ends_rest, none_ends, way_falls}
use Rattle.ts_graph.proofs.OnlyLemmas.{takes_on, takes_over}

-- ---- lists

one_in : {X : Type 0} (x y : X) → Contains (x ∷ []) y → x ≡ y
one_in {X = X} x y h = by (Contains-push_cases [] x y h)
  where
    by : Contains [] y ⊎ (x ≡ y) → x ≡ y
    by (inl w) = absurd (let low = w.1 in omega (arith, low))
    by (inr e) = e

-- the first of some elements, one of those before them, or one of those behind
in_middle : {X : Type 0} (xs ys : List X) (x y : X) → Contains (xs ++ x ∷ ys) y → (x ≡ y) ⊎ Contains (xs ++ ys) y
in_middle {X = X} xs ys x y h = by (Contains-append_cases xs (x ∷ ys) y h)
  where
    behind : Contains (x ∷ []) y ⊎ Contains ys y → (x ≡ y) ⊎ Contains (xs ++ ys) y
    behind (inl w) = inl (one_in x y w)
    behind (inr w) = inr (Contains-append_right xs ys y w)

    by : Contains xs y ⊎ Contains (x ∷ ys) y → (x ≡ y) ⊎ Contains (xs ++ ys) y
    by (inl w) = inr (Contains-append_left xs ys y w)
    by (inr w) = behind (Contains-append_cases (x ∷ []) ys y w)

around_middle : {X : Type 0} (xs ys : List X) (x y : X) → Contains (xs ++ ys) y → Contains (xs ++ x ∷ ys) y
around_middle {X = X} xs ys x y h = by (Contains-append_cases xs ys y h)
  where
    by : Contains xs y ⊎ Contains ys y → Contains (xs ++ x ∷ ys) y
    by (inl w) = Contains-append_left xs (x ∷ ys) y w
    by (inr w) = Contains-append_right xs (x ∷ ys) y (Contains-append_right (x ∷ []) ys y w)

the_middle : {X : Type 0} (xs ys : List X) (x : X) → Contains (xs ++ x ∷ ys) x
the_middle {X = X} xs ys x = Contains-append_right xs (x ∷ ys) x (0, omega arith, refl)

-- where a place is not later than the best
pub not_later : (best place : ℕ) → (best ≤ place → IsTrue false) → place < best
not_later zero place other = absurd (true≢false (sym (other (omega arith))))
not_later (suc best) zero other = omega arith
not_later (suc best) (suc place) other = let r = not_later best place (λ low. other (omega (arith, low))) in omega (arith, r)

-- ---- what a link leads to

module _ (heads : List Head) (links : List Link) (most : ℕ) where
  -- a way behind a link is one from above it
  pub over_link : (k : ℕ) (l : Link) (n p : ℕ) → slice_get links k ≡ Some l → 0 < n → EndsBy heads links (below_at links k) (wanting_past links n k) most p → EndsBy heads links l.above n most p
  over_link k l n p at some e = record {
    taken = l ∷ e.taken;
    below = e.below;
    takes = takes_on links k l n e.below e.taken at some (subst (λ (h : ℕ). TakesFilled links h (wanting_past links n k) e.taken e.below) (below_is links k l at) e.takes);
    at = e.at;
    low = e.low;
  }

  -- each way that wants some trees goes over a link
  pub by_link : (h n p : ℕ) → 0 < n → EndsBy heads links h n most p → (k : ℕ) × Has (links_down links h) k × EndsBy heads links (below_at links k) (wanting_past links n k) most p
  by_link h n p some e =
      let o = takes_over links h n e.below e.taken some e.takes in (
        o.number,
        o.down,
        record {
          taken = o.rest;
          below = e.below;
          takes = subst (λ (x : ℕ). TakesFilled links x (wanting_past links n o.number) o.rest e.below) (sym (below_is links o.number o.link o.at)) o.takes;
          at = e.at;
          low = e.low;
        },
      )

  -- where no tree is wanting, the way ends
  pub ends_here : (h p : ℕ) → EndsBy heads links h 0 most p → p ≡ place_at heads h
  ends_here h p e =
      let none : e.taken ≡ [] = ends_rest [] e.taken e.takes.ends e.takes.filled in
      let same : h ≡ e.below = subst (λ (u : List Link). IsWay links h u e.below) none e.takes.way in
      sym e.at ∙ ap (λ (x : ℕ). place_at heads x) (sym same)

  pub here_ends : (h : ℕ) → place_at heads h ≤ most → EndsBy heads links h 0 most (place_at heads h)
  here_ends h low = record {
    taken = [];
    below = h;
    takes = record { way = refl; filled = refl; ends = none_ends };
    at = refl;
    low = low;
  }

  pub ends_low : HoldsEachOnce heads links → (h n p : ℕ) → EndsBy heads links h n most p → p ≤ place_at heads h
  ends_low each h n p e =
      let falls = way_falls heads links each h e.below e.taken e.takes.way in
      let at = e.at in
      omega arith

  -- ---- what was found

  module _ (h count : ℕ) where
    pub finds_first : Finds heads links h count most (spot_of h count ∷ []) None
    finds_first = record {
      each = λ s there p e. let same = one_in (spot_of h count) s there in subst (λ (x : Spot). EndsBy heads links x.head x.wanting most p) (sym same) e;
      own = λ p is. absurd (let f : None ≡ Some p = is in cc);
      all = λ p e. inr (spot_of h count, (0, omega arith, refl), e);
    }

    -- a spot is left out, all ways from which end no later than the best
    pub finds_without : (old more : List Spot) (s : Spot) (best : Option ℕ) → ((p : ℕ) → EndsBy heads links s.head s.wanting most p → p < past best) → Finds heads links h count most (old ++ s ∷ more) best → Finds heads links h count most (old ++ more) best
    finds_without old more s best no_later f = record {
      each = λ x there p e. f.each x (around_middle old more s x there) p e;
      own = f.own;
      all = λ p e. by p (f.all p e);
    }
      where
        at : (p : ℕ) (x : Spot) → EndsBy heads links x.head x.wanting most p → (s ≡ x) ⊎ Contains (old ++ more) x → (p < past best) ⊎ ((y : Spot) × Contains (old ++ more) y × EndsBy heads links y.head y.wanting most p)
        at p x e (inl same) = inl (no_later p (subst (λ (y : Spot). EndsBy heads links y.head y.wanting most p) (sym same) e))
        at p x e (inr there) = inr (x, there, e)

        by : (p : ℕ) → (p < past best) ⊎ ((y : Spot) × Contains (old ++ s ∷ more) y × EndsBy heads links y.head y.wanting most p) → (p < past best) ⊎ ((y : Spot) × Contains (old ++ more) y × EndsBy heads links y.head y.wanting most p)
        by p (inl low) = inl low
        by p (inr w) = at p w.0 w.2 (in_middle old more s w.0 w.1)

    -- a spot is an end, and the best
    pub finds_end : (old more : List Spot) (s : Spot) (best : Option ℕ) (place : ℕ) → place_at heads s.head ≡ place → s.wanting ≡ 0 → place ≤ most → past best ≤ place → Finds heads links h count most (old ++ s ∷ more) best
        → Finds heads links h count most (old ++ more) (Some place)
    finds_end old more s best place at none low later f = record {
      each = λ x there p e. f.each x (around_middle old more s x there) p e;
      own = λ p is. let g : Some place ≡ Some p = is in let same : place ≡ p = cc in subst (λ (x : ℕ). EndsBy heads links h count most x) same (f.each s (the_middle old more s) place own_end);
      all = λ p e. by p (f.all p e);
    }
      where
        own_end : EndsBy heads links s.head s.wanting most place
        own_end =
            subst (λ (n : ℕ). EndsBy heads links s.head n most place) (sym none)
            (subst (λ (x : ℕ). EndsBy heads links s.head 0 most x) at (here_ends s.head (omega (arith, at, low))))

        only : (p : ℕ) (x : Spot) → EndsBy heads links x.head x.wanting most p → s ≡ x → p < suc place
        only p x e same =
            let own = subst (λ (y : Spot). EndsBy heads links y.head y.wanting most p) (sym same) e in
            let here = ends_here s.head p (subst (λ (n : ℕ). EndsBy heads links s.head n most p) none own) in
            omega (arith, here, at)

        there_or : (p : ℕ) (x : Spot) → EndsBy heads links x.head x.wanting most p → (s ≡ x) ⊎ Contains (old ++ more) x → (p < suc place) ⊎ ((y : Spot) × Contains (old ++ more) y × EndsBy heads links y.head y.wanting most p)
        there_or p x e (inl same) = inl (only p x e same)
        there_or p x e (inr there) = inr (x, there, e)

        by : (p : ℕ) → (p < past best) ⊎ ((y : Spot) × Contains (old ++ s ∷ more) y × EndsBy heads links y.head y.wanting most p) → (p < suc place) ⊎ ((y : Spot) × Contains (old ++ more) y × EndsBy heads links y.head y.wanting most p)
        by p (inl before) = inl (omega (arith, before, later))
        by p (inr w) = there_or p w.0 w.2 (in_middle old more s w.0 w.1)

    -- a spot is left for all that its links lead to
    pub finds_open : (old : List Spot) (s : Spot) (best : Option ℕ) → 0 < s.wanting → Finds heads links h count most (old ++ s ∷ []) best → Finds heads links h count most (old ++ map (spot_past links s.wanting) (links_down links s.head)) best
    finds_open old s best some f = record {
      each = λ x there p e. each_by x p e (Contains-append_cases old (map (spot_past links s.wanting) (links_down links s.head)) x there);
      own = f.own;
      all = λ p e. by p (f.all p e);
    }
      where
        nexts : List Spot
        nexts = map (spot_past links s.wanting) (links_down links s.head)

        each_by : (x : Spot) (p : ℕ) → EndsBy heads links x.head x.wanting most p → Contains old x ⊎ Contains (map (spot_past links s.wanting) (links_down links s.head)) x → EndsBy heads links h count most p
        each_by x p e (inl there) = f.each x (Contains-append_left old (s ∷ []) x there) p e
        each_by x p e (inr there) =
            let k = has_mapped (spot_past links s.wanting) (links_down links s.head) x (has_contained (map (spot_past links s.wanting) (links_down links s.head)) x there) in
            let l = down_has links s.head k.0 k.1 in
            let behind : EndsBy heads links (below_at links k.0) (wanting_past links s.wanting k.0) most p = subst (λ (y : Spot). EndsBy heads links y.head y.wanting most p) (sym k.2) e in
            let over = over_link k.0 l.0 s.wanting p l.1 some behind in
            f.each s (the_middle old [] s) p (subst (λ (y : ℕ). EndsBy heads links y s.wanting most p) l.2 over)

        at : (p : ℕ) (x : Spot) → EndsBy heads links x.head x.wanting most p → (s ≡ x) ⊎ Contains (old ++ []) x → (y : Spot) × Contains (old ++ map (spot_past links s.wanting) (links_down links s.head)) y × EndsBy heads links y.head y.wanting most p
        at p x e (inl same) =
            let own = subst (λ (y : Spot). EndsBy heads links y.head y.wanting most p) (sym same) e in
            let k = by_link s.head s.wanting p some own in (
              spot_past links s.wanting k.0,
              Contains-append_right old (map (spot_past links s.wanting) (links_down links s.head)) (spot_past links s.wanting k.0)
                  (contained_has (map (spot_past links s.wanting) (links_down links s.head)) (spot_past links s.wanting k.0) (mapped_has (spot_past links s.wanting) (links_down links s.head) k.0 k.1)),
              k.2,
            )
        at p x e (inr there) = (x, Contains-append_left old (map (spot_past links s.wanting) (links_down links s.head)) x (subst (λ (xs : List Spot). Contains xs x) (append-nil old) there), e)

        by : (p : ℕ) → (p < past best) ⊎ ((y : Spot) × Contains (old ++ s ∷ []) y × EndsBy heads links y.head y.wanting most p)
            → (p < past best) ⊎ ((y : Spot) × Contains (old ++ map (spot_past links s.wanting) (links_down links s.head)) y × EndsBy heads links y.head y.wanting most p)
        by p (inl low) = inl low
        by p (inr w) = inr (at p w.0 w.2 (in_middle old [] s w.0 w.1))

    pub finds_last : (best : Option ℕ) → Finds heads links h count most [] best → MatchOption best ((p : ℕ) → EndsBy heads links h count most p → ⊥) (λ p. IsLatestEnd heads links h count most p)
    finds_last None f = λ p e. by (f.all p e)
      where
        by : {p : ℕ} → (p < 0) ⊎ ((y : Spot) × Contains [] y × EndsBy heads links y.head y.wanting most p) → ⊥
        by (inl low) = omega (arith, low)
        by (inr w) = let there = w.1.1 in omega (arith, there)
    finds_last (Some place) f = record {
      ends = f.own place refl;
      latest = λ p e. by p (f.all p e);
    }
      where
        by : (p : ℕ) → (p < suc place) ⊎ ((y : Spot) × Contains [] y × EndsBy heads links y.head y.wanting most p) → p ≤ place
        by p (inl low) = omega (arith, low)
        by p (inr w) = absurd (let there = w.1.1 in omega (arith, there))

-- ---- one spot is met

pub place_is : (heads : List Head) (h : ℕ) (head : Head) → slice_get heads h ≡ Some head → place_at heads h ≡ head.place
place_is heads h head at = ap (λ (o : Option Head). option_map_or (λ (x : Head). x.place) o 0) at

module _ (heads : List Head) (links : List Link) (each : HoldsEachOnce heads links) (most : ℕ) (old : List Spot) (s : Spot) (best : Option ℕ) (head : Head) (at : slice_get heads s.head ≡ Some head) where
  -- it stands no later than the best
  pub meets_none_later : head.place < past best → Meets heads links most old s best old best
  meets_none_later low h count more f =
      finds_without heads links most h count old more s best
      (λ p e. let a = ends_low heads links most each s.head s.wanting p e in let b = place_is heads s.head head at in omega (arith, low, a, b)) f

  -- it is put at the end
  pub meets_more : (new : List Spot) → new ≡ old ++ s ∷ [] → Meets heads links most old s best new best
  meets_more new is h count more f =
      subst (λ (xs : List Spot). Finds heads links h count most xs best)
      (sym (append_assoc old (s ∷ []) more) ∙ ap (λ (xs : List Spot). xs ++ more) (sym is)) f

  -- it is an end that is too late
  pub meets_late : s.wanting ≡ 0 → most < head.place → Meets heads links most old s best old best
  meets_late none late h count more f =
      finds_without heads links most h count old more s best
      (λ p e. absurd (let a = ends_here heads links most s.head p (subst (λ (n : ℕ). EndsBy heads links s.head n most p) none e) in let b = place_is heads s.head head at in let c = e.low in omega (arith, late, a, b, c))) f

  -- it is an end, and the best
  pub meets_end : s.wanting ≡ 0 → head.place ≤ most → past best ≤ head.place → Meets heads links most old s best old (Some head.place)
  meets_end none low later h count more f = finds_end heads links most h count old more s best head.place (place_is heads s.head head at) none low later f

-- ---- behind a link

pub spot_is : (links : List Link) (k : ℕ) → k < length links → (n head wanting : ℕ) → ((l : Link) → slice_get links k ≡ Some l → head ≡ l.below) → wanting ≡ wanting_past links n k → spot_of head wanting ≡ spot_past links n k
spot_is links k low n head wanting is wants_is =
    ap (λ (h : ℕ). spot_of h wanting) (sym (behind_is links k low head is)) ∙ ap (λ (w : ℕ). spot_of (below_at links k) w) wants_is

-- ---- how much there is

weight_both : (heads : List Head) (links : List Link) (xs ys : List Spot) → weight heads links (xs ++ ys) ≡ weight heads links xs + weight heads links ys
weight_both heads links [] ys = omega arith
weight_both heads links (s ∷ xs) ys = let a = weight_both heads links xs ys in omega (arith, a)

number_count : (h n a : ℕ) → length (number_if h n a) ≤ 1
number_count h n a = by (nat_eq a h)
  where
    by : (b : Bool) → length (if b then n ∷ [] else []) ≤ 1
    by true = omega arith
    by false = omega arith

numbers_count : (h n : ℕ) (ms : List ℕ) → length (numbers_down h n ms) ≤ length ms
numbers_count h n [] = omega arith
numbers_count h n (a ∷ ms) =
    let r = numbers_count h (n + 1) ms in
    let b = number_count h n a in
    let both = length-append (numbers_down h (n + 1) ms) (number_if h n a) in
    omega (arith, r, b, both)

down_count : (links : List Link) (h : ℕ) → length (links_down links h) ≤ length links
down_count links h = let a = numbers_count h 0 (aboves links) in let b = length-map links (λ (l : Link). l.above) in omega (arith, a, b)

-- the most that a spot behind a link from the head can weigh
abbrev pub step_weight : List Head → List Link → ℕ → ℕ
step_weight heads links h = suc (length links) ^ (place_at heads h - 1)

-- one spot weighs more than all behind its links
steps_less : (heads : List Head) (links : List Link) → HoldsEachOnce heads links → (h : ℕ) → length (links_down links h) * step_weight heads links h < suc (length links) ^ place_at heads h
steps_less heads links each h = by (place_at heads h) refl
  where
    k : ℕ
    k = suc (length links)

    none : (ks : List ℕ) → links_down links h ≡ ks → place_at heads h ≡ 0 → length (links_down links h) ≡ 0
    none [] e low = ap (λ (xs : List ℕ). length xs) e
    none (j ∷ ks) e low =
        absurd (let l = down_has links h j (subst (λ (xs : List ℕ). Has xs j) (sym e) (inl refl)) in
        let falls = each.falls j l.0 l.1 in
        let above : place_at heads l.0.above ≡ place_at heads h = ap (λ (x : ℕ). place_at heads x) l.2 in
        omega (arith, falls, above, low))

    by : (place : ℕ) → place_at heads h ≡ place → length (links_down links h) * (suc (length links) ^ (place_at heads h - 1)) < suc (length links) ^ place_at heads h
    by zero e =
        let z = none (links_down links h) refl e in
        let n : length (links_down links h) * step_weight heads links h ≡ 0 = ap (λ (x : ℕ). x * step_weight heads links h) z ∙ zero-mul (step_weight heads links h) in
        let some : 1 ≤ suc (length links) ^ place_at heads h = one-le-pow (place_at heads h) (suc (length links)) (omega arith) in
        omega (arith, n, some)
    by (suc m) e =
        let count = down_count links h in
        let some : 1 ≤ suc (length links) ^ m = one-le-pow m (suc (length links)) (omega arith) in
        let less : length (links_down links h) * suc (length links) ^ m ≤ length links * suc (length links) ^ m = mul-le-mul_right (suc (length links) ^ m) count in
        let is : suc (length links) ^ place_at heads h ≡ suc (length links) ^ m * suc (length links) = ap (λ (x : ℕ). suc (length links) ^ x) e ∙ pow-suc (suc (length links)) m in
        let one_less : place_at heads h - 1 ≡ m = omega (arith, e) in
        let power : suc (length links) ^ (place_at heads h - 1) ≡ suc (length links) ^ m = ap (λ (x : ℕ). suc (length links) ^ x) one_less in
        let same : length (links_down links h) * (suc (length links) ^ (place_at heads h - 1)) ≡ length (links_down links h) * suc (length links) ^ m = ap (λ (x : ℕ). length (links_down links h) * x) power in
        let whole : suc (length links) ^ m * suc (length links) ≡ length links * suc (length links) ^ m + suc (length links) ^ m = mul_comm (suc (length links) ^ m) (suc (length links)) ∙ suc-mul (length links) (suc (length links) ^ m) in
        omega (arith, some, less, is, same, whole)

-- ---- all links down from one spot

-- the spots and the best so far, where the links from here on are still ahead
pub record GoesOver (heads : List Head) (links : List Link) (most : ℕ) (before : List Spot) (s : Spot) (first : Option ℕ) (next : Option ℕ) (spots : List Spot) (best : Option ℕ) : Type 0 where
  pub go : GoDown links s.head next
  pub finds : (h count : ℕ) → Finds heads links h count most (before ++ s ∷ []) first → Finds heads links h count most (spots ++ map (spot_past links s.wanting) (links_from links s.head next)) best
  pub can : (x : Spot) → Contains spots x → Contains before x ⊎ CanGoDown heads x
  pub light : weight heads links spots + length (links_from links s.head next) * step_weight heads links s.head ≤ weight heads links before + length (links_down links s.head) * step_weight heads links s.head

module _ (heads : List Head) (links : List Link) (each : HoldsEachOnce heads links) (most : ℕ) (before : List Spot) (s : Spot) (first : Option ℕ) where
  pub over_first : (next : Option ℕ) → 0 < s.wanting → GoDown links s.head next → links_from links s.head next ≡ links_down links s.head → GoesOver heads links most before s first next before first
  over_first next some go is = record {
    go = go;
    finds = λ h count f. subst (λ (ks : List ℕ). Finds heads links h count most (before ++ map (spot_past links s.wanting) ks) first) (sym is) (finds_open heads links most h count before s first some f);
    can = λ x there. inl there;
    light = let e = ap (λ (ks : List ℕ). length ks * step_weight heads links s.head) is in omega (arith, e);
  }

  -- what is met behind a link can go on, and is light
  met_can : (k : ℕ) (l : Link) → slice_get links k ≡ Some l → (old new : List Spot) → IsMet old (spot_past links s.wanting k) new → ((x : Spot) → Contains old x → Contains before x ⊎ CanGoDown heads x) → (x : Spot) → Contains new x → Contains before x ⊎ CanGoDown heads x
  met_can k l at old new (inl same) can x there = can x (subst (λ (xs : List Spot). Contains xs x) same there)
  met_can k l at old new (inr more) can x there =
      by (Contains-push_cases old (spot_past links s.wanting k) x (subst (λ (xs : List Spot). Contains xs x) more.0 there))
    where
      low : below_at links k < length heads
      low = subst (λ (h : ℕ). h < length heads) (sym (below_is links k l at)) (each.below_there k l at)

      by : Contains old x ⊎ (spot_past links s.wanting k ≡ x) → Contains before x ⊎ CanGoDown heads x
      by (inl w) = can x w
      by (inr e) = inr (subst (λ (y : Spot). CanGoDown heads y) e (low, more.1))

  met_light : (k : ℕ) (l : Link) → slice_get links k ≡ Some l → l.above ≡ s.head → (old new : List Spot) → IsMet old (spot_past links s.wanting k) new → weight heads links new ≤ weight heads links old + step_weight heads links s.head
  met_light k l at above old new (inl same) = let e = ap (λ (xs : List Spot). weight heads links xs) same in omega (arith, e)
  met_light k l at above old new (inr more) =
      let e = ap (λ (xs : List Spot). weight heads links xs) more.0 in
      let both = weight_both heads links old (spot_past links s.wanting k ∷ []) in
      let falls = each.falls k l at in
      let a : place_at heads l.above ≡ place_at heads s.head = ap (λ (x : ℕ). place_at heads x) above in
      let b : place_at heads (below_at links k) ≡ place_at heads l.below = ap (λ (x : ℕ). place_at heads x) (below_is links k l at) in
      let low : suc (length links) ^ place_at heads (below_at links k) ≤ suc (length links) ^ (place_at heads s.head - 1) = pow-le-pow_right (omega arith) (omega (arith, falls, a, b)) in
      omega (arith, e, both, low)

  module _ (k : ℕ) (next : Option ℕ) (l : Link) (at : slice_get links k ≡ Some l) (goes : links_from links l.above next ≡ links_down (take k links) l.above) where
    pub over_more : (old new : List Spot) (best found : Option ℕ) → GoesOver heads links most before s first (Some k) old best → Meets heads links most old (spot_past links s.wanting k) best new found → IsMet old (spot_past links s.wanting k) new
        → GoesOver heads links most before s first next new found
    over_more old new best found o meets met =
        let rest = go_rest links s.head k next l o.go at goes in
        record {
          go = go_next links s.head k next l o.go at goes;
          finds = λ h count f.
              subst (λ (ks : List ℕ). Finds heads links h count most (new ++ map (spot_past links s.wanting) ks) found) (sym rest)
              (meets h count (map (spot_past links s.wanting) (links_down (take k links) s.head)) (o.finds h count f));
          can = met_can k l at old new met o.can;
          light =
              let e : length (links_from links s.head next) ≡ length (links_down (take k links) s.head) = ap (λ (ks : List ℕ). length ks) rest in
              let f = met_light k l at (go_above links s.head k next l o.go at goes) old new met in
              let g = o.light in
              let is = suc-mul (length (links_down (take k links) s.head)) (step_weight heads links s.head) in
              let same = ap (λ (n : ℕ). n * step_weight heads links s.head) e in
              omega (arith, f, g, is, same);
        }

  pub over_last : (new : List Spot) (best : Option ℕ) → GoesOver heads links most before s first None new best → Leaves heads links most before s first new best
  over_last new best o h count f = subst (λ (xs : List Spot). Finds heads links h count most xs best) (append-nil new) (o.finds h count f)

  pub over_less : (next : Option ℕ) (new : List Spot) (best : Option ℕ) → GoesOver heads links most before s first next new best → GoesDown heads links before s new
  over_less next new best o = record {
    can = o.can;
    less =
        let a = o.light in
        let b = steps_less heads links each s.head in
        let both = weight_both heads links before (s ∷ []) in
        omega (arith, a, b, both);
  }

  -- a spot that stands no later than the best is left out
  pub left_out : (head : Head) → slice_get heads s.head ≡ Some head → head.place < past first → Leaves heads links most before s first before first
  left_out head at low h count f =
      subst (λ (xs : List Spot). Finds heads links h count most xs first) (append-nil before)
      (meets_none_later heads links each most before s first head at low h count [] f)

  pub out_less : GoesDown heads links before s before
  out_less = record {
    can = λ x there. inl there;
    less =
        let some : 1 ≤ suc (length links) ^ place_at heads s.head = one-le-pow (place_at heads s.head) (suc (length links)) (omega arith) in
        let both = weight_both heads links before (s ∷ []) in
        omega (arith, some, both);
  }

-- ---- the loop

pub first_found : (heads : List Head) (links : List Link) (most h count : ℕ) (old new : List Spot) (found : Option ℕ) → old ≡ [] → Meets heads links most old (spot_of h count) None new found → Finds heads links h count most new found
first_found heads links most h count old new found is meets =
    subst (λ (xs : List Spot). Finds heads links h count most xs found) (append-nil new)
    (meets h count [] (subst (λ (xs : List Spot). Finds heads links h count most (xs ++ spot_of h count ∷ []) None) (sym is) (finds_first heads links most h count)))

pub met_first : (heads : List Head) (s : Spot) (new : List Spot) → s.head < length heads → IsMet [] s new → (x : Spot) → Contains new x → CanGoDown heads x
met_first heads s new low (inl same) x there = absurd (let w = subst (λ (xs : List Spot). Contains xs x) same there in let h = w.1 in omega (arith, h))
met_first heads s new low (inr more) x there =
    let e = one_in s x (subst (λ (xs : List Spot). Contains xs x) more.0 there) in
    subst (λ (y : Spot). CanGoDown heads y) e (low, more.1)

pub last_can : (heads : List Head) (all rest : List Spot) (s : Spot) → all ≡ rest ++ s ∷ [] → ((x : Spot) → Contains all x → CanGoDown heads x) → CanGoDown heads s
last_can heads all rest s is can = can s (subst (λ (xs : List Spot). Contains xs s) (sym is) (the_middle rest [] s))

pub rest_can : (heads : List Head) (links : List Link) (all rest new : List Spot) (s : Spot) → all ≡ rest ++ s ∷ [] → ((x : Spot) → Contains all x → CanGoDown heads x) → GoesDown heads links rest s new → (x : Spot) → Contains new x → CanGoDown heads x
rest_can heads links all rest new s is can down x there = by (down.can x there)
  where
    by : Contains rest x ⊎ CanGoDown heads x → CanGoDown heads x
    by (inl w) = can x (subst (λ (xs : List Spot). Contains xs x) (sym is) (Contains-append_left rest (s ∷ []) x w))
    by (inr w) = w

-- none was left to take off
pub none_left : (old new : List Spot) (count : ℕ) → old ≡ new ++ [] → count ≡ 0 → new ≡ take (count - 1) old → old ≡ []
none_left old new count is none rest =
    let empty : new ≡ [] = rest ∙ ap (λ (n : ℕ). take (n - 1) old) none in
    is ∙ ap (λ (xs : List Spot). xs ++ []) empty
