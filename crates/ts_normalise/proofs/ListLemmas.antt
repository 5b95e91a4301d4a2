-- Lists that a grammar determines: what is picked, what comes in an order, what is first.
use Rattle.std.proofs.Common.{◌≡◌, ◌∙◌, sym, ap, subst, refl, ℕ, zero, suc, ◌<◌, ◌≤◌, ◌⊎◌, inl, inr, ⊎_elim, List, [], ◌∷◌, ◌++◌, slice_get, Option, Some, None, arith}
use Rattle.std.specs.List.{Contains, flat_map}
use Rattle.std.proofs.lemmas.Bool.{cases_lt}
use Rattle.std.proofs.lemmas.List.Elements.{Contains-append_left, Contains-append_right, Contains-append_cases, All-head, All-tail}
use Rattle.std.proofs.lemmas.Option.{slice_get_within, slice_get-get_or, get_or_from_slice_get}
use Rattle.ts_rules.specs.FirstSights.{Not, FirstAt, AreFirstSights, Picks, end, taken, left, First, Clear}

-- ---- members

-- what stands at a place is in the list, and what is in the list stands at a place
pub there : {X : Type 0} (xs : List X) (k : ℕ) (x : X) → slice_get xs k ≡ Some x → Contains xs x
there xs k x h = (k, slice_get_within xs k x h, get_or_from_slice_get xs k x x h)

pub at_of : {X : Type 0} (xs : List X) (x : X) → (w : Contains xs x) → slice_get xs w.0 ≡ Some x
at_of xs x w = slice_get-get_or xs w.0 x w.1 ∙ ap Some w.2

pub none_in : {X : Type 0} (x : X) → Contains [] x → ⊥
none_in x w = let lt = w.1 in omega arith

pub head_in : {X : Type 0} (x : X) (xs : List X) → Contains (x ∷ xs) x
head_in x xs = there (x ∷ xs) 0 x refl

pub tail_in : {X : Type 0} (x y : X) (xs : List X) → Contains xs y → Contains (x ∷ xs) y
tail_in x y xs w = there (x ∷ xs) (suc w.0) y (at_of xs y w)

-- a member is the head or is in the tail
pub member_cases : {X : Type 0} (x y : X) (xs : List X) → Contains (x ∷ xs) y → (y ≡ x) ⊎ Contains xs y
member_cases x y xs w = by w.0 (at_of (x ∷ xs) y w)
  where
    by : (k : ℕ) → slice_get (x ∷ xs) k ≡ Some y → (y ≡ x) ⊎ Contains xs y
    by zero e = inl (let f : Some x ≡ Some y = e in cc)
    by (suc k) e = inr (there xs k y e)

module _ {X Y : Type 0} (f : X → List Y) where
  pub flat_in : (xs : List X) (x : X) (y : Y) → Contains xs x → Contains (f x) y → Contains (flat_map f xs) y
  flat_in [] x y w v = absurd (none_in x w)
  flat_in (z ∷ xs) x y w v = ⊎_elim
      (λ e. Contains-append_left (f z) (flat_map f xs) y (subst (λ (a : X). Contains (f a) y) e v))
      (λ u. Contains-append_right (f z) (flat_map f xs) y (flat_in xs x y u v))
      (member_cases z x xs w)

  pub in_flat : (xs : List X) (y : Y) → Contains (flat_map f xs) y → (x : X) × Contains xs x × Contains (f x) y
  in_flat [] y w = absurd (none_in y w)
  in_flat (x ∷ xs) y w = ⊎_elim
      (λ v. (x, head_in x xs, v))
      (λ v. let r = in_flat xs y v in (r.0, tail_in x r.0 xs r.1, r.2))
      (Contains-append_cases (f x) (flat_map f xs) y w)

-- ---- what is picked

module _ {X : Type 0} (P : X → Type 0) where
  -- what is picked is in the list and has the property
  pub picked : (xs ys : List X) (x : X) → Picks P xs ys → Contains ys x → Contains xs x × P x
  picked _ _ x end w = absurd (none_in x w)
  picked _ _ x (taken y xs ys p rest) w = ⊎_elim
      (λ e. (subst (λ (z : X). Contains (y ∷ xs) z) (sym e) (head_in y xs), subst P (sym e) p))
      (λ v. let r = picked xs ys x rest v in (tail_in y x xs r.0, r.1))
      (member_cases y x ys w)
  picked _ _ x (left y xs ys p rest) w = let r = picked xs ys x rest w in (tail_in y x xs r.0, r.1)

  -- what is in the list and has the property is picked
  pub picks_all : (xs ys : List X) (x : X) → Picks P xs ys → Contains xs x → P x → Contains ys x
  picks_all _ _ x end w h = w
  picks_all _ _ x (taken y xs ys p rest) w h = ⊎_elim
      (λ e. subst (λ (z : X). Contains (y ∷ ys) z) (sym e) (head_in y ys))
      (λ v. tail_in y x ys (picks_all xs ys x rest v h))
      (member_cases y x xs w)
  picks_all _ _ x (left y xs ys p rest) w h = ⊎_elim
      (λ e. absurd (p (subst P e h)))
      (λ v. picks_all xs ys x rest v h)
      (member_cases y x xs w)

  -- ---- what is first

  pub first_in : (all : List X) (x : X) → First P all x → Contains all x
  first_in all x f = subst (λ (xs : List X). Contains xs x) (sym f.is) (Contains-append_right f.before (x ∷ f.after) x (head_in x f.after))

  pub one_first : (all : List X) (x y : X) → First P all x → First P all y → x ≡ y
  one_first all x y f g = by f.before g.before (sym f.is ∙ g.is) f.clear g.clear
    where
      by : (cs bs : List X) → cs ++ x ∷ f.after ≡ bs ++ y ∷ g.after → Clear P cs → Clear P bs → x ≡ y
      by [] [] e c d = let h : x ∷ f.after ≡ y ∷ g.after = e in cc
      by [] (b ∷ bs) e c d = let h : x ∷ f.after ≡ b ∷ (bs ++ y ∷ g.after) = e in
          let i : x ≡ b = cc in absurd (All-head (λ (z : X). Not (P z)) b bs d (subst P i f.holds))
      by (a ∷ cs) [] e c d = let h : a ∷ (cs ++ x ∷ f.after) ≡ y ∷ g.after = e in
          let i : y ≡ a = cc in absurd (All-head (λ (z : X). Not (P z)) a cs c (subst P i g.holds))
      by (a ∷ cs) (b ∷ bs) e c d = let h : a ∷ (cs ++ x ∷ f.after) ≡ b ∷ (bs ++ y ∷ g.after) = e in
          let i : cs ++ x ∷ f.after ≡ bs ++ y ∷ g.after = cc in
          by cs bs i (All-tail (λ (z : X). Not (P z)) a cs c) (All-tail (λ (z : X). Not (P z)) b bs d)

-- ---- what comes in an order

past : {X : Type 0} (ys : List X) (n i : ℕ) (x : X) → slice_get ys n ≡ None → slice_get ys i ≡ Some x → n ≤ i → ⊥
past {X = X} [] n i x d e ge = let lt : i < 0 = slice_get_within {A = X} [] i x e in omega arith
past (y ∷ ys) zero i x d e ge = let h : Some y ≡ None = d in cc
past (y ∷ ys) (suc n) zero x d e ge = omega arith
past (y ∷ ys) (suc n) (suc i) x d e ge = past ys n i x d e (omega arith)

abbrev pub InOrder : {X : Type 0} → (X → X → Type 0) → List X → Type 0
InOrder {X = X} Before xs = (j k : ℕ) (x y : X) → j < k → slice_get xs j ≡ Some x → slice_get xs k ≡ Some y → Before x y

module _ {X : Type 0} (Before : X → X → Type 0) (not_both : (x y : X) → Before x y → Before y x → ⊥) where
  -- lists in one order with the same members are equal at each place
  pub same_at : (xs ys : List X) → InOrder Before xs → InOrder Before ys → ((x : X) → Contains xs x → Contains ys x) → ((x : X) → Contains ys x → Contains xs x)
      → (k : ℕ) → ((j : ℕ) → j < k → slice_get xs j ≡ slice_get ys j) → (x y : X) → slice_get xs k ≡ Some x → slice_get ys k ≡ Some y → x ≡ y
  same_at xs ys first second there_too here_too k same x y e d =
      let w = there_too x (there xs k x e) in
      let v = here_too y (there ys k y d) in
      by w.0 v.0 (at_of ys x w) (at_of xs y v)
    where
      by : (i j : ℕ) → slice_get ys i ≡ Some x → slice_get xs j ≡ Some y → x ≡ y
      by i j a b = ⊎_elim
          (λ lt. absurd (let h = first i k x x lt (same i lt ∙ a) e in not_both x x h h))
          (λ ge. ⊎_elim
          (λ lt. ⊎_elim
          (λ less. absurd (let h = second j k y y less (sym (same j less) ∙ b) d in not_both y y h h))
          (λ more. ⊎_elim
          (λ far. absurd (not_both x y (first k j x y far e b) (second k i y x lt d a)))
          (λ near. let h : j ≡ k = omega arith in let f : Some x ≡ Some y = sym e ∙ ap (slice_get xs) (sym h) ∙ b in cc)
          (cases_lt k j))
          (cases_lt j k))
          (λ le. let h : i ≡ k = omega arith in let f : Some x ≡ Some y = sym a ∙ ap (slice_get ys) h ∙ d in cc)
          (cases_lt k i))
          (cases_lt i k)

  -- what stands at a place where the other list has ended stands nowhere in the other
  short : (ys xs : List X) (x : X) (n : ℕ) → slice_get xs n ≡ Some x → slice_get ys n ≡ None → ((i : ℕ) → i < n → slice_get ys i ≡ slice_get xs i) → Contains ys x → InOrder Before xs → ⊥
  short ys xs x n e d before w order = ⊎_elim
      (λ lt. let h = order w.0 n x x lt (sym (before w.0 lt) ∙ at_of ys x w) e in not_both x x h h)
      (λ ge. past ys n w.0 x d (at_of ys x w) ge)
      (cases_lt w.0 n)

  -- and so at each place below any number
  pub same_places : (xs ys : List X) → InOrder Before xs → InOrder Before ys → ((x : X) → Contains xs x → Contains ys x) → ((x : X) → Contains ys x → Contains xs x)
      → (n : ℕ) (j : ℕ) → j < n → slice_get xs j ≡ slice_get ys j
  same_places xs ys first second there_too here_too zero j lt = absurd (omega arith)
  same_places xs ys first second there_too here_too (suc n) j lt = ⊎_elim
      (λ less. same_places xs ys first second there_too here_too n j less)
      (λ ge. let h : j ≡ n = omega arith in subst (λ (i : ℕ). slice_get xs i ≡ slice_get ys i) (sym h) (by (slice_get xs n) (slice_get ys n) refl refl (λ i less. same_places xs ys first second there_too here_too n i less)))
      (cases_lt j n)
    where
      by : (a b : Option X) → slice_get xs n ≡ a → slice_get ys n ≡ b → ((i : ℕ) → i < n → slice_get xs i ≡ slice_get ys i) → slice_get xs n ≡ slice_get ys n
      by None None e d before = e ∙ sym d
      by (Some x) (Some y) e d before = e ∙ ap Some (same_at xs ys first second there_too here_too n before x y e d) ∙ sym d
      by (Some x) None e d before = absurd (short ys xs x n e d (λ i less. sym (before i less)) (there_too x (there xs n x e)) first)
      by None (Some y) e d before = absurd (short xs ys y n d e before (here_too y (there ys n y d)) second)

pub same_list : {X : Type 0} (xs ys : List X) → ((k : ℕ) → slice_get xs k ≡ slice_get ys k) → xs ≡ ys
same_list [] [] h = refl
same_list [] (y ∷ ys) h = absurd (let e : None ≡ Some y = h 0 in cc)
same_list (x ∷ xs) [] h = absurd (let e : Some x ≡ None = h 0 in cc)
same_list {X = X} (x ∷ xs) (y ∷ ys) h =
    let e : Some x ≡ Some y = h 0 in
    let f : xs ≡ ys = same_list xs ys (λ k. h (suc k)) in
    cc

pub one_order : {X : Type 0} (Before : X → X → Type 0) → ((x y : X) → Before x y → Before y x → ⊥) → (xs ys : List X) → InOrder Before xs → InOrder Before ys
    → ((x : X) → Contains xs x → Contains ys x) → ((x : X) → Contains ys x → Contains xs x) → xs ≡ ys
one_order Before not_both xs ys first second there_too here_too = same_list xs ys (λ k. same_places Before not_both xs ys first second there_too here_too (suc k) k (omega arith))

-- ---- first sights

module _ {X : Type 0} (seen : List X) where
  -- what was seen has a first place, as far as a contradiction asks
  pub some_first : (x : X) → Contains seen x → ((j : ℕ) → FirstAt seen x j → ⊥) → ⊥
  some_first x w never = below (suc w.0) w.0 (omega arith) (at_of seen x w)
    where
      below : (n : ℕ) → (j : ℕ) → j < n → slice_get seen j ≡ Some x → ⊥
      below zero j lt e = omega arith
      below (suc n) j lt e = ⊎_elim
          (λ less. below n j less e)
          (λ ge. let h : j ≡ n = omega arith in
          never n (record {
            at = ap (slice_get seen) (sym h) ∙ e;
            least = λ i d. ⊎_elim (λ less. absurd (below n i less d)) (λ le. le) (cases_lt i n);
          }))
          (cases_lt j n)

  record Sooner (x y : X) : Type 0 where
    left_seen : Contains seen x
    right_seen : Contains seen y
    sooner : (j k : ℕ) → FirstAt seen x j → FirstAt seen y k → j < k

  not_both : (x y : X) → Sooner x y → Sooner y x → ⊥
  not_both x y a b = some_first x a.left_seen (λ j f. some_first y a.right_seen (λ k g. let lt = a.sooner j k f g in let gt = b.sooner k j g f in omega arith))

  in_order : (found : List X) → AreFirstSights seen found → InOrder Sooner found
  in_order found s j k x y lt e d = record {
    left_seen = s.only x (there found j x e);
    right_seen = s.only y (there found k y d);
    sooner = λ a b f g. s.rising j k a b x y lt e d f g;
  }

  pub one_sights : (found other : List X) → AreFirstSights seen found → AreFirstSights seen other → found ≡ other
  one_sights found other s t = one_order Sooner not_both found other (in_order found s) (in_order other t) (λ x w. t.every x (s.only x w)) (λ x w. s.every x (t.only x w))
