-- Elements of lists by their places.
use Rattle.std.proofs.Common.{◌≡◌, ◌∙◌, sym, ap, refl, subst, ℕ, zero, suc, ◌+◌, ◌<◌, ⊎_elim, List, [], ◌∷◌, ◌++◌, length, map, take, drop, set, slice_get, get_or, Some, None, arith}
use Rattle.std.proofs.lemmas.List.{length-append, length-set}
use Rattle.std.proofs.lemmas.Option.{slice_get_read, slice_get_within}
use Rattle.std.specs.List.{zip}
use Rattle.ts_base.proofs.PlaceLemmas.{set_here, set_there, push_cases}
use Rattle.ts_workers.specs.Changes.{Changed}

pub same_thing : {X : Type 0} (x y : X) → Some x ≡ Some y → x ≡ y
same_thing x y h = cc

-- two things that stand at one place are the same
pub same_at : {X : Type 0} (xs : List X) (k : ℕ) (x y : X) → slice_get xs k ≡ Some x → slice_get xs k ≡ Some y → x ≡ y
same_at xs k x y a b = same_thing x y (sym a ∙ b)

pub nowhere : {X : Type 0} (k : ℕ) (x : X) → slice_get [] k ≡ Some x → ⊥
nowhere k x is = let f : None ≡ Some x = is in cc

pub there_is : {X : Type 0} (xs : List X) (k : ℕ) → k < length xs → (x : X) × (slice_get xs k ≡ Some x)
there_is [] k lt = absurd (let f : ⊥ = omega (arith, lt) in f)
there_is (x ∷ xs) zero lt = (x, refl)
there_is (x ∷ xs) (suc k) lt = there_is xs k (omega (arith, lt))

-- what stands in one list stands in each as long
pub beside : {X Y : Type 0} (xs : List X) (ys : List Y) (k : ℕ) (x : X) → length xs ≡ length ys → slice_get xs k ≡ Some x → (y : Y) × (slice_get ys k ≡ Some y)
beside xs ys k x same is = there_is ys k (let lt : k < length xs = slice_get_within xs k x is in omega (arith, lt, same))

-- the item of this turn of a loop
pub read_at : {X : Type 0} (xs : List X) (k : ℕ) (x : X) → k < length xs → x ≡ get_or xs k x → slice_get xs k ≡ Some x
read_at xs k x lt is = slice_get_read xs (length xs) k x refl lt is

pub take_zero : {X : Type 0} (xs : List X) → take 0 xs ≡ []
take_zero [] = refl
take_zero (x ∷ xs) = refl

pub one_there : {X : Type 0} (xs : List X) (k : ℕ) (x : X) → slice_get xs k ≡ Some x → take 1 (drop k xs) ≡ x ∷ []
one_there [] k x is = absurd (nowhere k x is)
one_there (y ∷ ys) zero x is = ap (λ l. y ∷ l) (take_zero ys) ∙ ap (λ z. z ∷ []) (same_thing y x is)
one_there (y ∷ ys) (suc k) x is = one_there ys k x is

-- a whole list that was handed on as a slice
pub whole : {X : Type 0} (new old : List X) → length new ≡ length old → take (length old) (new ++ drop (length new) old) ≡ new
whole [] [] same = refl
whole [] (y ∷ ys) same = absurd (let f : ⊥ = omega (arith, same) in f)
whole (x ∷ xs) [] same = absurd (let f : ⊥ = omega (arith, same) in f)
whole (x ∷ xs) (y ∷ ys) same = ap (λ l. x ∷ l) (whole xs ys (omega (arith, same)))

-- lists with the same at each place, as a function sees them
pub same_map : {X A : Type 0} (f : X → A) (old new : List X) → length new ≡ length old
    → ((k : ℕ) (o n : X) → slice_get old k ≡ Some o → slice_get new k ≡ Some n → f n ≡ f o) → map f new ≡ map f old
same_map f [] [] same each = refl
same_map f [] (n ∷ new) same each = absurd (let e : ⊥ = omega (arith, same) in e)
same_map f (o ∷ old) [] same each = absurd (let e : ⊥ = omega (arith, same) in e)
same_map f (o ∷ old) (n ∷ new) same each =
    ap (λ a. a ∷ map f new) (each 0 o n refl refl) ∙ ap (λ l. f o ∷ l) (same_map f old new (omega (arith, same)) (λ k. each (suc k)))

-- ---- one element after the other

pub changed_one : {X D : Type 0} (R : ℕ → X → X → D → Type 0) (old mid : List X) (results : List D) (m n : X) (d : D)
    → Changed R old mid results → slice_get mid (length results) ≡ Some m → R (length results) m n d
    → Changed R old (set mid (length results) n) (results ++ d ∷ [])
changed_one {X} {D} R old mid results m n d are at is = record {
  count = length-set mid (length results) n ∙ are.count;
  each = λ place x y e x_is y_is e_is. ⊎_elim
      (λ w. are.each place x y e x_is (sym (set_there mid (length results) place n (λ same. let lt = w.0 in let f : ⊥ = omega (arith, lt, same) in f)) ∙ y_is) w.1)
      (λ w.
      let here : slice_get (set mid (length results) n) (length results) ≡ Some n = set_here mid (length results) n (slice_get_within mid (length results) m at) in
      let y_here : slice_get (set mid (length results) n) (length results) ≡ Some y = subst (λ (k : ℕ). slice_get (set mid (length results) n) k ≡ Some y) w.0 y_is in
      let x_here : slice_get old (length results) ≡ Some x = subst (λ (k : ℕ). slice_get old k ≡ Some x) w.0 x_is in
      let m_old : slice_get old (length results) ≡ Some m = sym (are.rest (length results) (omega arith)) ∙ at in
      let a : m ≡ x = same_at old (length results) m x m_old x_here in
      let b : n ≡ y = same_at (set mid (length results) n) (length results) n y here y_here in
      subst (λ (k : ℕ). R k x y e) (sym w.0)
      (subst (λ (z : D). R (length results) x y z) w.1
      (subst (λ (z : X). R (length results) x z d) b
      (subst (λ (z : X). R (length results) z n d) a is))))
      (push_cases results d place e e_is);
  rest = λ place le.
      let more : length (results ++ d ∷ []) ≡ length results + 1 = length-append results (d ∷ []) in
      set_there mid (length results) place n (λ same. let f : ⊥ = omega (arith, le, more, same) in f) ∙ are.rest place (omega (arith, le, more));
}

pub take_more_at : {X : Type 0} (xs : List X) (k : ℕ) (x : X) → slice_get xs k ≡ Some x → take (suc k) xs ≡ take k xs ++ x ∷ []
take_more_at [] k x is = absurd (nowhere k x is)
take_more_at (y ∷ ys) zero x is = ap (λ l. y ∷ l) (take_zero ys) ∙ ap (λ z. z ∷ []) (same_thing y x is)
take_more_at (y ∷ ys) (suc k) x is = ap (λ l. y ∷ l) (take_more_at ys k x is)

-- ---- two lists side by side

zip_places : {X Y : Type 0} (xs : List X) (ys : List Y) (k : ℕ) (x : X) (y : Y) → slice_get (zip xs ys) k ≡ Some (x, y) → (slice_get xs k ≡ Some x) × (slice_get ys k ≡ Some y)
zip_places [] ys k x y is = absurd (nowhere k (x, y) is)
zip_places (a ∷ xs) [] k x y is = absurd (nowhere k (x, y) is)
zip_places {X} {Y} (a ∷ xs) (b ∷ ys) zero x y is =
    let same = same_thing (a, b) (x, y) is in
    (ap (λ (p : X × Y). Some p.0) same, ap (λ (p : X × Y). Some p.1) same)
zip_places (a ∷ xs) (b ∷ ys) (suc k) x y is = zip_places xs ys k x y is

-- the items of this turn of a loop over two lists
pub both_at : {X Y : Type 0} (xs : List X) (ys : List Y) (k : ℕ) (x : X) (y : Y) → k < length (zip xs ys) → ◌≡◌ {A = X × Y} (x, y) (get_or (zip xs ys) k (x, y)) → (slice_get xs k ≡ Some x) × (slice_get ys k ≡ Some y)
both_at xs ys k x y lt is = zip_places xs ys k x y (read_at (zip xs ys) k (x, y) lt is)

pub seconds_of : {X Y : Type 0} (ps : List (X × Y)) → map (λ (p : X × Y). p.1) (map (λ (p : X × Y). (p.0, p.1)) ps) ≡ map (λ (p : X × Y). p.1) ps
seconds_of [] = refl
seconds_of {X} {Y} (p ∷ ps) = ap (λ l. p.1 ∷ l) (seconds_of ps)
