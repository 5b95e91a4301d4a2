-- Elements of a list by their places.
use Rattle.std.proofs.Common.{◌≡◌, ◌∙◌, sym, ap, refl, ℕ, zero, suc, ◌+◌, ◌<◌, ◌≤◌, ◌⊎◌, inl, inr, ⊎_elim, List, [], ◌∷◌, ◌++◌, length, map, get_or, take, drop, set, slice_get, Some, None, arith}
use Rattle.std.specs.List.{Contains}
use Rattle.std.proofs.lemmas.Bool.{cases_lt}
use Rattle.std.proofs.lemmas.List.{take_all, drop_all, append-nil}
use Rattle.std.proofs.lemmas.Option.{slice_get_within, slice_get-get_or, get_or_from_slice_get}

pub cases_lt_or_eq : (m n : ℕ) → m < n + 1 → (m < n) ⊎ (m ≡ n)
cases_lt_or_eq m n h = ⊎_elim (λ lt. inl lt) (λ ge. inr (omega arith)) (cases_lt m n)

-- an element of the front of a list
pub at_front : {X : Type 0} (xs ys : List X) (k : ℕ) → k < length xs → slice_get (xs ++ ys) k ≡ slice_get xs k
at_front [] ys k h = absurd (omega arith)
at_front (x ∷ xs) ys zero h = refl
at_front (x ∷ xs) ys (suc k) h = at_front xs ys k (omega arith)

-- an element behind a list
pub at_back : {X : Type 0} (xs ys : List X) (k n : ℕ) → n ≡ length xs + k → slice_get (xs ++ ys) n ≡ slice_get ys k
at_back {X} [] ys k n e = let same : n ≡ k = omega (arith, e) in ap (λ (m : ℕ). slice_get ys m) same
at_back (x ∷ xs) ys k zero e = absurd (omega (arith, e))
at_back (x ∷ xs) ys k (suc n) e = at_back xs ys k n (omega (arith, e))

-- what was read by a place
pub read_at : {X : Type 0} (xs : List X) (k : ℕ) (x : X) → k < length xs → x ≡ get_or xs k x → slice_get xs k ≡ Some x
read_at xs k x below is = slice_get-get_or xs k x below ∙ ap Some (sym is)

-- what stands at a place is in the list, and what is in the list stands at a place
pub there : {X : Type 0} (xs : List X) (k : ℕ) (x : X) → slice_get xs k ≡ Some x → Contains xs x
there xs k x h = (k, slice_get_within xs k x h, get_or_from_slice_get xs k x x h)

pub at_of : {X : Type 0} (xs : List X) (x : X) → (w : Contains xs x) → slice_get xs w.0 ≡ Some x
at_of xs x w = slice_get-get_or xs w.0 x w.1 ∙ ap Some w.2

-- one element stands at a place
pub one_at : {X : Type 0} (xs : List X) (k : ℕ) (x y : X) → slice_get xs k ≡ Some x → slice_get xs k ≡ Some y → x ≡ y
one_at xs k x y a b = let e : Some x ≡ Some y = sym a ∙ b in cc

pub none_in_nil : {X : Type 0} (x : X) → Contains [] x → ⊥
none_in_nil x (k, below, _) = omega arith

pub none_at_nil : {X : Type 0} (k : ℕ) (x : X) → slice_get [] k ≡ Some x → ⊥
none_at_nil k x at = none_in_nil x (there [] k x at)

pub get_set_same : {X : Type 0} (xs : List X) (i : ℕ) (x : X) → i < length xs → slice_get (set xs i x) i ≡ Some x
get_set_same [] i x h = absurd (omega arith)
get_set_same (y ∷ ys) zero x h = refl
get_set_same (y ∷ ys) (suc i) x h = get_set_same ys i x (omega arith)

pub get_set_other : {X : Type 0} (xs : List X) (i j : ℕ) (x : X) → (j ≡ i → ⊥) → slice_get (set xs i x) j ≡ slice_get xs j
get_set_other [] i j x f = refl
get_set_other (y ∷ ys) zero zero x f = absurd (f refl)
get_set_other (y ∷ ys) zero (suc j) x f = refl
get_set_other (y ∷ ys) (suc i) zero x f = refl
get_set_other (y ∷ ys) (suc i) (suc j) x f = get_set_other ys i j x (λ e. f (ap suc e))

-- an element of a list with one more at its end
pub snoc_at : {X : Type 0} (xs : List X) (x y : X) (k : ℕ) → slice_get (xs ++ x ∷ []) k ≡ Some y → (slice_get xs k ≡ Some y) ⊎ ((k ≡ length xs) × (x ≡ y))
snoc_at [] x y zero h = inr (refl, (let e : Some x ≡ Some y = h in cc))
snoc_at [] x y (suc k) h = absurd (let e : None ≡ Some y = h in cc)
snoc_at (z ∷ xs) x y zero h = inl h
snoc_at (z ∷ xs) x y (suc k) h = ⊎_elim (λ w. inl w) (λ w. inr (ap suc w.0, w.1)) (snoc_at xs x y k h)

pub at_snoc : {X : Type 0} (xs : List X) (x : X) → slice_get (xs ++ x ∷ []) (length xs) ≡ Some x
at_snoc [] x = refl
at_snoc (y ∷ xs) x = at_snoc xs x

pub map_append : {X Y : Type 0} (f : X → Y) (xs ys : List X) → map f (xs ++ ys) ≡ map f xs ++ map f ys
map_append f [] ys = refl
map_append f (x ∷ xs) ys = ap (λ (l : List _). f x ∷ l) (map_append f xs ys)

-- an element that stays where the list grows at its end
pub at_grown : {X : Type 0} (old new more : List X) (n : ℕ) (s : X) → new ≡ old ++ more → slice_get old n ≡ Some s → slice_get new n ≡ Some s
at_grown {X} old new more n s is at = ap (λ (l : List X). slice_get l n) is ∙ at_front old more n (slice_get_within old n s at) ∙ at

pub head_is : {X : Type 0} (x y : X) (xs ys : List X) → x ∷ xs ≡ y ∷ ys → x ≡ y
head_is x y xs ys e = let f : Some x ≡ Some y = ap (λ (l : List _). slice_get l 0) e in cc

pub tail_is : {X : Type 0} (x y : X) (xs ys : List X) → x ∷ xs ≡ y ∷ ys → xs ≡ ys
tail_is {X} x y xs ys e = ap tail e
  where
    tail : List X → List X
    tail [] = []
    tail (z ∷ zs) = zs

pub append_at : {X : Type 0} (xs ys : List X) (n : ℕ) (x : X) → slice_get (xs ++ ys) n ≡ Some x → (slice_get xs n ≡ Some x) ⊎ ((m : ℕ) × (slice_get ys m ≡ Some x))
append_at [] ys n x h = inr (n, h)
append_at (z ∷ xs) ys zero x h = inl h
append_at (z ∷ xs) ys (suc n) x h = append_at xs ys n x h

-- a vector after what was written through a slice of it
pub written : {X : Type 0} (items now new : List X) (len : ℕ) → now ≡ items → length now ≡ len → length new ≡ length now → take len (new ++ drop (length new) items) ≡ new
written {X} items now new len same size count =
    let past : length items ≤ length new = let e = ap (λ (l : List X). length l) same in omega (arith, e, count) in
    ap (λ (l : List X). take len (new ++ l)) (drop_all (length new) items past) ∙ ap (take len) (append-nil new) ∙ take_all len new (omega (arith, size, count))

pub some_at : {X : Type 0} (xs : List X) (k : ℕ) → k < length xs → (x : X) × (slice_get xs k ≡ Some x)
some_at [] k h = absurd (omega arith)
some_at (x ∷ xs) zero h = (x, refl)
some_at (x ∷ xs) (suc k) h = some_at xs k (omega (arith, h))
