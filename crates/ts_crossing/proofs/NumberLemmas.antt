-- The numbers of the links that lead down from a head.
use Rattle.std.proofs.Common.{◌≡◌, ◌∙◌, sym, ap, refl, subst, ℕ, zero, suc, ◌+◌, ◌<◌, ◌⊎◌, inl, inr, Bool, true, false, List, [], ◌∷◌, ◌++◌, length, map, slice_get, Some, None, nat_eq, arith}
use Rattle.std.specs.Prelude.{if◌then◌else◌}
use Rattle.std.proofs.lemmas.Bool.{eq-eqb, eqb-true}
use Rattle.std.proofs.lemmas.Option.{slice_get_within}
use Rattle.spec_graph.specs.declared.graph.Link.{Link}
use Rattle.ts_graph.specs.Down.{number_if, numbers_down, links_down, links_from}

module _ {X : Type 0} where
  abbrev pub Has : List X → X → Type 0
  Has [] x = ⊥
  Has (y ∷ ys) x = (y ≡ x) ⊎ Has ys x

  pub has_left : (xs ys : List X) (x : X) → Has xs x → Has (xs ++ ys) x
  has_left [] ys x h = absurd h
  has_left (z ∷ xs) ys x (inl e) = inl e
  has_left (z ∷ xs) ys x (inr h) = inr (has_left xs ys x h)

  pub has_right : (xs ys : List X) (x : X) → Has ys x → Has (xs ++ ys) x
  has_right [] ys x h = h
  has_right (z ∷ xs) ys x h = inr (has_right xs ys x h)

  pub has_cases : (xs ys : List X) (x : X) → Has (xs ++ ys) x → Has xs x ⊎ Has ys x
  has_cases [] ys x h = inr h
  has_cases (z ∷ xs) ys x (inl e) = inl (inl e)
  has_cases (z ∷ xs) ys x (inr h) = by (has_cases xs ys x h)
    where
      by : Has xs x ⊎ Has ys x → Has (z ∷ xs) x ⊎ Has ys x
      by (inl w) = inl (inr w)
      by (inr w) = inr w

module _ {X Y : Type 0} where
  pub mapped_at : (f : X → Y) (xs : List X) (k : ℕ) (y : Y) → slice_get (map f xs) k ≡ Some y → (x : X) × (slice_get xs k ≡ Some x) × (f x ≡ y)
  mapped_at f [] k y e = absurd (let g : None ≡ Some y = e in cc)
  mapped_at f (x ∷ xs) zero y e = (x, refl, (let g : Some (f x) ≡ Some y = e in cc))
  mapped_at f (x ∷ xs) (suc k) y e = mapped_at f xs k y e

  pub at_mapped : (f : X → Y) (xs : List X) (k : ℕ) (x : X) → slice_get xs k ≡ Some x → slice_get (map f xs) k ≡ Some (f x)
  at_mapped f [] k x e = absurd (let g : None ≡ Some x = e in cc)
  at_mapped f (y ∷ xs) zero x e = let g : Some y ≡ Some x = e in let same : y ≡ x = cc in ap (λ (z : X). Some (f z)) same
  at_mapped f (y ∷ xs) (suc k) x e = at_mapped f xs k x e

number_one : (h n above : ℕ) → above ≡ h → number_if h n above ≡ n ∷ []
number_one h n above is = ap (λ (b : Bool). if b then n ∷ [] else []) (eq-eqb above h is)

number_has : (h n above k : ℕ) → Has (number_if h n above) k → (above ≡ h) × (n ≡ k)
number_has h n above k w = by (nat_eq above h) refl w
  where
    by : (b : Bool) → nat_eq above h ≡ b → Has (if b then n ∷ [] else []) k → (above ≡ h) × (n ≡ k)
    by true e (inl f) = (eqb-true above h e, f)
    by true e (inr f) = absurd f
    by false e f = absurd f

numbers_has : (h n : ℕ) (ms : List ℕ) (k : ℕ) → Has (numbers_down h n ms) k → (j : ℕ) × (k ≡ n + j) × (slice_get ms j ≡ Some h)
numbers_has h n [] k w = absurd w
numbers_has h n (a ∷ ms) k w =
    by (has_cases (numbers_down h (n + 1) ms) (number_if h n a) k w)
    (λ v. let r = numbers_has h (n + 1) ms k v in (suc r.0, (let e = r.1 in omega arith), r.2))
  where
    by : Has (numbers_down h (n + 1) ms) k ⊎ Has (number_if h n a) k → (Has (numbers_down h (n + 1) ms) k → (j : ℕ) × (k ≡ n + j) × (slice_get (a ∷ ms) j ≡ Some h)) → (j : ℕ) × (k ≡ n + j) × (slice_get (a ∷ ms) j ≡ Some h)
    by (inl v) rest = rest v
    by (inr v) rest = let r = number_has h n a k v in (0, (let e = r.1 in omega arith), ap (λ (m : ℕ). Some m) r.0)

numbers_are : (h n : ℕ) (ms : List ℕ) (j : ℕ) → slice_get ms j ≡ Some h → Has (numbers_down h n ms) (n + j)
numbers_are h n [] j e = absurd (let f : None ≡ Some h = e in cc)
numbers_are h n (a ∷ ms) zero e =
    let f : Some a ≡ Some h = e in
    let is : a ≡ h = cc in
    has_right (numbers_down h (n + 1) ms) (number_if h n a) (n + 0)
    (subst (λ (xs : List ℕ). Has xs (n + 0)) (sym (number_one h n a is)) (inl (omega arith)))
numbers_are h n (a ∷ ms) (suc j) e =
    has_left (numbers_down h (n + 1) ms) (number_if h n a) (n + suc j)
    (let there : (n + 1) + j ≡ n + suc j = omega arith in subst (λ (m : ℕ). Has (numbers_down h (n + 1) ms) m) there (numbers_are h (n + 1) ms j e))

abbrev pub aboves : List Link → List ℕ
aboves links = map (λ (l : Link). l.above) links

pub down_has : (links : List Link) (h k : ℕ) → Has (links_down links h) k → (l : Link) × (slice_get links k ≡ Some l) × (l.above ≡ h)
down_has links h k w =
    let r = numbers_has h 0 (aboves links) k w in
    let same : r.0 ≡ k = let e = r.1 in omega arith in
    let s = mapped_at (λ (l : Link). l.above) links r.0 h r.2 in
    (s.0, subst (λ (n : ℕ). slice_get links n ≡ Some s.0) same s.1, s.2)

pub down_is : (links : List Link) (h k : ℕ) (l : Link) → slice_get links k ≡ Some l → l.above ≡ h → Has (links_down links h) k
down_is links h k l at is =
    let same : 0 + k ≡ k = omega arith in
    subst (λ (n : ℕ). Has (links_down links h) n) same
    (numbers_are h 0 (aboves links) k (at_mapped (λ (m : Link). m.above) links k l at ∙ ap (λ (m : ℕ). Some m) is))

pub down_within : (links : List Link) (h k : ℕ) → Has (links_down links h) k → k < length links
down_within links h k w = let r = down_has links h k w in slice_get_within links k r.0 r.1

-- the first of them
pub first_found : (links : List Link) (h k : ℕ) → links_from links h (Some k) ≡ links_down links h → (l : Link) × (slice_get links k ≡ Some l) × (l.above ≡ h)
first_found links h k is = down_has links h k (subst (λ (ks : List ℕ). Has ks k) is (inl refl))
