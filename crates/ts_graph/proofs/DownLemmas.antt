-- The links that lead down from a head: which they are, and what one more link changes.
use Rattle.std.proofs.Common.{◌≡◌, ◌∙◌, sym, ap, refl, subst, ℕ, zero, suc, ◌+◌, ◌<◌, ◌≤◌, ◌⊎◌, inl, inr, Bool, true, false, List, [], ◌∷◌, ◌++◌, append-nil, append_assoc, length, take, map, slice_get, Option, Some, None, nat_eq, arith}
use Rattle.std.specs.Prelude.{if◌then◌else◌}
use Rattle.std.proofs.lemmas.Bool.{eq-eqb, eqb-true}
use Rattle.std.proofs.lemmas.List.{length-map, map-append, take-append-le, length-take-le, take_all}
use Rattle.std.proofs.lemmas.Option.{slice_get_within}
use Rattle.spec_graph.specs.declared.graph.Link.{Link}
use Rattle.ts_graph.specs.Down.{number_if, numbers_down, links_down, links_from}
use Rattle.ts_graph.proofs.ListLemmas.{Has, Apart, has_left, has_right, has_cases, mapped_at, at_mapped, apart_append}

-- ---- one number

number_none : (h n above : ℕ) → (above ≡ h → ⊥) → number_if h n above ≡ []
number_none h n above other = by (nat_eq above h) refl
  where
    by : (b : Bool) → nat_eq above h ≡ b → (if b then n ∷ [] else []) ≡ []
    by true e = absurd (other (eqb-true above h e))
    by false e = refl

number_one : (h n above : ℕ) → above ≡ h → number_if h n above ≡ n ∷ []
number_one h n above is = ap (λ (b : Bool). if b then n ∷ [] else []) (eq-eqb above h is)

number_has : (h n above k : ℕ) → Has (number_if h n above) k → (above ≡ h) × (n ≡ k)
number_has h n above k w = by (nat_eq above h) refl w
  where
    by : (b : Bool) → nat_eq above h ≡ b → Has (if b then n ∷ [] else []) k → (above ≡ h) × (n ≡ k)
    by true e (inl f) = (eqb-true above h e, f)
    by true e (inr f) = absurd f
    by false e f = absurd f

-- ---- which they are

numbers_has : (h n : ℕ) (ms : List ℕ) (k : ℕ) → Has (numbers_down h n ms) k → (j : ℕ) × (k ≡ n + j) × (slice_get ms j ≡ Some h)
numbers_has h n [] k w = absurd w
numbers_has h n (a ∷ ms) k w =
    by (has_cases (numbers_down h (n + 1) ms) (number_if h n a) k w)
    (λ v. let r = numbers_has h (n + 1) ms k v in (suc r.0, (let e = r.1 in omega arith), r.2))
  where
    by : Has (numbers_down h (n + 1) ms) k ⊎ Has (number_if h n a) k → (Has (numbers_down h (n + 1) ms) k → (j : ℕ) × (k ≡ n + j) × (slice_get (a ∷ ms) j ≡ Some h)) → (j : ℕ) × (k ≡ n + j) × (slice_get (a ∷ ms) j ≡ Some h)
    by (inl v) rest = rest v
    by (inr v) rest = let r = number_has h n a k v in (0, (let e = r.1 in omega arith), ap (λ (m : ℕ). Some m) r.0)

numbers_are : (h n : ℕ) (ms : List ℕ) (j : ℕ) → slice_get ms j ≡ Some h → Has (numbers_down h n ms) (n + j)
numbers_are h n [] j e = absurd (let f : None ≡ Some h = e in cc)
numbers_are h n (a ∷ ms) zero e =
    let f : Some a ≡ Some h = e in
    let is : a ≡ h = cc in
    has_right (numbers_down h (n + 1) ms) (number_if h n a) (n + 0)
    (subst (λ (xs : List ℕ). Has xs (n + 0)) (sym (number_one h n a is)) (inl (omega arith)))
numbers_are h n (a ∷ ms) (suc j) e =
    has_left (numbers_down h (n + 1) ms) (number_if h n a) (n + suc j)
    (let there : (n + 1) + j ≡ n + suc j = omega arith in subst (λ (m : ℕ). Has (numbers_down h (n + 1) ms) m) there (numbers_are h (n + 1) ms j e))

-- the heads above links
abbrev pub aboves : List Link → List ℕ
aboves links = map (λ (l : Link). l.above) links

-- a link among them leads down from the head
pub down_has : (links : List Link) (h k : ℕ) → Has (links_down links h) k → (l : Link) × (slice_get links k ≡ Some l) × (l.above ≡ h)
down_has links h k w =
    let r = numbers_has h 0 (aboves links) k w in
    let same : r.0 ≡ k = let e = r.1 in omega arith in
    let s = mapped_at (λ (l : Link). l.above) links r.0 h r.2 in
    (s.0, subst (λ (n : ℕ). slice_get links n ≡ Some s.0) same s.1, s.2)

-- and each that does is among them
pub down_is : (links : List Link) (h k : ℕ) (l : Link) → slice_get links k ≡ Some l → l.above ≡ h → Has (links_down links h) k
down_is links h k l at is =
    let same : 0 + k ≡ k = omega arith in
    subst (λ (n : ℕ). Has (links_down links h) n) same
    (numbers_are h 0 (aboves links) k (at_mapped (λ (m : Link). m.above) links k l at ∙ ap (λ (m : ℕ). Some m) is))

pub down_within : (links : List Link) (h k : ℕ) → Has (links_down links h) k → k < length links
down_within links h k w = let r = down_has links h k w in slice_get_within links k r.0 r.1

pub down_none : (links : List Link) (h : ℕ) → ((k : ℕ) (l : Link) → slice_get links k ≡ Some l → l.above ≡ h → ⊥) → links_down links h ≡ []
down_none links h none = by (links_down links h) refl
  where
    by : (ks : List ℕ) → links_down links h ≡ ks → links_down links h ≡ []
    by [] e = e
    by (k ∷ ks) e =
        absurd (let r = down_has links h k (subst (λ (xs : List ℕ). Has xs k) (sym e) (inl refl)) in none k r.0 r.1 r.2)

numbers_apart : (h n : ℕ) (ms : List ℕ) → Apart (numbers_down h n ms)
numbers_apart h n [] = tt
numbers_apart h n (a ∷ ms) =
    apart_append (numbers_down h (n + 1) ms) (number_if h n a) (numbers_apart h (n + 1) ms) (one (nat_eq a h))
    (λ k v w. let r = numbers_has h (n + 1) ms k v in let s = number_has h n a k w in let e = r.1 in let f = s.1 in absurd (omega arith))
  where
    one : (b : Bool) → Apart (if b then n ∷ [] else [])
    one true = (λ w. w, tt)
    one false = tt

pub down_apart : (links : List Link) (h : ℕ) → Apart (links_down links h)
down_apart links h = numbers_apart h 0 (aboves links)

-- ---- one more link

numbers_push : (h n : ℕ) (ms : List ℕ) (a : ℕ) → numbers_down h n (ms ++ a ∷ []) ≡ number_if h (n + length ms) a ++ numbers_down h n ms
numbers_push h n [] a = let there : n ≡ n + 0 = omega arith in ap (λ (m : ℕ). number_if h m a) there ∙ sym (append-nil (number_if h (n + 0) a))
numbers_push h n (b ∷ ms) a =
    let there : (n + 1) + length ms ≡ n + suc (length ms) = omega arith in
    ap (λ (xs : List ℕ). xs ++ number_if h n b) (numbers_push h (n + 1) ms a)
    ∙ append_assoc (number_if h ((n + 1) + length ms) a) (numbers_down h (n + 1) ms) (number_if h n b)
    ∙ ap (λ (m : ℕ). number_if h m a ++ (numbers_down h (n + 1) ms ++ number_if h n b)) there

down_push : (links : List Link) (l : Link) (h : ℕ) → links_down (links ++ l ∷ []) h ≡ number_if h (length links) l.above ++ links_down links h
down_push links l h =
    let many = length-map links (λ (m : Link). m.above) in
    let count : 0 + length (aboves links) ≡ length links = omega arith in
    ap (λ (xs : List ℕ). numbers_down h 0 xs) (map-append (λ (m : Link). m.above) links (l ∷ []))
    ∙ numbers_push h 0 (aboves links) l.above
    ∙ ap (λ (n : ℕ). number_if h n l.above ++ links_down links h) count

-- one more link that leads down from the head comes first
pub down_more : (links : List Link) (l : Link) (h : ℕ) → l.above ≡ h → links_down (links ++ l ∷ []) h ≡ length links ∷ links_down links h
down_more links l h is = down_push links l h ∙ ap (λ (xs : List ℕ). xs ++ links_down links h) (number_one h (length links) l.above is)

-- and any other changes nothing
pub down_other : (links : List Link) (l : Link) (h : ℕ) → (l.above ≡ h → ⊥) → links_down (links ++ l ∷ []) h ≡ links_down links h
down_other links l h other = down_push links l h ∙ ap (λ (xs : List ℕ). xs ++ links_down links h) (number_none h (length links) l.above other)

-- what comes after a link is as before
pub from_push : (links : List Link) (l : Link) (h : ℕ) (o : Option ℕ) (m : ℕ) → links_from links h o ≡ links_down (take m links) h → m ≤ length links → links_from (links ++ l ∷ []) h o ≡ links_down (take m links) h
from_push links l h None m e low = e
from_push links l h (Some j) m e low =
    let there : Has (links_down (take m links) h) j = subst (λ (xs : List ℕ). Has xs j) e (inl refl) in
    let within : j < length (take m links) = down_within (take m links) h j there in
    let count : length (take m links) ≡ m = length-take-le m links low in
    ap (λ (xs : List Link). j ∷ links_down xs h) (take-append-le j links (l ∷ []) (omega arith)) ∙ e

pub from_push_all : (links : List Link) (l : Link) (h : ℕ) (o : Option ℕ) → links_from links h o ≡ links_down links h → links_from (links ++ l ∷ []) h o ≡ links_down links h
from_push_all links l h o e =
    let all : take (length links) links ≡ links = take_all (length links) links (omega arith) in
    from_push links l h o (length links) (e ∙ ap (λ (xs : List Link). links_down xs h) (sym all)) (omega arith)
    ∙ ap (λ (xs : List Link). links_down xs h) all

-- ---- other links between the same heads

aboves_take : (n : ℕ) (links : List Link) → aboves (take n links) ≡ take n (aboves links)
aboves_take zero links = refl
aboves_take (suc n) [] = refl
aboves_take (suc n) (l ∷ links) = ap (λ (ms : List ℕ). l.above ∷ ms) (aboves_take n links)

pub down_same : (links news : List Link) (h n : ℕ) → aboves news ≡ aboves links → links_down (take n news) h ≡ links_down (take n links) h
down_same links news h n same =
    ap (λ (xs : List ℕ). numbers_down h 0 xs)
    (aboves_take n news ∙ ap (λ (ms : List ℕ). take n ms) same ∙ sym (aboves_take n links))

pub from_same : (links news : List Link) (h : ℕ) (o : Option ℕ) → aboves news ≡ aboves links → links_from news h o ≡ links_from links h o
from_same links news h None same = refl
from_same links news h (Some k) same = ap (λ (xs : List ℕ). k ∷ xs) (down_same links news h k same)
