-- How lists compare, piece by piece.
use Rattle.std.proofs.Common.{◌≡◌, ◌↔◌, ℕ, ◌<◌, ap, sym, ◌∙◌, refl, subst, arith, true, false, List, [], ◌∷◌, ◌++◌, append_assoc, ◌⊎◌, inl, inr}
use Rattle.std.proofs.lemmas.List.{append-nil}
use Rattle.std.specs.declared.cmp.Ordering.{Ordering}
use Rattle.std.specs.declared.cmp.Ordering.TheVariants.{Less, Equal, Greater}
use Rattle.std.specs.Ordering.{nat_cmp, ordering_then, is_ne}
use Rattle.std.specs.Cmp.Lexicographic.{slice_cmp}
use Rattle.spec_trees.specs.Choice.{ComesBefore}
use Rattle.ts_order.specs.Compared.{Compares}

-- ---- pieces one after another

pub none : Compares Equal [] []
none after others = refl

pub one : (x y : ℕ) → Compares (nat_cmp x y) (x ∷ []) (y ∷ [])
one x y after others = refl

then_assoc : (r s t : Ordering) → ordering_then r (ordering_then s t) ≡ ordering_then (ordering_then r s) t
then_assoc Less s t = refl
then_assoc Equal s t = refl
then_assoc Greater s t = refl

pub join : (r s : Ordering) (xs ys us vs : List ℕ) → Compares r xs ys → Compares s us vs → Compares (ordering_then r s) (xs ++ us) (ys ++ vs)
join r s xs ys us vs h k after others =
    ap (λ (l : List ℕ). slice_cmp nat_cmp l ((ys ++ vs) ++ others)) (append_assoc xs us after)
    ∙ ap (λ (l : List ℕ). slice_cmp nat_cmp (xs ++ (us ++ after)) l) (append_assoc ys vs others)
    ∙ h (us ++ after) (vs ++ others)
    ∙ ap (ordering_then r) (k after others)
    ∙ then_assoc r s (slice_cmp nat_cmp after others)

settled : (r t : Ordering) → is_ne r ≡ true → ordering_then r t ≡ r
settled Less t ne = refl
settled Equal t ne = cc
settled Greater t ne = refl

-- where two pieces differ, what follows them says nothing
pub stop : (r : Ordering) (xs ys us vs : List ℕ) → is_ne r ≡ true → Compares r xs ys → Compares r (xs ++ us) (ys ++ vs)
stop r xs ys us vs ne h after others =
    ap (λ (l : List ℕ). slice_cmp nat_cmp l ((ys ++ vs) ++ others)) (append_assoc xs us after)
    ∙ ap (λ (l : List ℕ). slice_cmp nat_cmp (xs ++ (us ++ after)) l) (append_assoc ys vs others)
    ∙ h (us ++ after) (vs ++ others)
    ∙ settled r (slice_cmp nat_cmp (us ++ after) (vs ++ others)) ne
    ∙ sym (settled r (slice_cmp nat_cmp after others) ne)

pub equal_is : (r : Ordering) → is_ne r ≡ false → r ≡ Equal
equal_is Less ne = cc
equal_is Equal ne = refl
equal_is Greater ne = cc

-- where two pieces are equal, what follows them says all
pub go_on : (r s : Ordering) (xs ys us vs : List ℕ) → is_ne r ≡ false → Compares r xs ys → Compares s us vs → Compares s (xs ++ us) (ys ++ vs)
go_on r s xs ys us vs ne h k =
    let e : r ≡ Equal = equal_is r ne in
    subst (λ (o : Ordering). Compares (ordering_then o s) (xs ++ us) (ys ++ vs)) e (join r s xs ys us vs h k)

-- ---- two numbers

pub equal_numbers : (x y : ℕ) → nat_cmp x y ≡ Equal → x ≡ y
equal_numbers x y e = grind arith

-- ---- the order of lists

less_then : (x y : ℕ) (o : Ordering) → ordering_then (nat_cmp x y) o ≡ Less ↔ (x < y) ⊎ ((x ≡ y) × (o ≡ Less))
less_then x y o = grind arith

pub before_is : (xs ys : List ℕ) → slice_cmp nat_cmp xs ys ≡ Less ↔ ComesBefore xs ys
before_is [] [] = (λ e. cc, λ f. elim f [ ])
before_is [] (y ∷ ys) = (λ e. tt, λ u. refl)
before_is (x ∷ xs) [] = (λ e. cc, λ f. elim f [ ])
before_is (x ∷ xs) (y ∷ ys) =
    let l = less_then x y (slice_cmp nat_cmp xs ys) in
    let m = before_is xs ys in
    (λ e. later (m.0) (l.0 e), λ b. l.1 (later (m.1) b))
  where
    later : {A B C D : Type 0} → (C → D) → A ⊎ (B × C) → A ⊎ (B × D)
    later f (inl a) = inl a
    later f (inr (b, c)) = inr (b, f c)

pub whole : (r : Ordering) (xs ys : List ℕ) → Compares r xs ys → slice_cmp nat_cmp xs ys ≡ r
whole r xs ys h =
    sym (ap (λ (l : List ℕ). slice_cmp nat_cmp l ys) (append-nil xs))
    ∙ sym (ap (λ (l : List ℕ). slice_cmp nat_cmp (xs ++ []) l) (append-nil ys))
    ∙ h [] []
    ∙ then_equal r
  where
    then_equal : (o : Ordering) → ordering_then o Equal ≡ o
    then_equal Less = refl
    then_equal Equal = refl
    then_equal Greater = refl
