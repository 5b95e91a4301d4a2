-- What holds of each element of a list, or of some one.
use Rattle.std.proofs.Common.{◌≡◌, subst, refl, ℕ, ◌<◌, zero, suc, List, [], ◌∷◌, ◌++◌, length, get_or, ◌⊎◌, inl, inr, ⊎_elim, arith}
use Rattle.std.specs.List.{Contains}
use Rattle.ts_glr.specs.Lists.{OfEach, Any}

module _ {X : Type 0} where
  pub each_append : (P : X → Type 0) (xs ys : List X) → OfEach P xs → OfEach P ys → OfEach P (xs ++ ys)
  each_append P [] ys a b = b
  each_append P (x ∷ xs) ys a b = (a.0, each_append P xs ys a.1 b)

  pub each_map : (P Q : X → Type 0) (xs : List X) → ((x : X) → P x → Q x) → OfEach P xs → OfEach Q xs
  each_map P Q [] f a = tt
  each_map P Q (x ∷ xs) f a = (f x a.0, each_map P Q xs f a.1)

  pub each_both : (P Q R : X → Type 0) (xs : List X) → ((x : X) → P x → Q x → R x) → OfEach P xs → OfEach Q xs → OfEach R xs
  each_both P Q R [] f a b = tt
  each_both P Q R (x ∷ xs) f a b = (f x a.0 b.0, each_both P Q R xs f a.1 b.1)

  pub each_left : (P : X → Type 0) (xs ys : List X) → OfEach P (xs ++ ys) → OfEach P xs
  each_left P [] ys a = tt
  each_left P (x ∷ xs) ys a = (a.0, each_left P xs ys a.1)

  pub each_right : (P : X → Type 0) (xs ys : List X) → OfEach P (xs ++ ys) → OfEach P ys
  each_right P [] ys a = a
  each_right P (x ∷ xs) ys a = each_right P xs ys a.1

  pub any_left : (P : X → Type 0) (xs ys : List X) → Any P xs → Any P (xs ++ ys)
  any_left P [] ys a = absurd a
  any_left P (x ∷ xs) ys (inl a) = inl a
  any_left P (x ∷ xs) ys (inr a) = inr (any_left P xs ys a)

  pub any_right : (P : X → Type 0) (xs ys : List X) → Any P ys → Any P (xs ++ ys)
  any_right P [] ys a = a
  any_right P (x ∷ xs) ys a = inr (any_right P xs ys a)

  pub any_cases : (P : X → Type 0) (xs ys : List X) → Any P (xs ++ ys) → Any P xs ⊎ Any P ys
  any_cases P [] ys a = inr a
  any_cases P (x ∷ xs) ys (inl a) = inl (inl a)
  any_cases P (x ∷ xs) ys (inr a) = ⊎_elim (λ b. inl (inr b)) (λ b. inr b) (any_cases P xs ys a)

  pub any_map : (P Q : X → Type 0) (xs : List X) → ((x : X) → P x → Q x) → Any P xs → Any Q xs
  any_map P Q [] f a = absurd a
  any_map P Q (x ∷ xs) f (inl a) = inl (f x a)
  any_map P Q (x ∷ xs) f (inr a) = inr (any_map P Q xs f a)

  -- where it holds of each, what holds of some one holds beside it
  pub any_both : (P Q R : X → Type 0) (xs : List X) → ((x : X) → P x → Q x → R x) → OfEach P xs → Any Q xs → Any R xs
  any_both P Q R [] f a b = absurd b
  any_both P Q R (x ∷ xs) f a (inl b) = inl (f x a.0 b)
  any_both P Q R (x ∷ xs) f a (inr b) = inr (any_both P Q R xs f a.1 b)

  pub each_at : (P : X → Type 0) (xs : List X) (x : X) → OfEach P xs → Contains xs x → P x
  each_at P xs x a w = go P xs x w.0 a w.1 w.2
    where
      go : (P : X → Type 0) (xs : List X) (x : X) (k : ℕ) → OfEach P xs → k < length xs → get_or xs k x ≡ x → P x
      go P [] x k a lt is = absurd (omega arith)
      go P (y ∷ xs) x zero a lt is = subst P is a.0
      go P (y ∷ xs) x (suc k) a lt is = go P xs x k a.1 (omega arith) is

  pub any_to : (P : X → Type 0) (Q : Type 0) (xs : List X) → ((x : X) → Contains xs x → P x → Q) → Any P xs → Q
  any_to P Q [] f a = absurd a
  any_to P Q (x ∷ xs) f (inl a) = f x (0, (omega arith), refl) a
  any_to P Q (x ∷ xs) f (inr a) = any_to P Q xs (λ y w p. f y (suc w.0, (let lt : w.0 < length xs = w.1 in omega arith), w.2) p) a
