-- What queries come to in a visible tree, one after another.
use Rattle.std.proofs.Common.{◌≡◌, ◌∙◌, sym, ap, subst, ℕ, ◌+◌, ◌<◌, ◌≤◌, ◌⊎◌, inl, inr, List, [], ◌∷◌, ◌++◌, length, take, get_or, slice_get, Some, arith}
use Rattle.std.proofs.lemmas.List.{length-append, take_more, take_all}
use Rattle.ts_base.proofs.PlaceLemmas.{push_cases}

module _ {X : Type 0} (P : ℕ → X → Type 0) where
  -- at the place of each number stands what belongs to it
  pub record Belong (numbers : List ℕ) (results : List X) : Type 0 where
    pub count : length results ≡ length numbers
    pub each : (place number : ℕ) (result : X) → slice_get numbers place ≡ Some number → slice_get results place ≡ Some result → P number result

  one_more : (numbers : List ℕ) (results : List X) (n : ℕ) (r : X) → Belong numbers results → P n r → Belong (numbers ++ n ∷ []) (results ++ r ∷ [])
  one_more numbers results n r belong found = record {
    count = length-append results (r ∷ []) ∙ ap (λ (k : ℕ). k + 1) belong.count ∙ sym (length-append numbers (n ∷ []));
    each = λ place number result number_is result_is. by place number result (push_cases numbers n place number number_is) (push_cases results r place result result_is);
  }
    where
      by : (place number : ℕ) (result : X)
          → ((place < length numbers) × (slice_get numbers place ≡ Some number)) ⊎ ((place ≡ length numbers) × (n ≡ number))
          → ((place < length results) × (slice_get results place ≡ Some result)) ⊎ ((place ≡ length results) × (r ≡ result))
          → P number result
      by place number result (inl a) (inl b) = belong.each place number result a.1 b.1
      by place number result (inl a) (inr b) = absurd (let f : ⊥ = omega (arith, a.0, b.0, belong.count) in f)
      by place number result (inr a) (inl b) = absurd (let f : ⊥ = omega (arith, a.0, b.0, belong.count) in f)
      by place number result (inr a) (inr b) = subst (λ (k : ℕ). P k result) a.1 (subst (P n) b.1 found)

  -- a turn of the loop over the numbers
  pub next_found : (numbers : List ℕ) (i d : ℕ) (results new : List X) (r : X) → i < length numbers
      → Belong (take i numbers) results → P (get_or numbers i d) r → new ≡ results ++ r ∷ [] → Belong (take (i + 1) numbers) new
  next_found numbers i d results new r within belong found new_is =
      subst (λ (ns : List ℕ). Belong ns new) (sym (take_more numbers i d within))
      (subst (Belong (take i numbers ++ get_or numbers i d ∷ [])) (sym new_is) (one_more (take i numbers) results (get_or numbers i d) r belong found))

  -- behind the last number
  pub all_found : (numbers : List ℕ) (i : ℕ) (results : List X) → length numbers ≤ i → Belong (take i numbers) results → Belong numbers results
  all_found numbers i results past belong = subst (λ (ns : List ℕ). Belong ns results) (take_all i numbers past) belong
