-- Lists in which each value stands once: those of first sights, their lengths, and places in them.
use Rattle.std.proofs.Common.{◌≡◌, ◌∙◌, sym, ap, subst, refl, ℕ, zero, suc, ◌<◌, ◌≤◌, ⊎_elim, Bool, true, false, cond, nat_lt, List, [], ◌∷◌, ◌++◌, length, append_assoc, slice_get, get_or, Some, None, arith, position}
use Rattle.std.specs.List.{Contains, IsDistinct, AllByRecursion}
use Rattle.std.specs.Cmp.{IsEquivalence}
use Rattle.indexmap.specs.IndexSet.{insert_key}
use Rattle.indexmap.proofs.CallerLemmas.{Contains-list_any}
use Rattle.std.proofs.lemmas.Bool.{cases_lt, lt-ltb, le-ltb}
use Rattle.std.proofs.lemmas.List.{append-nil}
use Rattle.std.proofs.lemmas.List.Sums.{position_or_len_is}
use Rattle.std.proofs.lemmas.Map.Made.{length-le_from_is_member}
use Rattle.std.proofs.lemmas.Option.{slice_get_within, slice_get-get_or, get_or_from_slice_get}
use Rattle.ts_rules.specs.FirstSights.{Not, FirstAt, AreFirstSights}
use Rattle.ts_numbering.proofs.FirstSightLemmas.{there, at_of, any_at, sights_begin, sights_insert}

-- no value stands at two places
abbrev pub Apart : {X : Type 0} → List X → Type 0
Apart {X = X} xs = (j k : ℕ) (x : X) → j < k → slice_get xs j ≡ Some x → slice_get xs k ≡ Some x → ⊥

module _ {X : Type 0} where
  pub apart_tail : (x : X) (xs : List X) → Apart (x ∷ xs) → Apart xs
  apart_tail x xs h j k y lt e d = h (suc j) (suc k) y (omega arith) e d

  -- what was seen has a first place, as far as a contradiction asks
  some_first : (seen : List X) (x : X) → Contains seen x → ((j : ℕ) → FirstAt seen x j → ⊥) → ⊥
  some_first seen x w never = below (suc w.0) w.0 (omega arith) (at_of seen x w)
    where
      below : (n : ℕ) → (j : ℕ) → j < n → slice_get seen j ≡ Some x → ⊥
      below zero j lt e = omega arith
      below (suc n) j lt e = ⊎_elim
          (λ less. below n j less e)
          (λ ge. let h : j ≡ n = omega arith in
          never n (record {
            at = ap (slice_get seen) (sym h) ∙ e;
            least = λ i d. ⊎_elim (λ less. absurd (below n i less d)) (λ le. le) (cases_lt i n);
          }))
          (cases_lt j n)

  pub sights_apart : (seen found : List X) → AreFirstSights seen found → Apart found
  sights_apart seen found s j k x lt e d =
      some_first seen x (s.only x (there found j x e)) (λ a f. let h : a < a = s.rising j k a a x x lt e d f f in omega arith)

module _ {X : Type 0} (eq : X → X → Bool) (same : (x y : X) → eq x y ≡ true → x ≡ y) (laws : IsEquivalence eq) where
  differ : (x y : X) (b : Bool) → eq x y ≡ b → Not (x ≡ y) → eq x y ≡ false
  differ x y true e other = absurd (other (same x y e))
  differ x y false e other = e

  -- ---- lengths

  is_distinct : (xs : List X) → Apart xs → IsDistinct eq xs
  unfolding IsDistinct
  is_distinct [] h = tt
  is_distinct (x ∷ xs) h = (others xs (λ k y e f. h 0 (suc k) y (omega arith) (ap Some f) e), is_distinct xs (apart_tail x xs h))
    where
      others : (ys : List X) → ((k : ℕ) (y : X) → slice_get ys k ≡ Some y → Not (x ≡ y)) → AllByRecursion (λ (y : X). eq x y ≡ false) ys
      others [] g = tt
      others (y ∷ ys) g = (differ x y (eq x y) refl (g 0 y refl), others ys (λ k z e. g (suc k) z e))

  no_longer : (xs ys : List X) → Apart xs → ((x : X) → Contains xs x → Contains ys x) → length xs ≤ length ys
  no_longer xs ys h in_other =
      length-le_from_is_member laws xs ys (is_distinct xs h)
      (λ q e. let w = in_other q (Contains-list_any eq same xs q e) in any_at eq same laws.refl ys q w.0 (at_of ys q w))

  -- lists of the same first sights are equally long
  pub as_long : (seen xs ys : List X) → AreFirstSights seen xs → AreFirstSights seen ys → length xs ≡ length ys
  as_long seen xs ys s t =
      let low = no_longer xs ys (sights_apart seen xs s) (λ x w. t.every x (s.only x w)) in
      let high = no_longer ys xs (sights_apart seen ys t) (λ x w. s.every x (t.only x w)) in
      omega (arith, low, high)

  further : (seen rest found : List X) → AreFirstSights seen found → (all : List X) × AreFirstSights (seen ++ rest) all
  further seen [] found h = (found, subst (λ (xs : List X). AreFirstSights xs found) (sym (append-nil seen)) h)
  further seen (x ∷ rest) found h =
      let r = further (seen ++ x ∷ []) rest (insert_key eq found x) (sights_insert eq same laws.refl seen found x h) in
      (r.0, subst (λ (xs : List X). AreFirstSights xs r.0) (append_assoc seen (x ∷ []) rest) r.1)

  -- every list has its first sights
  pub some_sights : (seen : List X) → (found : List X) × AreFirstSights seen found
  some_sights seen = further [] seen [] sights_begin

  -- ---- places

  -- a value that stands once is found where it stands
  pub place_is : (xs : List X) (k : ℕ) (x : X) → Apart xs → slice_get xs k ≡ Some x → position (eq x) xs ≡ Some k
  place_is xs k x h e =
      let lt : k < length xs = slice_get_within xs k x e in
      let le : k ≤ length xs = omega arith in
      let at = position_or_len_is (eq x) xs k x le (λ j less. differ x (get_or xs j x) (eq x (get_or xs j x)) refl (before j less)) (λ more. ap (eq x) (get_or_from_slice_get xs k x x e) ∙ laws.refl x) in
      ap (λ (n : ℕ). cond (nat_lt n (length xs)) (Some n) None) at ∙ ap (λ (b : Bool). cond b (Some k) None) (lt-ltb k (length xs) lt)
    where
      before : (j : ℕ) → j < k → Not (x ≡ get_or xs j x)
      before j less f =
          let lt : k < length xs = slice_get_within xs k x e in
          h j k x less (slice_get-get_or xs j x (omega arith) ∙ ap Some (sym f)) e

  -- and what is not in the list is found nowhere
  pub place_none : (xs : List X) (x : X) → Not (Contains xs x) → position (eq x) xs ≡ None
  place_none xs x absent =
      let le : length xs ≤ length xs = omega arith in
      let at = position_or_len_is (eq x) xs (length xs) x le
      (λ j less. differ x (get_or xs j x) (eq x (get_or xs j x)) refl (λ f. absent (there xs j x (slice_get-get_or xs j x less ∙ ap Some (sym f)))))
      (λ more. absurd (omega arith)) in
      ap (λ (n : ℕ). cond (nat_lt n (length xs)) (Some n) None) at ∙ ap (λ (b : Bool). cond b (Some (length xs)) None) (le-ltb (length xs) (length xs) le)
