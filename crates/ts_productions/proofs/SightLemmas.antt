-- A list that takes what it does not have yet is the list of first sights.
use Rattle.std.proofs.Common.{◌≡◌, ◌∙◌, sym, ap, subst, refl, ℕ, zero, suc, ◌+◌, ◌<◌, ◌≤◌, ◌⊎◌, inl, inr, ⊎_elim, List, [], ◌∷◌, ◌++◌, map, length, slice_get, get_or, take, Some, arith}
use Rattle.std.specs.List.{Contains}
use Rattle.std.specs.Prelude.{Bool, true, false, ◌||◌, if◌then◌else◌}
use Rattle.std.specs.List.{list_any}
use Rattle.indexmap.specs.IndexSet.{insert_key}
use Rattle.indexmap.proofs.CallerLemmas.{Contains-list_any}
use Rattle.std.proofs.lemmas.Bool.{cases_lt}
use Rattle.std.proofs.lemmas.List.{length-append, take_more, map-append}
use Rattle.std.proofs.lemmas.List.Elements.{Contains-append_left, Contains-append_right, Contains-append_cases}
use Rattle.std.proofs.lemmas.Option.{slice_get_within, slice_get-get_or, get_or_from_slice_get}
use Rattle.ts_rules.specs.FirstSights.{Not, FirstAt, AreFirstSights}
use Rattle.ts_base.proofs.PlaceLemmas.{in_prefix, at_end}
use Rattle.ts_core.specs.declared.flat.Production.{Production}
use Rattle.ts_core.specs.declared.flat.Alias.{Alias}
use Rattle.ts_core.specs.contracts.flat.ProductionPartialEq.TheImpl.{eq-value}
use Rattle.ts_productions.specs.declared.expansion.Expansion.{Expansion}
use Rattle.ts_productions.specs.Expansions.{Expansions}
use Rattle.ts_productions.specs.Flat.{flat}
use Rattle.ts_productions.proofs.EqLemmas.{production_decides}

cases_lt_or_eq : (m n : ℕ) → m < n + 1 → (m < n) ⊎ (m ≡ n)
cases_lt_or_eq m n h = ⊎_elim (λ lt. inl lt) (λ ge. inr (omega arith)) (cases_lt m n)

-- what stands at a place is in the list, and what is in the list stands at a place
there : {X : Type 0} (xs : List X) (k : ℕ) (x : X) → slice_get xs k ≡ Some x → Contains xs x
there xs k x h = (k, slice_get_within xs k x h, get_or_from_slice_get xs k x x h)

at_of : {X : Type 0} (xs : List X) (x : X) → (w : Contains xs x) → slice_get xs w.0 ≡ Some x
at_of xs x w = slice_get-get_or xs w.0 x w.1 ∙ ap Some w.2

module _ {X : Type 0} where
  only_one : (x y : X) → Contains (x ∷ []) y → y ≡ x
  only_one x y w = let e : slice_get (x ∷ []) w.0 ≡ Some y = at_of (x ∷ []) y w in one w.0 w.1 e
    where
      one : (k : ℕ) → k < 1 → slice_get (x ∷ []) k ≡ Some y → y ≡ x
      one zero h e = let f : Some x ≡ Some y = e in cc
      one (suc k) h e = absurd (omega arith)

  first_old : (seen : List X) (x y : X) (k : ℕ) → Contains seen y → FirstAt (seen ++ x ∷ []) y k → FirstAt seen y k
  first_old seen x y k w f =
      let low : k ≤ w.0 = f.least w.0 (in_prefix seen (x ∷ []) w.0 w.1 ∙ at_of seen y w) in
      let below : w.0 < length seen = w.1 in
      let lt : k < length seen = omega arith in
      record {
        at = sym (in_prefix seen (x ∷ []) k lt) ∙ f.at;
        least = λ j e. f.least j (in_prefix seen (x ∷ []) j (slice_get_within seen j y e) ∙ e);
      }

  first_new : (seen : List X) (x : X) (k : ℕ) → Not (Contains seen x) → FirstAt (seen ++ x ∷ []) x k → length seen ≤ k
  first_new seen x k unseen f =
      ⊎_elim (λ lt. absurd (unseen (there seen k x (sym (in_prefix seen (x ∷ []) k lt) ∙ f.at)))) (λ ge. ge) (cases_lt k (length seen))

  -- what was seen before changes nothing
  pub sights_again : (seen found : List X) (x : X) → Contains found x → AreFirstSights seen found → AreFirstSights (seen ++ x ∷ []) found
  sights_again seen found x has before = record {
    every = λ y w. ⊎_elim (λ v. before.every y v) (λ v. subst (λ (z : X). Contains found z) (sym (only_one x y v)) has) (Contains-append_cases seen (x ∷ []) y w);
    only = λ y w. Contains-append_left seen (x ∷ []) y (before.only y w);
    rising = λ m n j k y z lt e d f g. before.rising m n j k y z lt e d
        (first_old seen x y j (before.only y (there found m y e)) f) (first_old seen x z k (before.only z (there found n z d)) g);
  }

  -- what is new goes to the end
  pub sights_new : (seen found : List X) (x : X) → Not (Contains found x) → AreFirstSights seen found → AreFirstSights (seen ++ x ∷ []) (found ++ x ∷ [])
  sights_new seen found x unseen before = record {
    every = λ y w. ⊎_elim (λ v. Contains-append_left found (x ∷ []) y (before.every y v)) (λ v. Contains-append_right found (x ∷ []) y v) (Contains-append_cases seen (x ∷ []) y w);
    only = λ y w. ⊎_elim (λ v. Contains-append_left seen (x ∷ []) y (before.only y v)) (λ v. Contains-append_right seen (x ∷ []) y v) (Contains-append_cases found (x ∷ []) y w);
    rising = λ m n j k y z lt e d f g. later m n j k y z lt e d f g
        (cases_lt_or_eq n (length found) (let w : n < length (found ++ x ∷ []) = slice_get_within (found ++ x ∷ []) n z d in omega (arith, length-append found (x ∷ []))));
  }
    where
      old : (n : ℕ) (y : X) → n < length found → slice_get (found ++ x ∷ []) n ≡ Some y → slice_get found n ≡ Some y
      old n y lt e = sym (in_prefix found (x ∷ []) n lt) ∙ e

      was : (n : ℕ) (y : X) → n < length found → slice_get (found ++ x ∷ []) n ≡ Some y → Contains seen y
      was n y lt e = before.only y (there found n y (old n y lt e))

      later : (m n j k : ℕ) (y z : X) → m < n → slice_get (found ++ x ∷ []) m ≡ Some y → slice_get (found ++ x ∷ []) n ≡ Some z
          → FirstAt (seen ++ x ∷ []) y j → FirstAt (seen ++ x ∷ []) z k → (n < length found) ⊎ (n ≡ length found) → j < k
      later m n j k y z lt e d f g (inl in_front) =
          let low : m < length found = omega arith in
          before.rising m n j k y z lt (old m y low e) (old n z in_front d) (first_old seen x y j (was m y low e) f) (first_old seen x z k (was n z in_front d) g)
      later m n j k y z lt e d f g (inr last) =
          let low : m < length found = omega arith in
          let same : Some z ≡ Some x = sym d ∙ ap (slice_get (found ++ x ∷ [])) last ∙ at_end found x in
          let is : z ≡ x = cc in
          let high : length seen ≤ k = first_new seen x k (λ w. unseen (before.every x w)) (subst (λ (u : X). FirstAt (seen ++ x ∷ []) u k) is g) in
          let below : j < length seen = slice_get_within seen j y (first_old seen x y j (was m y low e) f).at in
          omega arith

or_true : (b : Bool) → b || true ≡ true
or_true true = refl
or_true false = refl

module _ {X : Type 0} (eq : X → X → Bool) (same : (x y : X) → eq x y ≡ true → x ≡ y) (itself : (x : X) → eq x x ≡ true) where
  any_at : (xs : List X) (x : X) (k : ℕ) → slice_get xs k ≡ Some x → list_any (eq x) xs ≡ true
  any_at [] x k e = absurd (omega (arith, slice_get_within {A = X} [] k x e))
  any_at (y ∷ xs) x zero e =
      let f : Some y ≡ Some x = e in
      let is : x ≡ y = cc in
      ap (λ (b : Bool). b || list_any (eq x) xs) (ap (eq x) (sym is) ∙ itself x)
  any_at (y ∷ xs) x (suc k) e = ap (λ (b : Bool). eq x y || b) (any_at xs x k e) ∙ or_true (eq x y)

  -- an insert keeps what is there, and else puts it at the end
  pub sights_insert : (seen found : List X) (x : X) → AreFirstSights seen found → AreFirstSights (seen ++ x ∷ []) (insert_key eq found x)
  sights_insert seen found x before = by_found (list_any (eq x) found) refl
    where
      by_found : (b : Bool) → list_any (eq x) found ≡ b → AreFirstSights (seen ++ x ∷ []) (if b then found else found ++ x ∷ [])
      by_found true e = sights_again seen found x (Contains-list_any eq same found x e) before
      by_found false e = sights_new seen found x (λ w. let t : list_any (eq x) found ≡ true = any_at found x w.0 (at_of found x w) in let no_way : true ≡ false = sym t ∙ e in cc) before

-- one more production
pub production_seen : (aliases : List Alias) (all : Expansions) (i : ℕ) (e : Expansion) (made : Production) (keys new : List Production) → i < length all → e ≡ get_or all i e → made ≡ flat aliases e
    → new ≡ insert_key ((eq-value).it) keys made → AreFirstSights (map (flat aliases) (take i all)) keys → AreFirstSights (map (flat aliases) (take (i + 1) all)) new
production_seen aliases all i e made keys new lt at same is before =
    let longer : map (flat aliases) (take (i + 1) all) ≡ map (flat aliases) (take i all) ++ made ∷ [] =
    ap (map (flat aliases)) (take_more all i e lt ∙ ap (λ (x : Expansion). take i all ++ x ∷ []) (sym at))
    ∙ map-append (flat aliases) (take i all) (e ∷ [])
    ∙ ap (λ (p : Production). map (flat aliases) (take i all) ++ p ∷ []) (sym same) in
    subst (λ (seen : List Production). AreFirstSights seen new) (sym longer)
    (subst (λ (found : List Production). AreFirstSights (map (flat aliases) (take i all) ++ made ∷ []) found) (sym is)
    (sights_insert (eq-value).it (λ a b. (production_decides a b).0) (λ a. (production_decides a a).1 refl) (map (flat aliases) (take i all)) keys made before))
