-- The first of a list that has a property, and a list as far as nothing of it has the property.
use Rattle.std.proofs.Common.{◌≡◌, ◌∙◌, sym, ap, subst, refl, ℕ, zero, suc, ◌+◌, ◌<◌, ◌≤◌, List, [], ◌∷◌, ◌++◌, map, length, get_or, take, drop}
use Rattle.std.proofs.lemmas.List.{take_more, take_all, drop_more, map-append}
use Rattle.std.proofs.lemmas.List.Elements.{All-push}
use Rattle.ts_rules.specs.FirstSights.{Not, First, Clear}

pub take_drop : {X : Type 0} (xs : List X) (n : ℕ) → take n xs ++ drop n xs ≡ xs
take_drop [] zero = refl
take_drop [] (suc n) = refl
take_drop (y ∷ xs) zero = refl
take_drop {X = X} (y ∷ xs) (suc n) = ap (λ (zs : List X). y ∷ zs) (take_drop xs n)

module _ {S X : Type 0} (f : S → X) where
  pub map_split : (all : List S) (i : ℕ) (s : S) → i < length all → s ≡ get_or all i s → map f all ≡ map f (take i all) ++ f s ∷ map f (drop (i + 1) all)
  map_split all i s lt at =
      ap (map f) (sym (take_drop all i) ∙ ap (λ (ys : List S). take i all ++ ys) (drop_more all i s lt ∙ ap (λ (y : S). y ∷ drop (i + 1) all) (sym at)))
      ∙ map-append f (take i all) (s ∷ drop (i + 1) all)

  pub map_more : (all : List S) (i : ℕ) (s : S) → i < length all → s ≡ get_or all i s → map f (take (i + 1) all) ≡ map f (take i all) ++ f s ∷ []
  map_more all i s lt at =
      ap (map f) (take_more all i s lt ∙ ap (λ (y : S). take i all ++ y ∷ []) (sym at))
      ∙ map-append f (take i all) (s ∷ [])

  pub first_here : (P : X → Type 0) (all : List S) (i : ℕ) (s : S) → i < length all → s ≡ get_or all i s → P (f s) → Clear P (map f (take i all)) → First P (map f all) (f s)
  first_here P all i s lt at holds clear = record {
    before = map f (take i all);
    after = map f (drop (i + 1) all);
    is = map_split all i s lt at;
    holds = holds;
    clear = clear;
  }

  pub clear_more : (P : X → Type 0) (all : List S) (i : ℕ) (s : S) → i < length all → s ≡ get_or all i s → Not (P (f s)) → Clear P (map f (take i all)) → Clear P (map f (take (i + 1) all))
  clear_more P all i s lt at fails clear =
      subst (λ (xs : List X). Clear P xs) (sym (map_more all i s lt at)) (All-push (λ (x : X). Not (P x)) (map f (take i all)) (f s) clear fails)

  pub clear_all : (P : X → Type 0) (all : List S) (i : ℕ) → length all ≤ i → Clear P (map f (take i all)) → Clear P (map f all)
  clear_all P all i past clear = subst (λ (xs : List S). Clear P (map f xs)) (take_all i all past) clear
