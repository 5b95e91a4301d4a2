-- Lists that a loop has gone over in part.
use Rattle.std.proofs.Common.{◌≡◌, ◌∙◌, sym, ap, refl, subst, ℕ, ◌+◌, ◌<◌, ◌≤◌, List, [], ◌∷◌, ◌++◌, length, map, take, get_or, ⊎_elim, true, false}
use Rattle.std.specs.List.{Contains}
use Rattle.std.proofs.lemmas.List.{append-nil, take_more, take_all}
use Rattle.std.proofs.lemmas.List.Elements.{Contains-push_cases, Contains-append_right}
use Rattle.spec_matches.specs.declared.found.Capture.{Capture}
use Rattle.ts_search.specs.Adding.{Adds}
use Rattle.ts_search.specs.Steps.{Before}
use Rattle.ts_search.proofs.AddLemmas.{in_one, one_in}

module _ {X : Type 0} where
  pub take_push : (xs : List X) (n : ℕ) (x : X) → n < length xs → x ≡ get_or xs n x → take (n + 1) xs ≡ take n xs ++ x ∷ []
  take_push xs n x below is = take_more xs n x below ∙ ap (λ (z : X). take n xs ++ z ∷ []) (sym is)

  pub none_more_at : (P : X → Type 0) (xs : List X) (n : ℕ) (d : X) → n < length xs → ((y : X) → Contains (take n xs) y → P y → ⊥) → (P (get_or xs n d) → ⊥)
      → (y : X) → Contains (take (n + 1) xs) y → P y → ⊥
  none_more_at P xs n d below before one y there p =
      ⊎_elim (λ h. before y h p) (λ e. one (subst P (sym e) p)) (Contains-push_cases (take n xs) (get_or xs n d) y (subst (λ (l : List X). Contains l y) (take_more xs n d below) there))

  pub none_all : (P : X → Type 0) (xs : List X) (n : ℕ) → length xs ≤ n → ((y : X) → Contains (take n xs) y → P y → ⊥) → (y : X) → Contains xs y → P y → ⊥
  none_all P xs n past before y there p = before y (subst (λ (l : List X). Contains l y) (sym (take_all n xs past)) there) p

  pub adds_list : (old more new : List X) → new ≡ old ++ more → Adds (Contains more) old new
  adds_list old more new e = record { more = more; is = e; only = λ i h. h; added = λ i h. subst (λ (l : List X). Contains l i) (sym e) (Contains-append_right old more i h) }

  pub adds_first : (old more : List X) → old ≡ [] → Adds (Contains more) old more
  adds_first old more e = adds_list old more more (sym (ap (λ (l : List X). l ++ more) e))

-- a list before the empty list alone
pub adds_led : (backs new : List (List Capture)) (front : List Capture) → backs ≡ [] ∷ [] → new ≡ front ∷ [] → Adds (Before backs front) [] new
adds_led backs new front eb en = record {
  more = front ∷ [];
  is = en;
  only = λ i h. ([], subst (λ (l : List (List Capture)). Contains l []) (sym eb) (in_one [] [] refl), one_in front i h ∙ sym (append-nil front));
  added = λ i h.
      let none : h.0 ≡ [] = one_in [] h.0 (subst (λ (l : List (List Capture)). Contains l h.0) eb h.1) in
      subst (λ (l : List (List Capture)). Contains l i) (sym en) (in_one front i (h.2 ∙ ap (λ (l : List Capture). front ++ l) none ∙ append-nil front));
}

pub map_same : {X : Type 0} (xs : List X) → map (λ x. x) xs ≡ xs
map_same [] = refl
map_same (x ∷ xs) = ap (λ l. x ∷ l) (map_same xs)

pub no_truth : false ≡ true → ⊥
no_truth h = cc
