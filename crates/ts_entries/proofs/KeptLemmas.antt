-- What is picked from a list that goes on, and what is made of it.
use Rattle.std.proofs.Common.{◌≡◌, ◌∙◌, sym, ap, subst, refl, ℕ, ◌+◌, ◌<◌, ◌≤◌, List, [], ◌∷◌, ◌++◌, map, length, get_or, take}
use Rattle.std.proofs.lemmas.List.{take_all, map-append}
use Rattle.ts_rules.specs.FirstSights.{Not, Picks, end, taken, left}
use Rattle.ts_entries.proofs.MemberLemmas.{one_more}

module _ {X Y : Type 0} (P : X → Type 0) (f : X → Y) where
  -- the list has what is made of each element with the property
  abbrev pub AreKept : List X → List Y → Type 0
  AreKept xs ys = (kept : List X) × Picks P xs kept × (ys ≡ map f kept)

  picks_push : (xs ys : List X) (x : X) → Picks P xs ys → P x → Picks P (xs ++ x ∷ []) (ys ++ x ∷ [])
  picks_push _ _ x end p = taken x [] [] p end
  picks_push _ _ x (taken a xs ys q rest) p = taken a (xs ++ x ∷ []) (ys ++ x ∷ []) q (picks_push xs ys x rest p)
  picks_push _ _ x (left a xs ys q rest) p = left a (xs ++ x ∷ []) (ys ++ x ∷ []) q (picks_push xs ys x rest p)

  picks_skip : (xs ys : List X) (x : X) → Picks P xs ys → Not (P x) → Picks P (xs ++ x ∷ []) ys
  picks_skip _ _ x end p = left x [] [] p end
  picks_skip _ _ x (taken a xs ys q rest) p = taken a (xs ++ x ∷ []) ys q (picks_skip xs ys x rest p)
  picks_skip _ _ x (left a xs ys q rest) p = left a (xs ++ x ∷ []) ys q (picks_skip xs ys x rest p)

  picks_begin : (all : List X) → Picks P (take 0 all) []
  picks_begin [] = end
  picks_begin (x ∷ all) = end

  pub kept_begin : (all : List X) → AreKept (take 0 all) []
  kept_begin all = ([], picks_begin all, refl)

  pub kept_left : (all : List X) (ys : List Y) (i : ℕ) (x : X) → i < length all → x ≡ get_or all i x → Not (P x) → AreKept (take i all) ys → AreKept (take (i + 1) all) ys
  kept_left all ys i x lt at fails before =
      (before.0, subst (λ (xs : List X). Picks P xs before.0) (sym (one_more all i x lt at)) (picks_skip (take i all) before.0 x before.1 fails), before.2)

  pub kept_more : (all : List X) (ys new : List Y) (i : ℕ) (x : X) (y : Y) → i < length all → x ≡ get_or all i x → P x → y ≡ f x → new ≡ ys ++ y ∷ []
      → AreKept (take i all) ys → AreKept (take (i + 1) all) new
  kept_more all ys new i x y lt at holds made is before = (
    before.0 ++ x ∷ [],
    subst (λ (xs : List X). Picks P xs (before.0 ++ x ∷ [])) (sym (one_more all i x lt at)) (picks_push (take i all) before.0 x before.1 holds),
    is ∙ ap (λ (vs : List Y). vs ++ y ∷ []) before.2 ∙ ap (λ (v : Y). map f before.0 ++ v ∷ []) made ∙ sym (map-append f before.0 (x ∷ [])),
  )

  pub kept_all : (all : List X) (ys : List Y) (i : ℕ) → length all ≤ i → AreKept (take i all) ys → AreKept all ys
  kept_all all ys i past before = (before.0, subst (λ (xs : List X). Picks P xs before.0) (take_all i all past) before.1, before.2)
