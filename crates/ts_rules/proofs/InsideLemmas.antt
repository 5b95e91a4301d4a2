-- The first SYMBOL inside a token.
use Rattle.std.proofs.Common.{◌≡◌, ◌∙◌, sym, ap, refl, ℕ, zero, suc, ◌+◌, ◌<◌, ◌≤◌, List, [], ◌∷◌, ◌++◌, length, get_or, take, drop}
use Rattle.std.specs.Borrow.{Bor}
use Rattle.std.proofs.lemmas.List.{take_all, drop_more, map-append}
use Rattle.std.proofs.lemmas.List.Concat.{flat_map-append}
use Rattle.ts_base.specs.Bytes.{Bytes}
use Rattle.ts_rules.specs.declared.sights.Spot.{Spot}
use Rattle.ts_rules.specs.Names.{BeginsWith}
use Rattle.ts_rules.specs.Sights.{Sight, symbol_inside, symbols_inside, seen_trees, sight_of}

take_drop : {X : Type 0} (xs : List X) (n : ℕ) → take n xs ++ drop n xs ≡ xs
take_drop [] zero = refl
take_drop [] (suc n) = refl
take_drop (y ∷ xs) zero = refl
take_drop {X = X} (y ∷ xs) (suc n) = ap (λ (zs : List X). y ∷ zs) (take_drop xs n)

-- what is found in spots before and after a place
found_split : (spots : List Spot) (i : ℕ) (spot : Spot) → i < length spots → spot ≡ get_or spots i spot
    → symbols_inside (seen_trees spots) ≡ symbols_inside (seen_trees (take i spots)) ++ symbols_inside (sight_of spot ∷ seen_trees (drop (i + 1) spots))
found_split spots i spot lt at =
    ap (λ (xs : List Spot). symbols_inside (seen_trees xs)) (sym (take_drop spots i) ∙ ap (λ (ys : List Spot). take i spots ++ ys) (drop_more spots i spot lt ∙ ap (λ (y : Spot). y ∷ drop (i + 1) spots) (sym at)))
    ∙ ap symbols_inside (map-append sight_of (take i spots) (spot ∷ drop (i + 1) spots))
    ∙ flat_map-append (λ (sight : Sight). symbol_inside sight.tree sight.inside) (seen_trees (take i spots)) (sight_of spot ∷ seen_trees (drop (i + 1) spots))

pub inside_first : (spots : List Spot) (i : ℕ) (spot : Spot) (name : Bor Bytes) → i < length spots → spot ≡ get_or spots i spot
    → name.now ∷ [] ≡ symbol_inside spot.tree.now spot.inside → symbols_inside (seen_trees (take i spots)) ≡ [] → BeginsWith name.now (symbols_inside (seen_trees spots))
inside_first spots i spot name lt at is before = (
  symbols_inside (seen_trees (drop (i + 1) spots)),
  found_split spots i spot lt at
      ∙ ap (λ (xs : List Bytes). xs ++ symbols_inside (sight_of spot ∷ seen_trees (drop (i + 1) spots))) before
      ∙ ap (λ (xs : List Bytes). xs ++ symbols_inside (seen_trees (drop (i + 1) spots))) (sym is),
)

pub inside_none : (spots : List Spot) (i : ℕ) → length spots ≤ i → symbols_inside (seen_trees (take i spots)) ≡ [] → symbols_inside (seen_trees spots) ≡ []
inside_none spots i ge before = ap (λ (xs : List Spot). symbols_inside (seen_trees xs)) (sym (take_all i spots ge)) ∙ before
