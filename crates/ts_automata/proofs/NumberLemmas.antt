-- Sets and their numbers.
use Rattle.std.proofs.Common.{◌≡◌, ◌∙◌, sym, ap, refl, subst, Bool, true, false, List, [], ◌∷◌, ◌++◌, if◌then◌else◌, slice_get, Some, arith}
use Rattle.std.specs.Global.{Vec}
use Rattle.std.specs.Bool.{Decides}
use Rattle.std.specs.Cmp.{IsEquivalence}
use Rattle.std.specs.List.{list_any}
use lib.Pointwise.{pointwise}
use Rattle.std.proofs.lemmas.List.{append-nil}
use Rattle.std.proofs.lemmas.Slice.Eq.{slice_eq-Decides}
use Rattle.std.proofs.lemmas.Option.{slice_get-map}
use Rattle.std.specs.Option.{option_map}
use Rattle.indexmap.specs.IndexSet.{insert_key}
use Rattle.ts_automata.specs.Sets.{NumbersSet, sets_of}
use Rattle.std.proofs.Common.{nat_eq, ℕ}
use Rattle.std.proofs.lemmas.Bool.Decides.{nat_tests}

itself : (x : ℕ) → nat_eq x x ≡ true
itself x = grind (arith, nat_tests)

pub same_nat : (x y : ℕ) → nat_eq x y ≡ true → x ≡ y
same_nat x y h = grind (arith, nat_tests)

symmetric : (x y : ℕ) → nat_eq x y ≡ nat_eq y x
symmetric x y = grind (arith, nat_tests)

congruent : (x y z : ℕ) → nat_eq x y ≡ true → nat_eq x z ≡ nat_eq y z
congruent x y z e = ap (λ (n : ℕ). nat_eq n z) (same_nat x y e)

pub nat_equiv : IsEquivalence nat_eq
nat_equiv = record { refl = itself; symm = symmetric; congr = congruent }

pub nat_decides : (x y : ℕ) → Decides (nat_eq x y) (x ≡ y)
nat_decides x y = (same_nat x y, (λ e. subst (λ (z : ℕ). nat_eq x z ≡ true) e (itself x)))

abbrev pub set_eq : Vec ℕ → Vec ℕ → Bool
set_eq x y = pointwise nat_eq x.items y.items

pub lists_decide : (xs ys : List ℕ) → Decides (pointwise nat_eq xs ys) (xs ≡ ys)
lists_decide xs ys = slice_eq-Decides nat_decides xs ys (pointwise nat_eq xs ys) refl

map_append : (xs ys : List (Vec ℕ)) → sets_of (xs ++ ys) ≡ sets_of xs ++ sets_of ys
map_append [] ys = refl
map_append (x ∷ xs) ys = ap (λ (l : List (List ℕ)). x.items ∷ l) (map_append xs ys)

pub numbers_key : (old new : List (Vec ℕ)) (set : Vec ℕ) (n : ℕ) → new ≡ insert_key set_eq old set → (k : Vec ℕ) → slice_get new n ≡ Some k → set_eq set k ≡ true
    → NumbersSet (sets_of old) (sets_of new) set.items n
numbers_key old new set n is k at same = by (list_any (set_eq set) old) refl
  where
    place : slice_get (sets_of new) n ≡ Some set.items
    place = slice_get-map (λ (v : Vec ℕ). v.items) new n ∙ ap (option_map (λ (v : Vec ℕ). v.items)) at ∙ ap Some (sym ((lists_decide set.items k.items).0 same))

    by : (b : Bool) → list_any (set_eq set) old ≡ b → NumbersSet (sets_of old) (sets_of new) set.items n
    by true e = record {
      more = [];
      is = ap sets_of (is ∙ ap (λ (c : Bool). if c then old else old ++ set ∷ []) e) ∙ sym (append-nil (sets_of old));
      at = place;
    }
    by false e = record {
      more = set.items ∷ [];
      is = ap sets_of (is ∙ ap (λ (c : Bool). if c then old else old ++ set ∷ []) e) ∙ map_append old (set ∷ []);
      at = place;
    }
