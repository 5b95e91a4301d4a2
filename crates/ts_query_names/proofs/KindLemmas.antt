-- Sets of kinds that are lent, and what is put into them.
use Rattle.std.proofs.Common.{◌≡◌, ◌∙◌, sym, ap, refl, ℕ, ◌+◌, Bool, true, false, List, [], ◌∷◌, map, ◌++◌, length}
use Rattle.std.specs.Prelude.{◌||◌, not, if◌then◌else◌, position, cond, nat_lt, Some, None}
use Rattle.std.specs.List.{list_any, position_or_len}
use Rattle.std.specs.Borrow.{Bor}
use Rattle.std.proofs.lemmas.List.{map-append, length-map}
use Rattle.indexmap.specs.IndexSet.{insert_key}
use Rattle.ts_base.specs.Bytes.{Bytes}
use Rattle.ts_query_names.specs.Kinds.{kind_eq}
use Rattle.ts_query_names.specs.LentNames.{kind_told, kinds_told}

-- ---- keys that stand for values

module _ {K X : Type 0} (f : K → X) (eq : X → X → Bool) where
  pub any_map : (x : X) (keys : List K) → list_any (λ (k : K). eq x (f k)) keys ≡ list_any (eq x) (map f keys)
  any_map x [] = refl
  any_map x (k ∷ keys) = ap (λ (b : Bool). eq x (f k) || b) (any_map x keys)

  pub insert_map : (keys : List K) (key : K) → map f (insert_key (λ (a b : K). eq (f a) (f b)) keys key) ≡ insert_key eq (map f keys) (f key)
  insert_map keys key = by_found (list_any (λ (k : K). eq (f key) (f k)) keys) refl
    where
      by_found : (b : Bool) → list_any (λ (k : K). eq (f key) (f k)) keys ≡ b
          → map f (if b then keys else keys ++ key ∷ []) ≡ insert_key eq (map f keys) (f key)
      by_found true e = ap (λ (c : Bool). if c then map f keys else map f keys ++ f key ∷ []) (sym e ∙ any_map (f key) keys)
      by_found false e =
          map-append f keys (key ∷ [])
          ∙ ap (λ (c : Bool). if c then map f keys else map f keys ++ f key ∷ []) (sym e ∙ any_map (f key) keys)

  len_map : (x : X) (keys : List K) → position_or_len (λ (k : K). eq x (f k)) keys ≡ position_or_len (eq x) (map f keys)
  len_map x [] = refl
  len_map x (k ∷ keys) = ap (λ (n : ℕ). cond (not (eq x (f k))) (1 + n) 0) (len_map x keys)

  pub position_map : (x : X) (keys : List K) → position (λ (k : K). eq x (f k)) keys ≡ position (eq x) (map f keys)
  position_map x keys =
      ap (λ (n : ℕ). cond (nat_lt n (length keys)) (Some n) None) (len_map x keys)
      ∙ ap (λ (m : ℕ). cond (nat_lt (position_or_len (eq x) (map f keys)) m) (Some (position_or_len (eq x) (map f keys))) None) (sym (length-map keys f))

pub kind_put : (keys new : List (Bor Bytes × Bool)) (key : Bor Bytes × Bool)
    → new ≡ insert_key (λ (a b : Bor Bytes × Bool). kind_eq (kind_told a) (kind_told b)) keys key
    → kinds_told new ≡ insert_key kind_eq (kinds_told keys) (kind_told key)
kind_put keys new key is = ap kinds_told is ∙ insert_map kind_told kind_eq keys key
