-- Sets of names that are lent.
use Rattle.std.proofs.Common.{◌≡◌, ◌∙◌, sym, ap, ℕ, ◌+◌, ◌≤◌, Bool, true, false, List, [], ◌∷◌, ◌++◌, length, arith}
use Rattle.std.specs.Prelude.{if◌then◌else◌}
use Rattle.std.specs.List.{list_any}
use Rattle.std.proofs.lemmas.List.{length-append, length-map}
use Rattle.std.specs.Borrow.{Bor}
use Rattle.std.specs.Str.{bytes_eq}
use Rattle.indexmap.specs.IndexSet.{insert_key}
use Rattle.ts_base.specs.Bytes.{Bytes}
use Rattle.ts_query_names.specs.Mentions.{KindName}
use Rattle.ts_query_names.specs.Kinds.{kind_eq, with_new, first_sights}
use Rattle.ts_query_names.specs.LentNames.{told, kind_told, kinds_told}
use Rattle.ts_query_names.proofs.KindLemmas.{insert_map}

pub name_put : (keys new : List (Bor Bytes)) (key : Bor Bytes)
    → new ≡ insert_key (λ (a b : Bor Bytes). bytes_eq a.now b.now) keys key
    → told new ≡ insert_key bytes_eq (told keys) key.now
name_put keys new key is = ap told is ∙ insert_map (λ (name : Bor Bytes). name.now) bytes_eq keys key

-- ---- how many there are

insert_few : {X : Type 0} (eq : X → X → Bool) (found : List X) (x : X) → length (insert_key eq found x) ≤ length found + 1
insert_few {X} eq found x = by_found (list_any (eq x) found)
  where
    by_found : (b : Bool) → length (if b then found else found ++ x ∷ []) ≤ length found + 1
    by_found true = omega arith
    by_found false = omega (arith, length-append found (x ∷ []))

new_few : {X : Type 0} (eq : X → X → Bool) (found xs : List X) → length (with_new eq found xs) ≤ length found + length xs
new_few eq found [] = omega arith
new_few eq found (x ∷ xs) = omega (arith, new_few eq (insert_key eq found x) xs, insert_few eq found x)

pub few_kinds : (keys : List (Bor Bytes × Bool)) (xs : List KindName) (n : ℕ) → kinds_told keys ≡ first_sights kind_eq xs → length xs ≤ n → length keys ≤ n
few_kinds keys xs n is h =
    let same : length keys ≡ length (first_sights kind_eq xs) = sym (length-map keys kind_told) ∙ ap length is in
    omega (arith, same, h, new_few kind_eq [] xs)

pub few_names : (keys : List (Bor Bytes)) (xs : List Bytes) (n : ℕ) → told keys ≡ first_sights bytes_eq xs → length xs ≤ n → length keys ≤ n
few_names keys xs n is h =
    let same : length keys ≡ length (first_sights bytes_eq xs) = sym (length-map keys (λ (name : Bor Bytes). name.now)) ∙ ap length is in
    omega (arith, same, h, new_few bytes_eq [] xs)
