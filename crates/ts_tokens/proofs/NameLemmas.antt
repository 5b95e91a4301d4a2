-- Sets of names that are lent.
use Rattle.std.proofs.Common.{◌≡◌, ◌∙◌, sym, ap, subst, refl, ℕ, ◌+◌, ◌<◌, ◌≤◌, ◌⊎◌, inl, inr, ⊎_elim, List, [], ◌∷◌, ◌++◌, length, get_or, take, IsTrue, ◌↔◌}
use Rattle.std.specs.Prelude.{Bool, true, false, not, ◌||◌, if◌then◌else◌}
use Rattle.std.specs.Borrow.{Bor}
use Rattle.std.specs.List.{Contains, list_any}
use Rattle.std.specs.Str.{bytes_eq}
use Rattle.std.proofs.lemmas.List.{take_more, take_all, map-append}
use Rattle.std.proofs.lemmas.List.Elements.{Contains-push_cases, Contains-append_left, Contains-push}
use Rattle.indexmap.specs.IndexSet.{insert_key}
use Rattle.indexmap.proofs.CallerLemmas.{Contains-insert_key}
use Rattle.ts_base.proofs.ByteLemmas.{same_bytes}
use Rattle.ts_base.specs.Bytes.{Bytes}
use Rattle.ts_core.specs.declared.rule.Grammar.{Grammar}
use Rattle.ts_rules.specs.Causes.{IsBadExtra}
use Rattle.ts_rules.specs.Names.{told}
use Rattle.ts_tokens.specs.Names.{HaveSame, AreTokenNames}

any_told : (x : Bytes) (keys : List (Bor Bytes)) → list_any (λ (k : Bor Bytes). bytes_eq x k.now) keys ≡ list_any (bytes_eq x) (told keys)
any_told x [] = refl
any_told x (k ∷ keys) = ap (λ (b : Bool). bytes_eq x k.now || b) (any_told x keys)

told_insert : (keys : List (Bor Bytes)) (name : Bor Bytes) → told (insert_key (λ (a b : Bor Bytes). bytes_eq a.now b.now) keys name) ≡ insert_key bytes_eq (told keys) name.now
told_insert keys name = by_found (list_any (λ (k : Bor Bytes). bytes_eq name.now k.now) keys) refl
  where
    by_found : (b : Bool) → list_any (λ (k : Bor Bytes). bytes_eq name.now k.now) keys ≡ b
        → told (if b then keys else keys ++ name ∷ []) ≡ insert_key bytes_eq (told keys) name.now
    by_found true e = ap (λ (c : Bool). if c then told keys else told keys ++ name.now ∷ []) (sym e ∙ any_told name.now keys)
    by_found false e =
        map-append (λ (k : Bor Bytes). k.now) keys (name ∷ [])
        ∙ ap (λ (c : Bool). if c then told keys else told keys ++ name.now ∷ []) (sym e ∙ any_told name.now keys)

-- what an inserted key leaves, and what it adds
insert_members : (keys : List Bytes) (name x : Bytes) → Contains (insert_key bytes_eq keys name) x ↔ (Contains keys x ⊎ (name ≡ x))
insert_members keys name x = (by (list_any (bytes_eq name) keys), ⊎_elim (kept (list_any (bytes_eq name) keys)) (λ is. subst (λ (y : Bytes). Contains (insert_key bytes_eq keys name) y) is (Contains-insert_key bytes_eq (λ a c. same_bytes a c) keys name)))
  where
    by : (b : Bool) → Contains (if b then keys else keys ++ name ∷ []) x → Contains keys x ⊎ (name ≡ x)
    by true w = inl w
    by false w = Contains-push_cases keys name x w

    kept : (b : Bool) → Contains keys x → Contains (if b then keys else keys ++ name ∷ []) x
    kept true w = w
    kept false w = Contains-append_left keys (name ∷ []) x w

pub name_more : (all : List Bytes) (keys new : List (Bor Bytes)) (i : ℕ) (item : Bytes) (name : Bor Bytes) → name.now ≡ item → i < length all → item ≡ get_or all i item
    → new ≡ insert_key (λ (a b : Bor Bytes). bytes_eq a.now b.now) keys name → HaveSame (told keys) (take i all) → HaveSame (told new) (take (i + 1) all)
name_more all keys new i item name same lt at is before = λ x. (forward x, backward x)
  where
    keys_are : told new ≡ insert_key bytes_eq (told keys) name.now
    keys_are = ap told is ∙ told_insert keys name

    longer : take (i + 1) all ≡ take i all ++ name.now ∷ []
    longer = take_more all i item lt ∙ ap (λ (y : Bytes). take i all ++ y ∷ []) (sym at ∙ sym same)

    forward : (x : Bytes) → Contains (told new) x → Contains (take (i + 1) all) x
    forward x w = subst (λ (l : List Bytes). Contains l x) (sym longer)
        (⊎_elim (λ v. Contains-append_left (take i all) (name.now ∷ []) x ((before x).0 v)) (λ e. subst (λ (y : Bytes). Contains (take i all ++ name.now ∷ []) y) e (Contains-push (take i all) name.now))
        ((insert_members (told keys) name.now x).0 (subst (λ (l : List Bytes). Contains l x) keys_are w)))

    backward : (x : Bytes) → Contains (take (i + 1) all) x → Contains (told new) x
    backward x w = subst (λ (l : List Bytes). Contains l x) (sym keys_are)
        ((insert_members (told keys) name.now x).1
        (⊎_elim (λ v. inl ((before x).1 v)) (λ e. inr e) (Contains-push_cases (take i all) name.now x (subst (λ (l : List Bytes). Contains l x) longer w))))

pub names_all : (all : List Bytes) (keys : List (Bor Bytes)) (i : ℕ) → length all ≤ i → HaveSame (told keys) (take i all) → HaveSame (told keys) all
names_all all keys i past same = subst (λ (l : List Bytes). HaveSame (told keys) l) (take_all i all past) same

-- ---- extras

-- a SYMBOL that is the whole extra
pub bad_whole : (g : Grammar) (names : List Bytes) (name : Bytes) (whole b : Bool) → whole ≡ true → IsTrue b ↔ Contains names name → AreTokenNames g names → IsTrue (not b) ↔ IsBadExtra g (name, whole)
bad_whole g names name whole b is among same = subst (λ (w : Bool). IsTrue (not b) ↔ IsBadExtra g (name, w)) (sym is) (by b among)
  where
    by : (b : Bool) → IsTrue b ↔ Contains names name → IsTrue (not b) ↔ IsBadExtra g (name, true)
    by true h = (
      λ t. absurd (let e : false ≡ true = t in cc),
      ⊎_elim (λ e. absurd (let f : true ≡ false = e in cc)) (λ none. absurd (none ((same name).0 (h.0 refl)))),
    )
    by false h = (λ t. inr (λ some. let w : false ≡ true = h.1 ((same name).1 some) in absurd cc), λ bad. refl)
