-- A list that takes what it does not have yet is the list of first sights.
use Rattle.std.proofs.Common.{◌≡◌, ◌∙◌, sym, ap, subst, refl, ℕ, zero, suc, ◌+◌, ◌<◌, ◌≤◌, ◌⊎◌, inl, inr, ⊎_elim, List, [], ◌∷◌, ◌++◌, length, slice_get, get_or, take, drop, Some, arith, IsTrue, ◌↔◌}
use Rattle.std.specs.List.{Contains}
use Rattle.std.specs.Prelude.{Bool, true, false, ◌||◌, if◌then◌else◌}
use Rattle.std.specs.List.{list_any}
use Rattle.indexmap.specs.IndexSet.{insert_key}
use Rattle.indexmap.proofs.CallerLemmas.{Contains-list_any}
use Rattle.std.proofs.lemmas.Bool.{cases_lt}
use Rattle.std.proofs.lemmas.List.{length-append, take_more, take_all, drop_more, map-append}
use Rattle.ts_base.proofs.ByteLemmas.{same_bytes, bytes_same}
use Rattle.ts_base.specs.Bytes.{Bytes}
use Rattle.std.specs.Borrow.{Bor}
use Rattle.ts_rules.specs.Names.{told}
use Rattle.ts_rules.specs.Causes.{names_of}
use Rattle.ts_rules.specs.Sights.{NamedRule}
use Rattle.std.specs.Str.{bytes_eq}
use Rattle.std.proofs.lemmas.List.Elements.{Contains-append_left, Contains-append_right, Contains-append_cases, All-push}
use Rattle.std.proofs.lemmas.Option.{slice_get_within, slice_get-get_or, get_or_from_slice_get}
use Rattle.ts_rules.specs.FirstSights.{Not, FirstAt, AreFirstSights, Clear, First}
use Rattle.ts_base.proofs.PlaceLemmas.{in_prefix, at_end}

cases_lt_or_eq : (m n : ℕ) → m < n + 1 → (m < n) ⊎ (m ≡ n)
cases_lt_or_eq m n h = ⊎_elim (λ lt. inl lt) (λ ge. inr (omega arith)) (cases_lt m n)

-- what stands at a place is in the list, and what is in the list stands at a place
there : {X : Type 0} (xs : List X) (k : ℕ) (x : X) → slice_get xs k ≡ Some x → Contains xs x
there xs k x h = (k, slice_get_within xs k x h, get_or_from_slice_get xs k x x h)

at_of : {X : Type 0} (xs : List X) (x : X) → (w : Contains xs x) → slice_get xs w.0 ≡ Some x
at_of xs x w = slice_get-get_or xs w.0 x w.1 ∙ ap Some w.2

module _ {X : Type 0} where
  only_one : (x y : X) → Contains (x ∷ []) y → y ≡ x
  only_one x y w = let e : slice_get (x ∷ []) w.0 ≡ Some y = at_of (x ∷ []) y w in one w.0 w.1 e
    where
      one : (k : ℕ) → k < 1 → slice_get (x ∷ []) k ≡ Some y → y ≡ x
      one zero h e = let f : Some x ≡ Some y = e in cc
      one (suc k) h e = absurd (omega arith)

  first_old : (seen : List X) (x y : X) (k : ℕ) → Contains seen y → FirstAt (seen ++ x ∷ []) y k → FirstAt seen y k
  first_old seen x y k w f =
      let low : k ≤ w.0 = f.least w.0 (in_prefix seen (x ∷ []) w.0 w.1 ∙ at_of seen y w) in
      let below : w.0 < length seen = w.1 in
      let lt : k < length seen = omega arith in
      record {
        at = sym (in_prefix seen (x ∷ []) k lt) ∙ f.at;
        least = λ j e. f.least j (in_prefix seen (x ∷ []) j (slice_get_within seen j y e) ∙ e);
      }

  first_new : (seen : List X) (x : X) (k : ℕ) → Not (Contains seen x) → FirstAt (seen ++ x ∷ []) x k → length seen ≤ k
  first_new seen x k unseen f =
      ⊎_elim (λ lt. absurd (unseen (there seen k x (sym (in_prefix seen (x ∷ []) k lt) ∙ f.at)))) (λ ge. ge) (cases_lt k (length seen))

  -- what was seen before changes nothing
  pub sights_again : (seen found : List X) (x : X) → Contains found x → AreFirstSights seen found → AreFirstSights (seen ++ x ∷ []) found
  sights_again seen found x has before = record {
    every = λ y w. ⊎_elim (λ v. before.every y v) (λ v. subst (λ (z : X). Contains found z) (sym (only_one x y v)) has) (Contains-append_cases seen (x ∷ []) y w);
    only = λ y w. Contains-append_left seen (x ∷ []) y (before.only y w);
    rising = λ m n j k y z lt e d f g. before.rising m n j k y z lt e d
        (first_old seen x y j (before.only y (there found m y e)) f) (first_old seen x z k (before.only z (there found n z d)) g);
  }

  -- what is new goes to the end
  pub sights_new : (seen found : List X) (x : X) → Not (Contains found x) → AreFirstSights seen found → AreFirstSights (seen ++ x ∷ []) (found ++ x ∷ [])
  sights_new seen found x unseen before = record {
    every = λ y w. ⊎_elim (λ v. Contains-append_left found (x ∷ []) y (before.every y v)) (λ v. Contains-append_right found (x ∷ []) y v) (Contains-append_cases seen (x ∷ []) y w);
    only = λ y w. ⊎_elim (λ v. Contains-append_left seen (x ∷ []) y (before.only y v)) (λ v. Contains-append_right seen (x ∷ []) y v) (Contains-append_cases found (x ∷ []) y w);
    rising = λ m n j k y z lt e d f g. later m n j k y z lt e d f g
        (cases_lt_or_eq n (length found) (let w : n < length (found ++ x ∷ []) = slice_get_within (found ++ x ∷ []) n z d in omega (arith, length-append found (x ∷ []))));
  }
    where
      old : (n : ℕ) (y : X) → n < length found → slice_get (found ++ x ∷ []) n ≡ Some y → slice_get found n ≡ Some y
      old n y lt e = sym (in_prefix found (x ∷ []) n lt) ∙ e

      was : (n : ℕ) (y : X) → n < length found → slice_get (found ++ x ∷ []) n ≡ Some y → Contains seen y
      was n y lt e = before.only y (there found n y (old n y lt e))

      later : (m n j k : ℕ) (y z : X) → m < n → slice_get (found ++ x ∷ []) m ≡ Some y → slice_get (found ++ x ∷ []) n ≡ Some z
          → FirstAt (seen ++ x ∷ []) y j → FirstAt (seen ++ x ∷ []) z k → (n < length found) ⊎ (n ≡ length found) → j < k
      later m n j k y z lt e d f g (inl in_front) =
          let low : m < length found = omega arith in
          before.rising m n j k y z lt (old m y low e) (old n z in_front d) (first_old seen x y j (was m y low e) f) (first_old seen x z k (was n z in_front d) g)
      later m n j k y z lt e d f g (inr last) =
          let low : m < length found = omega arith in
          let same : Some z ≡ Some x = sym d ∙ ap (slice_get (found ++ x ∷ [])) last ∙ at_end found x in
          let is : z ≡ x = cc in
          let high : length seen ≤ k = first_new seen x k (λ w. unseen (before.every x w)) (subst (λ (u : X). FirstAt (seen ++ x ∷ []) u k) is g) in
          let below : j < length seen = slice_get_within seen j y (first_old seen x y j (was m y low e) f).at in
          omega arith

or_true : (b : Bool) → b || true ≡ true
or_true true = refl
or_true false = refl

module _ {X : Type 0} (eq : X → X → Bool) (same : (x y : X) → eq x y ≡ true → x ≡ y) (itself : (x : X) → eq x x ≡ true) where
  any_at : (xs : List X) (x : X) (k : ℕ) → slice_get xs k ≡ Some x → list_any (eq x) xs ≡ true
  any_at [] x k e = absurd (omega (arith, slice_get_within {A = X} [] k x e))
  any_at (y ∷ xs) x zero e =
      let f : Some y ≡ Some x = e in
      let is : x ≡ y = cc in
      ap (λ (b : Bool). b || list_any (eq x) xs) (ap (eq x) (sym is) ∙ itself x)
  any_at (y ∷ xs) x (suc k) e = ap (λ (b : Bool). eq x y || b) (any_at xs x k e) ∙ or_true (eq x y)

  -- an insert keeps what is there, and else puts it at the end
  pub sights_insert : (seen found : List X) (x : X) → AreFirstSights seen found → AreFirstSights (seen ++ x ∷ []) (insert_key eq found x)
  sights_insert seen found x before = by_found (list_any (eq x) found) refl
    where
      by_found : (b : Bool) → list_any (eq x) found ≡ b → AreFirstSights (seen ++ x ∷ []) (if b then found else found ++ x ∷ [])
      by_found true e = sights_again seen found x (Contains-list_any eq same found x e) before
      by_found false e = sights_new seen found x (λ w. let t : list_any (eq x) found ≡ true = any_at found x w.0 (at_of found x w) in let no_way : true ≡ false = sym t ∙ e in cc) before

-- ---- names that are lent

pub any_told : (x : Bytes) (keys : List (Bor Bytes)) → list_any (λ (k : Bor Bytes). bytes_eq x k.now) keys ≡ list_any (bytes_eq x) (told keys)
any_told x [] = refl
any_told x (k ∷ keys) = ap (λ (b : Bool). bytes_eq x k.now || b) (any_told x keys)

-- a test by look-up
pub among_told : (x : Bytes) (keys : List (Bor Bytes)) (b : Bool) → b ≡ list_any (λ (k : Bor Bytes). bytes_eq x k.now) keys → IsTrue b ↔ Contains (told keys) x
among_told x keys b is = (
  λ t. Contains-list_any bytes_eq (λ a c. same_bytes a c) (told keys) x (sym (any_told x keys) ∙ sym is ∙ t),
  λ w. is ∙ any_told x keys ∙ any_at bytes_eq (λ a c. same_bytes a c) (λ a. bytes_same a a refl) (told keys) x w.0 (at_of (told keys) x w),
)

told_insert : (keys : List (Bor Bytes)) (name : Bor Bytes) → told (insert_key (λ (a b : Bor Bytes). bytes_eq a.now b.now) keys name) ≡ insert_key bytes_eq (told keys) name.now
told_insert keys name = by_found (list_any (λ (k : Bor Bytes). bytes_eq name.now k.now) keys) refl
  where
    by_found : (b : Bool) → list_any (λ (k : Bor Bytes). bytes_eq name.now k.now) keys ≡ b
        → told (if b then keys else keys ++ name ∷ []) ≡ insert_key bytes_eq (told keys) name.now
    by_found true e = ap (λ (c : Bool). if c then told keys else told keys ++ name.now ∷ []) (sym e ∙ any_told name.now keys)
    by_found false e =
        map-append (λ (k : Bor Bytes). k.now) keys (name ∷ [])
        ∙ ap (λ (c : Bool). if c then told keys else told keys ++ name.now ∷ []) (sym e ∙ any_told name.now keys)

-- one more rule's name
pub name_seen : (all : List NamedRule) (keys new : List (Bor Bytes)) (i : ℕ) (rule : NamedRule) (name : Bor Bytes) → name.now ≡ rule.0
    → i < length all → rule ≡ get_or all i rule → new ≡ insert_key (λ (a b : Bor Bytes). bytes_eq a.now b.now) keys name
    → AreFirstSights (names_of (take i all)) (told keys) → AreFirstSights (names_of (take (i + 1) all)) (told new)
name_seen all keys new i rule name same lt at is before =
    let longer : names_of (take (i + 1) all) ≡ names_of (take i all) ++ name.now ∷ [] =
    ap names_of (take_more all i rule lt ∙ ap (λ (r : NamedRule). take i all ++ r ∷ []) (sym at))
    ∙ map-append (λ (r : NamedRule). r.0) (take i all) (rule ∷ [])
    ∙ ap (λ (n : Bytes). names_of (take i all) ++ n ∷ []) (sym same) in
    let keys_are : told new ≡ insert_key bytes_eq (told keys) name.now = ap told is ∙ told_insert keys name in
    subst (λ (seen : List Bytes). AreFirstSights seen (told new)) (sym longer)
    (subst (λ (found : List Bytes). AreFirstSights (names_of (take i all) ++ name.now ∷ []) found) (sym keys_are)
    (sights_insert bytes_eq (λ a b. same_bytes a b) (λ a. bytes_same a a refl) (names_of (take i all)) (told keys) name.now before))

told_more : (used : List (Bor Bytes)) (i : ℕ) (x : Bor Bytes) → i < length used → x ≡ get_or used i x → told (take (i + 1) used) ≡ told (take i used) ++ x.now ∷ []
told_more used i x lt at =
    ap told (take_more used i x lt ∙ ap (λ (y : Bor Bytes). take i used ++ y ∷ []) (sym at))
    ∙ map-append (λ (k : Bor Bytes). k.now) (take i used) (x ∷ [])

-- one more name that is lent
pub lent_seen : (all keys new : List (Bor Bytes)) (i : ℕ) (name : Bor Bytes) → i < length all → name ≡ get_or all i name
    → new ≡ insert_key (λ (a b : Bor Bytes). bytes_eq a.now b.now) keys name
    → AreFirstSights (told (take i all)) (told keys) → AreFirstSights (told (take (i + 1) all)) (told new)
lent_seen all keys new i name lt at is before =
    let keys_are : told new ≡ insert_key bytes_eq (told keys) name.now = ap told is ∙ told_insert keys name in
    subst (λ (seen : List Bytes). AreFirstSights seen (told new)) (sym (told_more all i name lt at))
    (subst (λ (found : List Bytes). AreFirstSights (told (take i all) ++ name.now ∷ []) found) (sym keys_are)
    (sights_insert bytes_eq (λ a b. same_bytes a b) (λ a. bytes_same a a refl) (told (take i all)) (told keys) name.now before))

-- ---- the first that is absent

abbrev Absent : List Bytes → Bytes → Type 0
Absent names n = Not (Contains names n)

told_split : (used : List (Bor Bytes)) (i : ℕ) (x : Bor Bytes) → i < length used → x ≡ get_or used i x
    → told used ≡ told (take i used) ++ x.now ∷ told (drop (i + 1) used)
told_split used i x lt at =
    ap told (sym (take_drop used i) ∙ ap (λ (ys : List (Bor Bytes)). take i used ++ ys) (drop_more used i x lt ∙ ap (λ (y : Bor Bytes). y ∷ drop (i + 1) used) (sym at)))
    ∙ map-append (λ (k : Bor Bytes). k.now) (take i used) (x ∷ drop (i + 1) used)
  where
    take_drop : {X : Type 0} (xs : List X) (n : ℕ) → take n xs ++ drop n xs ≡ xs
    take_drop [] zero = refl
    take_drop [] (suc n) = refl
    take_drop (y ∷ xs) zero = refl
    take_drop {X = X} (y ∷ xs) (suc n) = ap (λ (zs : List X). y ∷ zs) (take_drop xs n)

pub absent_first : (names : List Bytes) (used : List (Bor Bytes)) (i : ℕ) (x : Bor Bytes) (b : Bool) → i < length used → x ≡ get_or used i x
    → IsTrue b ↔ Contains names x.now → b ≡ false → Clear (Absent names) (told (take i used)) → First (Absent names) (told used) x.now
absent_first names used i x b lt at h wrong clear = record {
  before = told (take i used);
  after = told (drop (i + 1) used);
  is = told_split used i x lt at;
  holds = λ w. let right : b ≡ true = h.1 w in let e : true ≡ false = sym right ∙ wrong in cc;
  clear = clear;
}

pub present_more : (names : List Bytes) (used : List (Bor Bytes)) (i : ℕ) (x : Bor Bytes) (b : Bool) → i < length used → x ≡ get_or used i x
    → IsTrue b ↔ Contains names x.now → b ≡ true → Clear (Absent names) (told (take i used)) → Clear (Absent names) (told (take (i + 1) used))
present_more names used i x b lt at h right clear =
    subst (λ (ns : List Bytes). Clear (Absent names) ns) (sym (told_more used i x lt at))
    (All-push (λ (n : Bytes). Not (Absent names n)) (told (take i used)) x.now clear (λ absent. absent (h.0 right)))

pub all_present : (names : List Bytes) (used : List (Bor Bytes)) (i : ℕ) → length used ≤ i → Clear (Absent names) (told (take i used)) → Clear (Absent names) (told used)
all_present names used i ge clear = subst (λ (us : List (Bor Bytes)). Clear (Absent names) (told us)) (take_all i used ge) clear
