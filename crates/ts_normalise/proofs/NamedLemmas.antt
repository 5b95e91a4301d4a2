-- Sets of names that are lent: the names of the rules that name a token.
use Rattle.std.proofs.Common.{◌≡◌, ◌∙◌, sym, ap, subst, refl, ℕ, suc, ◌+◌, ◌<◌, ◌≤◌, ◌⊎◌, inl, inr, ⊎_elim, List, [], ◌∷◌, ◌++◌, length, get_or, take, IsTrue, ◌↔◌, arith}
use Rattle.std.specs.Prelude.{Bool, true, false, ◌||◌, if◌then◌else◌}
use Rattle.std.specs.Borrow.{Bor}
use Rattle.std.specs.List.{Contains, list_any}
use Rattle.std.specs.Str.{bytes_eq}
use Rattle.std.proofs.lemmas.List.{take_more, take_all, map-append}
use Rattle.std.proofs.lemmas.List.Elements.{Contains-push_cases, Contains-append_left, Contains-push}
use Rattle.indexmap.specs.IndexSet.{insert_key}
use Rattle.indexmap.proofs.CallerLemmas.{Contains-insert_key}
use Rattle.ts_base.proofs.ByteLemmas.{same_bytes}
use Rattle.ts_base.specs.Bytes.{Bytes}
use Rattle.ts_core.specs.declared.rule.Grammar.{Grammar}
use Rattle.ts_rules.specs.Causes.{names_of}
use Rattle.ts_rules.specs.Names.{told}
use Rattle.ts_rules.specs.Numbers.{NamesSome}
use Rattle.ts_rules.specs.Sights.{NamedRule}
use Rattle.ts_tokens.specs.Names.{AreTokenNames}
use Rattle.ts_normalise.specs.Named.{AreNamedAmong}
use Rattle.ts_normalise.proofs.ListLemmas.{none_in}
use Rattle.ts_normalise.proofs.CheckLemmas.{in_names}

any_told : (x : Bytes) (keys : List (Bor Bytes)) → list_any (λ (k : Bor Bytes). bytes_eq x k.now) keys ≡ list_any (bytes_eq x) (told keys)
any_told x [] = refl
any_told x (k ∷ keys) = ap (λ (b : Bool). bytes_eq x k.now || b) (any_told x keys)

told_insert : (keys : List (Bor Bytes)) (name : Bor Bytes) → told (insert_key (λ (a b : Bor Bytes). bytes_eq a.now b.now) keys name) ≡ insert_key bytes_eq (told keys) name.now
told_insert keys name = by_found (list_any (λ (k : Bor Bytes). bytes_eq name.now k.now) keys) refl
  where
    by_found : (b : Bool) → list_any (λ (k : Bor Bytes). bytes_eq name.now k.now) keys ≡ b
        → told (if b then keys else keys ++ name ∷ []) ≡ insert_key bytes_eq (told keys) name.now
    by_found true e = ap (λ (c : Bool). if c then told keys else told keys ++ name.now ∷ []) (sym e ∙ any_told name.now keys)
    by_found false e =
        map-append (λ (k : Bor Bytes). k.now) keys (name ∷ [])
        ∙ ap (λ (c : Bool). if c then told keys else told keys ++ name.now ∷ []) (sym e ∙ any_told name.now keys)

-- what an inserted key leaves, and what it adds
insert_members : (keys : List Bytes) (name x : Bytes) → Contains (insert_key bytes_eq keys name) x ↔ (Contains keys x ⊎ (name ≡ x))
insert_members keys name x = (by (list_any (bytes_eq name) keys), ⊎_elim (kept (list_any (bytes_eq name) keys)) (λ is. subst (λ (y : Bytes). Contains (insert_key bytes_eq keys name) y) is (Contains-insert_key bytes_eq (λ a c. same_bytes a c) keys name)))
  where
    by : (b : Bool) → Contains (if b then keys else keys ++ name ∷ []) x → Contains keys x ⊎ (name ≡ x)
    by true w = inl w
    by false w = Contains-push_cases keys name x w

    kept : (b : Bool) → Contains keys x → Contains (if b then keys else keys ++ name ∷ []) x
    kept true w = w
    kept false w = Contains-append_left keys (name ∷ []) x w

module _ (g : Grammar) where
  -- a rule that names a token was put in
  pub named_added : (old new : List (Bor Bytes)) (name : Bor Bytes) (b : Bool) → b ≡ true → IsTrue b ↔ NamesSome g name.now
      → new ≡ insert_key (λ (a c : Bor Bytes). bytes_eq a.now c.now) old name
      → (x : Bytes) → Contains (told new) x ↔ (Contains (told old) x ⊎ ((name.now ≡ x) × NamesSome g x))
  named_added old new name b is names keys x = (
    λ w. ⊎_elim (λ v. inl v) (λ e. inr (e, subst (NamesSome g) e (names.0 is))) ((insert_members (told old) name.now x).0 (subst (λ (l : List Bytes). Contains l x) told_new w)),
    λ w. subst (λ (l : List Bytes). Contains l x) (sym told_new) ((insert_members (told old) name.now x).1 (⊎_elim (λ v. inl v) (λ v. inr v.0) w)),
  )
    where
      told_new : told new ≡ insert_key bytes_eq (told old) name.now
      told_new = ap told keys ∙ told_insert old name

  -- another one was not
  pub named_left : (old : List Bytes) (name : Bytes) (b : Bool) → b ≡ false → IsTrue b ↔ NamesSome g name → (x : Bytes)
      → Contains old x ↔ (Contains old x ⊎ ((name ≡ x) × NamesSome g x))
  named_left old name b is names x = (
    λ w. inl w,
    ⊎_elim (λ w. w) (λ v. let t : b ≡ true = names.1 (subst (NamesSome g) (sym v.0) v.1) in absurd (let e : false ≡ true = sym is ∙ t in cc)),
  )

  pub named_start : (rules : List NamedRule) (keys : List (Bor Bytes)) → length keys ≡ 0 → AreNamedAmong g (take 0 rules) (told keys)
  named_start rules [] none x = (λ w. absurd (none_in x w), λ w. absurd (none_in x w.0))
  named_start rules (key ∷ keys) none x = absurd (let f : suc (length keys) ≡ 0 = none in omega arith)

  -- one more rule
  pub named_more : (rules : List NamedRule) (old new : List Bytes) (i : ℕ) (rule : NamedRule) (name : Bytes) → name ≡ rule.0 → i < length rules → rule ≡ get_or rules i rule
      → ((x : Bytes) → Contains new x ↔ (Contains old x ⊎ ((name ≡ x) × NamesSome g x)))
      → AreNamedAmong g (take i rules) old → AreNamedAmong g (take (i + 1) rules) new
  named_more rules old new i rule name same lt at added before x = (
    λ w. ⊎_elim
        (λ v. let r = (before x).0 v in (subst (λ (l : List Bytes). Contains l x) (sym longer) (Contains-append_left (names_of (take i rules)) (name ∷ []) x r.0), r.1))
        (λ v. (subst (λ (l : List Bytes). Contains l x) (sym longer) (subst (λ (y : Bytes). Contains (names_of (take i rules) ++ name ∷ []) y) v.0 (Contains-push (names_of (take i rules)) name)), v.1))
        ((added x).0 w),
    λ w. (added x).1 (⊎_elim
        (λ v. inl ((before x).1 (v, w.1)))
        (λ e. inr (e, w.1))
        (Contains-push_cases (names_of (take i rules)) name x (subst (λ (l : List Bytes). Contains l x) longer w.0))),
  )
    where
      longer : names_of (take (i + 1) rules) ≡ names_of (take i rules) ++ name ∷ []
      longer =
          ap names_of (take_more rules i rule lt ∙ ap (λ (y : NamedRule). take i rules ++ y ∷ []) (sym at))
          ∙ map-append (λ (r : NamedRule). r.0) (take i rules) (rule ∷ [])
          ∙ ap (λ (y : Bytes). names_of (take i rules) ++ y ∷ []) (sym same)

  -- all rules
  pub named_all : (rules : List NamedRule) (names : List Bytes) (i : ℕ) → rules ≡ g.rules → length rules ≤ i → AreNamedAmong g (take i rules) names → AreTokenNames g names
  named_all rules names i same past among x =
      let all : AreNamedAmong g rules names = subst (λ (r : List NamedRule). AreNamedAmong g r names) (take_all i rules past) among in (
        λ w. ((all x).0 w).1,
        λ some. (all x).1 (subst (λ (r : List NamedRule). Contains (names_of r) x) (sym same) (in_names g.rules x some.0 some.1.is), some),
      )
