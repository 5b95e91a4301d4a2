-- What a set by first sight knows.
use Rattle.std.proofs.Common.{◌≡◌, ◌∙◌, sym, ap, subst, refl, Bool, true, false, List, [], ◌∷◌, ◌++◌}
use Rattle.std.specs.Prelude.{◌||◌, ◌&&◌, if◌then◌else◌, Result}
use Rattle.std.proofs.lemmas.List.{append-nil}
use Rattle.std.specs.Bool.{beq}
use Rattle.std.specs.List.{list_any}
use Rattle.std.specs.Str.{bytes_eq}
use Rattle.std.proofs.lemmas.List.Folds.{list_any-append}
use Rattle.indexmap.specs.IndexSet.{insert_key}
use Rattle.ts_base.specs.Bytes.{Bytes}
use Rattle.ts_base.proofs.ByteLemmas.{same_bytes}
use Rattle.ts_query_names.specs.declared.flaw.Flaw.{Flaw}
use Rattle.ts_query_names.specs.Checks.{Check}
use Rattle.ts_query_names.specs.Given.{BeginWith, Gives}
use Rattle.ts_query_names.specs.Mentions.{KindName}
use Rattle.ts_query_names.specs.Kinds.{kind_eq, with_new, first_sights}

or_false : (b : Bool) → b || false ≡ b
or_false true = refl
or_false false = refl

or_assoc : (a b c : Bool) → (a || b) || c ≡ a || (b || c)
or_assoc true b c = refl
or_assoc false b c = refl

or_known : (a b : Bool) → (b ≡ true → a ≡ true) → a ≡ a || b
or_known true b h = refl
or_known false true h = h refl
or_known false false h = refl

module _ {X : Type 0} (eq : X → X → Bool) (same : (x y : X) → eq x y ≡ true → x ≡ y) where
  -- one more knows what was known, and itself
  any_insert : (x : X) (found : List X) (y : X) → list_any (eq x) (insert_key eq found y) ≡ list_any (eq x) found || eq x y
  any_insert x found y = by_found (list_any (eq y) found) refl
    where
      by_found : (b : Bool) → list_any (eq y) found ≡ b → list_any (eq x) (if b then found else found ++ y ∷ []) ≡ list_any (eq x) found || eq x y
      by_found true e = or_known (list_any (eq x) found) (eq x y) (λ h. ap (λ (z : X). list_any (eq z) found) (same x y h) ∙ e)
      by_found false e = list_any-append (eq x) found (y ∷ []) ∙ ap (λ (b : Bool). list_any (eq x) found || b) (or_false (eq x y))

  any_new : (x : X) (found ys : List X) → list_any (eq x) (with_new eq found ys) ≡ list_any (eq x) found || list_any (eq x) ys
  any_new x found [] = sym (or_false (list_any (eq x) found))
  any_new x found (y ∷ ys) =
      any_new x (insert_key eq found y) ys
      ∙ ap (λ (b : Bool). b || list_any (eq x) ys) (any_insert x found y)
      ∙ or_assoc (list_any (eq x) found) (eq x y) (list_any (eq x) ys)

  pub any_first : (x : X) (ys : List X) → list_any (eq x) (first_sights eq ys) ≡ list_any (eq x) ys
  any_first x ys = any_new x [] ys

both : (a b : Bool) → (a && b) ≡ true → (a ≡ true) × (b ≡ true)
both true b h = (refl, h)
both false b h = let e : false ≡ true = h in cc

same_truth : (a b : Bool) → beq a b ≡ true → a ≡ b
same_truth true true h = refl
same_truth true false h = let e : false ≡ true = h in cc
same_truth false true h = let e : false ≡ true = h in cc
same_truth false false h = refl

same_kind : (k l : KindName) → kind_eq k l ≡ true → k ≡ l
same_kind (n, a) (m, b) h =
    let p = both (bytes_eq n m) (beq a b) h in
    ap (λ (x : Bytes). (x, a)) (same_bytes n m p.0) ∙ ap (λ (c : Bool). (m, c)) (same_truth a b p.1)

pub known_kind : (x : KindName) (found kinds : List KindName) → found ≡ first_sights kind_eq kinds → list_any (kind_eq x) found ≡ list_any (kind_eq x) kinds
known_kind x found kinds is = ap (list_any (kind_eq x)) is ∙ any_first kind_eq same_kind x kinds

-- ---- checks one after another

pub gives_stop : (cs ds : List Check) (f : Flaw) → BeginWith cs f → BeginWith (cs ++ ds) f
gives_stop cs ds f h = (h.0 ++ ds, ap (λ (xs : List Check). xs ++ ds) h.1)

pub gives_then : {A : Type 0} (cs ds : List Check) (r : Result A Flaw) → cs ≡ [] → Gives ds r → Gives (cs ++ (ds ++ [])) r
gives_then {A} cs ds r none h =
    subst (λ (xs : List Check). Gives (xs ++ (ds ++ [])) r) (sym none) (subst (λ (ys : List Check). Gives ys r) (sym (append-nil ds)) h)

pub ruleset gives_laws = (gives_stop, gives_then)
