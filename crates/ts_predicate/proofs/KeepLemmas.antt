-- Which matches are kept: of a pattern of the query, with captures inside, of which all predicates hold.
use Rattle.std.proofs.Common.{◌≡◌, ◌∙◌, ◌↔◌, sym, ap, refl, subst, ℕ, ◌+◌, ◌<◌, ◌≤◌, ⊎_elim, Bool, true, false, IsTrue, List, [], ◌∷◌, ◌++◌, take, length, slice_get, get_or, Option, Some, IfOk, Result, Ok, Err}
use Rattle.std.specs.List.{Contains, slice_set}
use Rattle.std.proofs.lemmas.List.{set-get_or, take_more, take_all}
use Rattle.std.proofs.lemmas.List.Elements.{Contains-get_or, Contains-push_cases}
use Rattle.ts_base.specs.Bytes.{Bytes}
use Rattle.ts_query_syntax.specs.declared.read_query.Pattern.{Pattern}
use Rattle.ts_query_syntax.specs.declared.read_query.Predicate.{Predicate}
use Rattle.ts_query_syntax.specs.declared.read_query.ReadQuery.{ReadQuery}
use Rattle.spec_matches.specs.declared.found.Capture.{Capture}
use Rattle.spec_matches.specs.declared.found.Match.{Match}
use Rattle.ts_predicate.specs.Predicates.{Holds, IsCaptureIn, IsKept}

untrue : IsTrue false → ⊥
untrue e = cc

-- ---- one predicate after another

pub lost : (items all : List Predicate) (i : ℕ) (d : Predicate) (P : Predicate → Type 0) (b : Bool) → items ≡ all → i < length items → IsTrue b ↔ P (get_or items i d) → b ≡ false → IsTrue false ↔ ((p : Predicate) → Contains all p → P p)
lost items all i d P b e low is other = (
  (λ t. absurd (untrue t)),
  (λ each. subst IsTrue other (is.1 (each (get_or items i d) (subst (λ (l : List Predicate). Contains l (get_or items i d)) e (Contains-get_or items i d low))))),
)

pub held_more : (items all : List Predicate) (i : ℕ) (d : Predicate) (P : Predicate → Type 0) (b : Bool) → items ≡ all → i < length items → IsTrue b ↔ P (get_or items i d) → b ≡ true → ((p : Predicate) → Contains (take i all) p → P p) → (p : Predicate) → Contains (take (i + 1) all) p → P p
held_more items all i d P b e low is held each p w =
    ⊎_elim (λ v. each p v) (λ same. subst P same (is.0 held))
    (Contains-push_cases (take i all) (get_or items i d) p
    (subst (λ (l : List Predicate). Contains l p) (ap (λ (l : List Predicate). take (i + 1) l) (sym e) ∙ take_more items i d low ∙ ap (λ (l : List Predicate). take i l ++ get_or items i d ∷ []) e) w))

pub all_held : (items all : List Predicate) (i : ℕ) (P : Predicate → Type 0) → items ≡ all → length items ≤ i → ((p : Predicate) → Contains (take i all) p → P p) → IsTrue true ↔ ((p : Predicate) → Contains all p → P p)
all_held items all i P e past each = (
  (λ t p w. each p (subst (λ (l : List Predicate). Contains l p) (sym (take_all i all (subst (λ (l : List Predicate). length l ≤ i) e past))) w)),
  (λ h. refl),
)

-- an element is replaced by itself
pub set_same : (items : List Predicate) (i : ℕ) (d x y : Predicate) → x ≡ get_or items i d → y ≡ x → slice_set items i y ≡ items
set_same items i d x y is e = ap (λ (p : Predicate). slice_set items i p) (e ∙ is) ∙ set-get_or items i d

-- ---- the whole

pub map_ok : {X E : Type 0} (r : Result X E) (P Q : X → Type 0) → ((x : X) → P x → Q x) → IfOk r P → IfOk r Q
map_ok (Ok x) P Q f h = f x h
map_ok (Err e) P Q f h = h

same_pattern : (p q : Pattern) → ◌≡◌ {A = Option Pattern} (Some p) (Some q) → p ≡ q
same_pattern p q e = cc

pub kept_is : (host : ℕ → Bytes → Type 0) (query : ReadQuery) (text : Bytes) (found : Match) (pattern : Pattern) → slice_get query.patterns found.pattern ≡ Some pattern
    → ((c : Capture) → Contains found.captures c → IsCaptureIn query text c)
    → (yes : Bool) → IsTrue yes ↔ ((p : Predicate) → Contains pattern.predicates p → Holds host text found.captures p) → IsTrue yes ↔ IsKept host query text found
kept_is host query text found pattern at inside b is = (
  (λ t. record { pattern = pattern; is_pattern = at; captures = inside; predicates = is.0 t }),
  (λ k. is.1 (subst (λ (q : Pattern). (p : Predicate) → Contains q.predicates p → Holds host text found.captures p) (same_pattern k.pattern pattern (sym k.is_pattern ∙ at)) k.predicates)),
)
