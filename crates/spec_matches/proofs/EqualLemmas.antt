-- Captures and matches that compare as equal are one.
use Rattle.std.proofs.Common.{◌≡◌, subst, refl, Bool, true, false, ℕ, ◌==◌, arith, rules, List, ◌↔◌, ◌&&◌}
use Rattle.std.specs.List.{Contains}
use Rattle.std.specs.List.Sorted.{IsStrictlySortedBy}
use Rattle.std.specs.Bool.{Decides}
use Rattle.std.specs.Cmp.Lexicographic.{pointwise}
use Rattle.std.specs.Ordering.{eq_by_cmp}
use Rattle.std.proofs.lemmas.Bool.Decides.{nat_tests}
use Rattle.std.proofs.lemmas.Slice.Eq.{slice_eq-Decides}
use Rattle.spec_trees.specs.declared.visible.VisibleNode.{VisibleNode}
use Rattle.ts_query_syntax.specs.declared.read_query.ReadQuery.{ReadQuery}
use Rattle.spec_matches.specs.declared.found.Capture.{Capture}
use Rattle.spec_matches.specs.declared.found.Match.{Match}
use Rattle.spec_matches.specs.contracts.found.CaptureOrd.TheImpl.Laws as captures
use Rattle.spec_matches.specs.contracts.found.MatchOrd.TheImpl.Laws as matches
use Rattle.spec_matches.specs.Matches.{AreMatches, capture_cmp, capture_eq, match_cmp, match_eq}
use Rattle.spec_matches.proofs.OrderLemmas.{same_list}

pub same_capture : (x y : Capture) → capture_eq x y ≡ true → x ≡ y
same_capture x y h = grind (arith, nat_tests)

itself : (x : Capture) → capture_eq x x ≡ true
itself x = grind (arith, nat_tests)

capture_decides : (x y : Capture) → Decides (capture_eq x y) (x ≡ y)
capture_decides x y = (same_capture x y, (λ e. subst (λ (z : Capture). capture_eq x z ≡ true) e (itself x)))

capture_ties : (x y : Capture) → capture_eq x y ≡ eq_by_cmp capture_cmp x y
capture_ties x y = search rules

pub same_captures : (s t : List Capture) → IsStrictlySortedBy capture_cmp s → IsStrictlySortedBy capture_cmp t → ((x : Capture) → Contains s x ↔ Contains t x) → s ≡ t
same_captures s t p q members = same_list capture_eq same_capture captures.total-law capture_ties s t p q members

split : (a b : Bool) → (a && b) ≡ true → (a ≡ true) × (b ≡ true)
split true b h = (refl, h)
split false b h = let e : false ≡ true = h in cc

same_number : (a b : ℕ) → (a == b) ≡ true → a ≡ b
same_number a b h = grind (arith, nat_tests)

pub same_match : (x y : Match) → match_eq x y ≡ true → x ≡ y
same_match x y h =
    let p = split (x.root == y.root) ((x.pattern == y.pattern) && pointwise capture_eq x.captures y.captures) h in
    let q = split (x.pattern == y.pattern) (pointwise capture_eq x.captures y.captures) p.1 in
    let root = same_number x.root y.root p.0 in
    let pattern = same_number x.pattern y.pattern q.0 in
    let captures = (slice_eq-Decides capture_decides x.captures y.captures (pointwise capture_eq x.captures y.captures) refl).0 q.1 in
    λ i. record { root = root i; pattern = pattern i; captures = captures i }

match_ties : (x y : Match) → match_eq x y ≡ eq_by_cmp match_cmp x y
match_ties x y = matches.matches_eq-law x y

pub same_matches : (s t : List Match) → IsStrictlySortedBy match_cmp s → IsStrictlySortedBy match_cmp t → ((x : Match) → Contains s x ↔ Contains t x) → s ≡ t
same_matches s t p q members = same_list match_eq same_match matches.total-law match_ties s t p q members

pub one_list_is : (query : ReadQuery) (nodes : List VisibleNode) (keeps : Match → Type 0) (xs ys : List Match) → AreMatches query nodes keeps xs → AreMatches query nodes keeps ys → xs ≡ ys
one_list_is query nodes keeps xs ys a b =
    same_matches xs ys a.order b.order (λ m. ((λ h. (b.all m).1 ((a.all m).0 h)), (λ h. (a.all m).1 ((b.all m).0 h))))
