-- Lists of captures, each once.
use Rattle.std.proofs.Common.{◌≡◌, ◌∙◌, sym, ap, refl, subst, List, [], map, IsPermutation, ◌↔◌, Bool, true, None, false, arith}
use Rattle.std.specs.List.{Contains, dedup}
use Rattle.std.specs.Bool.{Decides}
use Rattle.std.specs.Cmp.{IsEquivalence}
use Rattle.std.specs.Cmp.Lexicographic.{pointwise}
use Rattle.std.proofs.lemmas.Bool.Decides.{nat_tests}
use Rattle.std.proofs.lemmas.Slice.Eq.{slice_eq-Decides}
use Rattle.std.proofs.lemmas.List.Sorted.{Contains-permutation, IsPermutation-sym}
use Rattle.std.proofs.lemmas.List.Kept.{Contains-dedup, Contains-from_dedup}
use Rattle.spec_matches.specs.declared.found.Capture.{Capture}
use Rattle.spec_matches.specs.declared.placing.Placing.{Placing}
use Rattle.spec_matches.specs.contracts.found.CapturePartialEq.TheImpl as equal_captures
use Rattle.ts_search.specs.Adding.{Adds, OfSome}
use Rattle.ts_search.specs.Memory.{IsBare}
use Rattle.ts_search.specs.Steps.{Shown}
use Rattle.spec_matches.specs.contracts.found.CaptureEq.TheImpl.Laws as equal
use Rattle.std.proofs.lemmas.Cmp.{lists_equiv}
use Rattle.ts_search.proofs.AddLemmas.{adds_all}
use Rattle.ts_search.proofs.PlaceLemmas.{in_map, of_map}

abbrev pub mark_eq : Capture → Capture → Bool
mark_eq = (equal_captures.eq-value).it

-- whether two lists of captures are equal
abbrev pub marks_eq : List Capture → List Capture → Bool
marks_eq = pointwise mark_eq

same_mark : (x y : Capture) → mark_eq x y ≡ true → x ≡ y
same_mark x y h = grind (arith, nat_tests)

itself : (x : Capture) → mark_eq x x ≡ true
itself x = grind (arith, nat_tests)

mark_decides : (x y : Capture) → Decides (mark_eq x y) (x ≡ y)
mark_decides x y = (same_mark x y, (λ e. subst (λ (z : Capture). mark_eq x z ≡ true) e (itself x)))

same_marks : (x y : List Capture) → marks_eq x y ≡ true → x ≡ y
same_marks x y h = (slice_eq-Decides mark_decides x y (marks_eq x y) refl).0 h

marks_equiv : IsEquivalence marks_eq
marks_equiv = lists_equiv equal.laws-law

pub once_members : (found sorted kept : List (List Capture)) → IsPermutation found sorted → kept ≡ dedup marks_eq sorted
    → (c : List Capture) → Contains kept c ↔ Contains found c
once_members found sorted kept moved is c = (
  (λ h. Contains-permutation sorted found c (IsPermutation-sym found sorted moved) (Contains-from_dedup marks_eq sorted c (subst (λ (l : List (List Capture)). Contains l c) is h))),
  (λ h. subst (λ (l : List (List Capture)). Contains l c) (sym is) (Contains-dedup marks_equiv same_marks sorted c (Contains-permutation found sorted c moved h))),
)

pub bare_members : (found : List Placing) (lists kept : List (List Capture)) (out : List Placing) → lists ≡ map (λ (f : Placing). f.captures) found
    → ((c : List Capture) → Contains kept c ↔ Contains lists c) → Adds (OfSome (Shown None false) kept) [] out → (f : Placing) → Contains out f ↔ OfSome IsBare found f
bare_members found lists kept out are each adds f = (to, from)
  where
    all : (Contains out f → OfSome (Shown None false) kept f) × (OfSome (Shown None false) kept f → Contains out f)
    all = adds_all (OfSome (Shown None false) kept) out adds f

    to : Contains out f → OfSome IsBare found f
    to h =
        let x = all.0 h in
        let g = of_map (λ (g : Placing). g.captures) found (record { first = None; near = true; captures = [] }) x.0 (subst (λ (l : List (List Capture)). Contains l x.0) are ((each x.0).0 x.1)) in
        (g.0, g.1, x.2 ∙ ap (λ (c : List Capture). record { first = None; near = false; captures = c }) (sym g.2))

    from : OfSome IsBare found f → Contains out f
    from (g, there, is_it) = all.1 (g.captures, (each g.captures).1 (subst (λ (l : List (List Capture)). Contains l g.captures) (sym are) (in_map (λ (h : Placing). h.captures) found g there)), is_it)
