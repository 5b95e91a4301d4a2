-- Captures of which only the set counts.
use Rattle.std.proofs.Common.{◌≡◌, ◌∙◌, sym, refl, subst, ⊎_elim, List, [], ◌∷◌, ◌++◌, ◌↔◌}
use Rattle.std.specs.List.{Contains}
use Rattle.std.proofs.lemmas.List.Elements.{Contains-append_left, Contains-append_right, Contains-append_cases, Contains-push, Contains-push_cases}
use Rattle.spec_matches.specs.declared.found.Capture.{Capture}
use Rattle.spec_matches.specs.declared.placing.Placing.{Placing}
use Rattle.ts_search.specs.Adding.{Adds, AreLike}
use Rattle.ts_search.specs.Sets.{SameMembers, SameWay}
use Rattle.ts_search.specs.Steps.{Before}
use Rattle.ts_search.proofs.AddLemmas.{adds_all}
use Rattle.ts_search.proofs.PlaceLemmas.{none_in_nil}

pub same_itself : (c : List Capture) → SameMembers c c
same_itself c x = ((λ h. h), (λ h. h))

pub same_back : (c d : List Capture) → SameMembers c d → SameMembers d c
same_back c d s x = ((s x).1, (s x).0)

pub same_through : (c d e : List Capture) → SameMembers c d → SameMembers d e → SameMembers c e
same_through c d e s t x = ((λ h. (t x).0 ((s x).0 h)), (λ h. (s x).1 ((t x).1 h)))

pub same_of : (c d : List Capture) → c ≡ d → SameMembers c d
same_of c d e = subst (SameMembers c) e (same_itself c)

pub same_append : (a b c d : List Capture) → SameMembers a b → SameMembers c d → SameMembers (a ++ c) (b ++ d)
same_append a b c d s t x = (half a b c d (λ y. (s y).0) (λ y. (t y).0), half b a d c (λ y. (s y).1) (λ y. (t y).1))
  where
    half : (a b c d : List Capture) → ((y : Capture) → Contains a y → Contains b y) → ((y : Capture) → Contains c y → Contains d y) → Contains (a ++ c) x → Contains (b ++ d) x
    half a b c d f g h = ⊎_elim (λ l. Contains-append_left b d x (f x l)) (λ r. Contains-append_right b d x (g x r)) (Contains-append_cases a c x h)

pub way_itself : (f : Placing) → SameWay f f
way_itself f = record { first = refl; near = refl; captures = same_itself f.captures }

pub way_through : (f g h : Placing) → SameWay f g → SameWay g h → SameWay f h
way_through f g h s t = record { first = s.first ∙ t.first; near = s.near ∙ t.near; captures = same_through f.captures g.captures h.captures s.captures t.captures }

-- ---- a list before each of others

pub before_like : (backs all : List (List Capture)) (front : List Capture) → Adds (Before backs front) [] all → AreLike SameMembers (Before backs front) all
before_like backs all front adds = record {
  only = λ c h. (c, (adds_all (Before backs front) all adds c).0 h, same_itself c);
  all = λ c p. (c, (adds_all (Before backs front) all adds c).1 p, same_itself c);
}

-- ---- lists that are put in order

-- each is one of the sorted, and each of the sorted is one
pub sets_none : (a : List (List Capture)) → a ≡ [] → AreLike SameMembers (Contains []) a
sets_none a e = record { only = λ c h. absurd (none_in_nil c (subst (λ (l : List (List Capture)). Contains l c) e h)); all = λ c h. absurd (none_in_nil c h) }

pub sets_more : (done a b : List (List Capture)) (one kept : List Capture) → b ≡ a ++ kept ∷ [] → SameMembers kept one → AreLike SameMembers (Contains done) a → AreLike SameMembers (Contains (done ++ one ∷ [])) b
sets_more done a b one kept e same before = record {
  only = λ c h. ⊎_elim
      (λ old. let x = before.only c old in (x.0, Contains-append_left done (one ∷ []) x.0 x.1, x.2))
      (λ is. (one, last done one, subst (λ (k : List Capture). SameMembers k one) is same))
      (Contains-push_cases a kept c (subst (λ (l : List (List Capture)). Contains l c) e h));
  all = λ c h. ⊎_elim
      (λ old. let x = before.all c old in (x.0, in_b x.0 (Contains-append_left a (kept ∷ []) x.0 x.1), x.2))
      (λ is. (kept, in_b kept (last a kept), subst (λ (k : List Capture). SameMembers k kept) is (same_back kept one same)))
      (Contains-push_cases done one c h);
}
  where
    last : (l : List (List Capture)) (c : List Capture) → Contains (l ++ c ∷ []) c
    last l c = Contains-push l c

    in_b : (c : List Capture) → Contains (a ++ kept ∷ []) c → Contains b c
    in_b c h = subst (λ (l : List (List Capture)). Contains l c) (sym e) h

pub sets_all : (done lists a kept : List (List Capture)) → done ≡ lists → ((c : List Capture) → Contains kept c ↔ Contains a c) → AreLike SameMembers (Contains done) a → AreLike SameMembers (Contains lists) kept
sets_all done lists a kept whole each are = record {
  only = λ c h. let x = are.only c ((each c).0 h) in (x.0, subst (λ (l : List (List Capture)). Contains l x.0) whole x.1, x.2);
  all = λ c h. let x = are.all c (subst (λ (l : List (List Capture)). Contains l c) (sym whole) h) in (x.0, (each x.0).1 x.1, x.2);
}
