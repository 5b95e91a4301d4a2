-- Matches that are added to a set.
use Rattle.std.proofs.Common.{◌≡◌, ◌∙◌, sym, ap, refl, subst, ℕ, ◌+◌, ◌<◌, ◌≤◌, ◌⊎◌, inl, inr, ⊎_elim, List, [], ◌∷◌, ◌++◌, length, take, get_or, Bool, true, false, cond, ◌↔◌}
use Rattle.std.specs.Bool.{IsTrue}
use Rattle.std.specs.List.{Contains}
use Rattle.std.specs.Ordering.{is_eq, eq_by_cmp}
use Rattle.std.specs.BTreeSet.{BTreeSet, contains}
use Rattle.std.proofs.lemmas.Map.Views.{btree_set_contains_iff}
use Rattle.std.proofs.lemmas.Map.Lookups.{CmpEqualImpliesEq}
use Rattle.std.proofs.lemmas.List.{take_all, take_more}
use Rattle.std.proofs.lemmas.List.Elements.{Contains-append_left, Contains-push, Contains-push_cases}
use Rattle.spec_matches.specs.declared.found.Match.{Match}
use Rattle.spec_matches.specs.contracts.found.MatchOrd.TheImpl.Laws as laws
use Rattle.spec_matches.specs.Matches.{match_cmp, match_eq}
use Rattle.ts_search.specs.Adding.{OfSome}
use Rattle.ts_search.specs.Gathering.{Gathers, Has, IsFull}
use Rattle.ts_search.proofs.PlaceLemmas.{none_in_nil}

pub gathers_none : (P : Match → Type 0) (s : BTreeSet Match) → ((m : Match) → P m → ⊥) → Gathers P s s
gathers_none P s none = record { only = λ m h. inl h; stays = λ m h. h; full = λ f. f; all = λ free m p. absurd (none m p) }

pub gathers_full : (P : Match → Type 0) (s : BTreeSet Match) → IsFull s → Gathers P s s
gathers_full P s full = record { only = λ m h. inl h; stays = λ m h. h; full = λ f. f; all = λ free m p. absurd (free full) }

pub gathers_both : (P Q R : Match → Type 0) (a b c : BTreeSet Match) → Gathers P a b → Gathers Q b c → ((m : Match) → P m → R m) → ((m : Match) → Q m → R m) → ((m : Match) → R m → P m ⊎ Q m) → Gathers R a c
gathers_both P Q R a b c p q first second either = record {
  only = λ m h. ⊎_elim (λ old. ⊎_elim (λ o. inl o) (λ n. inr (first m n)) (p.only m old)) (λ n. inr (second m n)) (q.only m h);
  stays = λ m h. q.stays m (p.stays m h);
  full = λ f. q.full (p.full f);
  all = λ free m r. ⊎_elim (λ n. q.stays m (p.all (λ f. free (q.full f)) m n)) (λ n. q.all free m n) (either m r);
}

pub gathers_same : (P Q : Match → Type 0) (a b : BTreeSet Match) → Gathers P a b → ((m : Match) → P m → Q m) → ((m : Match) → Q m → P m) → Gathers Q a b
gathers_same P Q a b p to from = record {
  only = λ m h. ⊎_elim (λ o. inl o) (λ n. inr (to m n)) (p.only m h);
  stays = p.stays;
  full = p.full;
  all = λ free m r. p.all free m (from m r);
}

-- one more of the elements that a loop goes over
module _ {Y : Type 0} (S : Y → Match → Type 0) where
  pub hits_none : (s : BTreeSet Match) → Gathers (OfSome S []) s s
  hits_none s = gathers_none (OfSome S []) s (λ m h. none_in_nil h.0 h.1)

  pub push_more : (ys : List Y) (y : Y) (a b c : BTreeSet Match) → Gathers (OfSome S ys) a b → Gathers (S y) b c → Gathers (OfSome S (ys ++ y ∷ [])) a c
  push_more ys y a b c before one =
      gathers_both (OfSome S ys) (S y) (OfSome S (ys ++ y ∷ [])) a b c before one
      (λ m h. (h.0, Contains-append_left ys (y ∷ []) h.0 h.1, h.2))
      (λ m h. (y, Contains-push ys y, h))
      (λ m h. ⊎_elim (λ w. inl (h.0, w, h.2)) (λ e. inr (subst (λ (z : Y). S z m) (sym e) h.2)) (Contains-push_cases ys y h.0 h.1))

  pub hits_more : (ys : List Y) (n : ℕ) (y : Y) (a b c : BTreeSet Match) → n < length ys → y ≡ get_or ys n y → Gathers (OfSome S (take n ys)) a b → Gathers (S y) b c → Gathers (OfSome S (take (n + 1) ys)) a c
  hits_more ys n y a b c below is before one =
      let e : take (n + 1) ys ≡ take n ys ++ y ∷ [] = take_more ys n y below ∙ ap (λ (z : Y). take n ys ++ z ∷ []) (sym is) in
      subst (λ (l : List Y). Gathers (OfSome S l) a c) (sym e) (push_more (take n ys) y a b c before one)

  pub hits_all : (ys : List Y) (n : ℕ) (a b : BTreeSet Match) → length ys ≤ n → Gathers (OfSome S (take n ys)) a b → Gathers (OfSome S ys) a b
  hits_all ys n a b past h = subst (λ (l : List Y). Gathers (OfSome S l) a b) (take_all n ys past) h

  pub hits_whole : (ys all : List Y) (a b : BTreeSet Match) → ys ≡ all → Gathers (OfSome S ys) a b → Gathers (OfSome S all) a b
  hits_whole ys all a b whole h = subst (λ (l : List Y). Gathers (OfSome S l) a b) whole h

-- ---- the set itself

match_ties : (x y : Match) → match_eq x y ≡ eq_by_cmp match_cmp x y
match_ties x y = laws.matches_eq-law x y

module _ (same : (x y : Match) → match_eq x y ≡ true → x ≡ y) where
  exact : CmpEqualImpliesEq match_cmp
  exact = λ x y e. same x y (match_ties x y ∙ ap is_eq e)

  pub has_iff : (s : BTreeSet Match) (m : Match) → Has s m ↔ Contains s.keys m
  has_iff s m = btree_set_contains_iff laws.total-law exact s m

  pub gathers_one : (one : Match) (a b : BTreeSet Match) → ((q : Match) → contains match_cmp b q ≡ cond (eq_by_cmp match_cmp one q) true (contains match_cmp a q)) → contains match_cmp b one ≡ true → (IsFull a → ⊥)
      → Gathers (λ m. m ≡ one) a b
  gathers_one one a b updates there free = record {
    only = λ m h. by m (eq_by_cmp match_cmp one m) refl h;
    stays = λ m h. updates m ∙ stay (eq_by_cmp match_cmp one m) (contains match_cmp a m) h;
    full = λ f. absurd (free f);
    all = λ f m e. subst (Has b) (sym e) there;
  }
    where
      by : (m : Match) (t : Bool) → eq_by_cmp match_cmp one m ≡ t → Has b m → Has a m ⊎ (m ≡ one)
      by m true e h = inr (sym (same one m (match_ties one m ∙ e)))
      by m false e h = inl (sym (updates m ∙ ap (λ (t : Bool). cond t true (contains match_cmp a m)) e) ∙ h)

      stay : (t u : Bool) → u ≡ true → cond t true u ≡ true
      stay true u e = refl
      stay false u e = e

pub none_in_empty : (s : BTreeSet Match) → s.keys ≡ [] → (m : Match) → Has s m → ⊥
none_in_empty s e m h = nothing (subst (λ (l : List Match). IsTrue (contains match_cmp (record { keys = l }) m)) e h)
  where
    nothing : IsTrue (contains match_cmp (record { keys = [] }) m) → ⊥
    nothing f = let t : false ≡ true = f in cc
