-- Which of two entries an ordering puts earlier.
use Rattle.std.proofs.Common.{◌≡◌, ◌∙◌, sym, ap, refl, subst, ℕ, suc, ◌+◌, ◌<◌, inl, List, [], ◌∷◌, length, drop, get_or, arith, ◌↔◌}
use Rattle.std.proofs.Math.Seq.{drop-cons}
use Rattle.ts_core.specs.declared.flat.Entry.{Entry}
use Rattle.spec_tables.specs.Actions.{Orders, Decides, FirstOrders, by_this, by_a_later, SomeDecides, this_does, a_later_does}
use Rattle.ts_table.specs.declared.orderings.Preference.{Preference}
use Rattle.ts_table.specs.declared.orderings.Preference.TheVariants.{First, Neither}

neither_first : Neither ≡ First → ⊥
neither_first e = cc

-- ---- the first that decides

first_past : (x : List Entry) (xs : List (List Entry)) (a b : Entry) → (Decides x a b → ⊥) → FirstOrders (x ∷ xs) a b ↔ FirstOrders xs a b
first_past x xs a b none = (to, (λ f. by_a_later x xs a b none f))
  where
    to : FirstOrders (x ∷ xs) a b → FirstOrders xs a b
    to (by_this _ _ _ _ o) = absurd (none (inl o))
    to (by_a_later _ _ _ _ _ f) = f

some_past : (x : List Entry) (xs : List (List Entry)) (a b : Entry) → (Decides x a b → ⊥) → SomeDecides (x ∷ xs) a b ↔ SomeDecides xs a b
some_past x xs a b none = (to, (λ f. a_later_does x xs a b f))
  where
    to : SomeDecides (x ∷ xs) a b → SomeDecides xs a b
    to (this_does _ _ _ _ d) = absurd (none d)
    to (a_later_does _ _ _ _ f) = f

first_none : (a b : Entry) → FirstOrders [] a b → ⊥
first_none a b h = elim h [ ]

some_none : (a b : Entry) → SomeDecides [] a b → ⊥
some_none a b h = elim h [ ]

first_at : (x : List Entry) (xs : List (List Entry)) (a b : Entry) → ((Decides x a b → ⊥) → ⊥) → FirstOrders (x ∷ xs) a b → Orders x a b
first_at x xs a b does (by_this _ _ _ _ o) = o
first_at x xs a b does (by_a_later _ _ _ _ none f) = absurd (does none)

-- what is left of the orderings decides as all of them do
pub record LeftDecides (all rest : List (List Entry)) (a b : Entry) : Type 0 where
  pub first : FirstOrders all a b ↔ FirstOrders rest a b
  pub some : SomeDecides all a b ↔ SomeDecides rest a b

pub left_begins : (all : List (List Entry)) (a b : Entry) → LeftDecides all (drop 0 all) a b
left_begins all a b = record { first = ((λ h. h), (λ h. h)); some = ((λ h. h), (λ h. h)) }

module _ (all : List (List Entry)) (k : ℕ) (x : List Entry) (a b : Entry) (below : k < length all) (is : x ≡ get_or all k x) where
  front : drop k all ≡ x ∷ drop (k + 1) all
  front = let e : k + 1 ≡ suc k = omega arith in drop-cons all k x below ∙ ap (λ (y : List Entry). y ∷ drop (suc k) all) (sym is) ∙ ap (λ (j : ℕ). x ∷ drop j all) (sym e)

  pub left_more : (Decides x a b → ⊥) → LeftDecides all (drop k all) a b → LeftDecides all (drop (k + 1) all) a b
  left_more none so_far =
      let l = subst (λ (rest : List (List Entry)). LeftDecides all rest a b) front so_far in
      let f = first_past x (drop (k + 1) all) a b none in
      let s = some_past x (drop (k + 1) all) a b none in
      record {
        first = ((λ h. f.0 (l.first.0 h)), (λ h. l.first.1 (f.1 h)));
        some = ((λ h. s.0 (l.some.0 h)), (λ h. l.some.1 (s.1 h)));
      }

  pub here_first : (r : Preference) → (r ≡ First) ↔ Orders x a b → (r ≡ Neither) ↔ (Decides x a b → ⊥) → (r ≡ Neither → ⊥) → LeftDecides all (drop k all) a b → (r ≡ First) ↔ FirstOrders all a b
  here_first r first neither does so_far =
      let l = subst (λ (rest : List (List Entry)). LeftDecides all rest a b) front so_far in (
        (λ e. l.first.1 (by_this x (drop (k + 1) all) a b (first.0 e))),
        (λ h. first.1 (first_at x (drop (k + 1) all) a b (λ none. does (neither.1 none)) (l.first.0 h))),
      )

  pub here_neither : (r : Preference) → (r ≡ Neither) ↔ (Decides x a b → ⊥) → (r ≡ Neither → ⊥) → LeftDecides all (drop k all) a b → (r ≡ Neither) ↔ (SomeDecides all a b → ⊥)
  here_neither r neither does so_far =
      let l = subst (λ (rest : List (List Entry)). LeftDecides all rest a b) front so_far in (
        (λ e. absurd (does e)),
        (λ f. neither.1 (λ d. f (l.some.1 (this_does x (drop (k + 1) all) a b d)))),
      )

pub end_first : (all rest : List (List Entry)) (a b : Entry) → rest ≡ [] → LeftDecides all rest a b → (Neither ≡ First) ↔ FirstOrders all a b
end_first all rest a b none l = ((λ e. absurd (neither_first e)), (λ h. absurd (first_none a b (subst (λ (r : List (List Entry)). FirstOrders r a b) none (l.first.0 h)))))

pub end_neither : (all rest : List (List Entry)) (a b : Entry) → rest ≡ [] → LeftDecides all rest a b → (Neither ≡ Neither) ↔ (SomeDecides all a b → ⊥)
end_neither all rest a b none l = ((λ e h. some_none a b (subst (λ (r : List (List Entry)). SomeDecides r a b) none (l.some.0 h))), (λ f. refl))
