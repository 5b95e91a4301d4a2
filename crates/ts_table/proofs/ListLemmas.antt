-- Lists: tests that go over them, and what is picked of them.
use Rattle.std.proofs.Common.{◌≡◌, ◌∙◌, sym, ap, refl, subst, ℕ, zero, suc, ◌+◌, ◌<◌, ◌⊎◌, inl, inr, ⊎_elim, List, [], ◌∷◌, ◌++◌, length, take, get_or, slice_get, Some, None, arith, ◌↔◌}
use Rattle.std.proofs.Common.{Bool, true, false, true≢false}
use Rattle.std.specs.Bool.{IsTrue}
use Rattle.std.specs.List.{Contains}
use Rattle.std.proofs.lemmas.List.{take_more}
use Rattle.std.proofs.lemmas.Option.{slice_get_within, slice_get_read, get_or_from_slice_get}
use Rattle.std.proofs.lemmas.List.Elements.{Contains-append_left, Contains-get_or, Contains-push, Contains-push_cases}

pub false_not_true : false ≡ true → ⊥
false_not_true e = true≢false (sym e)

-- the order of two numbers
pub three : (m n : ℕ) → (m < n) ⊎ ((m ≡ n) ⊎ (n < m))
three zero zero = inr (inl refl)
three zero (suc n) = inl (omega arith)
three (suc m) zero = inr (inr (omega arith))
three (suc m) (suc n) = ⊎_elim (λ h. inl (omega (arith, h))) (λ w. ⊎_elim (λ e. inr (inl (ap suc e))) (λ h. inr (inr (omega (arith, h)))) w) (three m n)

module _ {X : Type 0} where
  pub none_in : (x : X) → Contains [] x → ⊥
  none_in x h = let lt = h.1 in omega arith

  pub some_in : (xs : List X) → 0 < length xs → (x : X) × Contains xs x
  some_in [] h = absurd (omega (arith, h))
  some_in (x ∷ xs) h = (x, Contains-get_or (x ∷ xs) 0 x (omega arith))

  pub one_at : (xs : List X) (k : ℕ) (x y : X) → slice_get xs k ≡ Some x → slice_get xs k ≡ Some y → x ≡ y
  one_at xs k x y a b = let e : Some x ≡ Some y = sym a ∙ b in cc

  pub some_at : (xs : List X) (k : ℕ) → k < length xs → (x : X) × (slice_get xs k ≡ Some x)
  some_at [] k h = absurd (omega (arith, h))
  some_at (x ∷ xs) zero h = (x, refl)
  some_at (x ∷ xs) (suc k) h = some_at xs k (omega (arith, h))

  pub read_at : (xs : List X) (k : ℕ) (x : X) → k < length xs → x ≡ get_or xs k x → slice_get xs k ≡ Some x
  read_at xs k x below e = slice_get_read xs (length xs) k x refl below e

  pub at_of : (xs : List X) (x : X) → (h : Contains xs x) → slice_get xs h.0 ≡ Some x
  at_of xs x h = read_at xs h.0 x h.1 (sym h.2)

  pub in_of : (xs : List X) (k : ℕ) (x : X) → slice_get xs k ≡ Some x → Contains xs x
  in_of xs k x at = (k, slice_get_within xs k x at, get_or_from_slice_get xs k x x at)

  pub at_front : (xs ys : List X) (k : ℕ) (x : X) → slice_get xs k ≡ Some x → slice_get (xs ++ ys) k ≡ Some x
  at_front [] ys k x h = absurd (let w = slice_get_within [] k x h in omega (arith, w))
  at_front (z ∷ xs) ys zero x h = h
  at_front (z ∷ xs) ys (suc k) x h = at_front xs ys k x h

  pub snoc_at : (xs : List X) (x y : X) (k : ℕ) → slice_get (xs ++ x ∷ []) k ≡ Some y → (slice_get xs k ≡ Some y) ⊎ ((k ≡ length xs) × (x ≡ y))
  snoc_at [] x y zero h = inr (refl, (let e : Some x ≡ Some y = h in cc))
  snoc_at [] x y (suc k) h = absurd (let e : None ≡ Some y = h in cc)
  snoc_at (z ∷ xs) x y zero h = inl h
  snoc_at (z ∷ xs) x y (suc k) h = ⊎_elim (λ w. inl w) (λ w. inr (ap suc w.0, w.1)) (snoc_at xs x y k h)

  pub append_cases : (xs ys : List X) (x : X) → Contains (xs ++ ys) x → Contains xs x ⊎ Contains ys x
  append_cases xs ys x h = by xs h.0 (at_of (xs ++ ys) x h)
    where
      by : (zs : List X) (k : ℕ) → slice_get (zs ++ ys) k ≡ Some x → Contains zs x ⊎ Contains ys x
      by [] k at = inr (in_of ys k x at)
      by (z ∷ zs) zero at = inl (in_of (z ∷ zs) zero x at)
      by (z ∷ zs) (suc k) at = ⊎_elim (λ w. inl (in_of (z ∷ zs) (suc w.0) x (at_of zs x w))) (λ w. inr w) (by zs k at)

  pub in_right : (xs ys : List X) (x : X) → Contains ys x → Contains (xs ++ ys) x
  in_right [] ys x h = h
  in_right (z ∷ xs) ys x h = let w = in_right xs ys x h in in_of (z ∷ (xs ++ ys)) (suc w.0) x (at_of (xs ++ ys) x w)

  pub in_left : (xs ys : List X) (x : X) → Contains xs x → Contains (xs ++ ys) x
  in_left xs ys x h = Contains-append_left xs ys x h

  pub all_more : (P : X → Type 0) (xs : List X) (k : ℕ) (d : X) → k < length xs → ((q : X) → Contains (take k xs) q → P q) → P (get_or xs k d) → (q : X) → Contains (take (k + 1) xs) q → P q
  all_more P xs k d below so_far one q h = ⊎_elim (λ w. so_far q w) (λ e. subst P e one) (Contains-push_cases (take k xs) (get_or xs k d) q (subst (λ (l : List X). Contains l q) (take_more xs k d below) h))

  pub all_all : (P : X → Type 0) (xs : List X) (k : ℕ) → take k xs ≡ xs → ((q : X) → Contains (take k xs) q → P q) → (q : X) → Contains xs q → P q
  all_all P xs k e so_far q h = so_far q (subst (λ (l : List X). Contains l q) (sym e) h)

  pub some_yes : (P : X → Type 0) (xs kept : List X) (k : ℕ) (d : X) → k < length xs → P (get_or xs k d) → ((r : X) → Contains kept r ↔ (Contains (take k xs) r × P r)) → (r : X) → Contains (kept ++ get_or xs k d ∷ []) r ↔ (Contains (take (k + 1) xs) r × P r)
  some_yes P xs kept k d below holds so_far r = rw (take_more xs k d below) (
    (λ h. ⊎_elim (λ w. let p = (so_far r).0 w in (Contains-append_left (take k xs) (get_or xs k d ∷ []) r p.0, p.1)) (λ e. (subst (Contains (take k xs ++ get_or xs k d ∷ [])) e (Contains-push (take k xs) (get_or xs k d)), subst P e holds)) (Contains-push_cases kept (get_or xs k d) r h)),
    (λ h. ⊎_elim (λ w. Contains-append_left kept (get_or xs k d ∷ []) r ((so_far r).1 (w, h.1))) (λ e. subst (Contains (kept ++ get_or xs k d ∷ [])) e (Contains-push kept (get_or xs k d))) (Contains-push_cases (take k xs) (get_or xs k d) r h.0)),
  )

  pub some_no : (P : X → Type 0) (xs kept : List X) (k : ℕ) (d : X) → k < length xs → (P (get_or xs k d) → ⊥) → ((r : X) → Contains kept r ↔ (Contains (take k xs) r × P r)) → (r : X) → Contains kept r ↔ (Contains (take (k + 1) xs) r × P r)
  some_no P xs kept k d below fails so_far r = rw (take_more xs k d below) (
    (λ h. let p = (so_far r).0 h in (Contains-append_left (take k xs) (get_or xs k d ∷ []) r p.0, p.1)),
    (λ h. ⊎_elim (λ w. (so_far r).1 (w, h.1)) (λ e. absurd (fails (subst P (sym e) h.1))) (Contains-push_cases (take k xs) (get_or xs k d) r h.0)),
  )

  pub some_all : (P : X → Type 0) (xs kept : List X) (k : ℕ) → take k xs ≡ xs → ((r : X) → Contains kept r ↔ (Contains (take k xs) r × P r)) → (r : X) → Contains kept r ↔ (Contains xs r × P r)
  some_all P xs kept k e so_far r = subst (λ (l : List X). Contains kept r ↔ (Contains l r × P r)) e (so_far r)

  pub not_all : (P : X → Type 0) (xs : List X) (k : ℕ) (d : X) (b : Bool) → k < length xs → b ≡ false → IsTrue b ↔ P (get_or xs k d) → (IsTrue false → (q : X) → Contains xs q → P q) × (((q : X) → Contains xs q → P q) → IsTrue false)
  not_all P xs k d b below fails test = ((λ h. absurd (false_not_true h)), (λ all. absurd (false_not_true (sym fails ∙ test.1 (all (get_or xs k d) (Contains-get_or xs k d below))))))

  pub yes_all : (P : X → Type 0) (xs : List X) (k : ℕ) (d : X) (b : Bool) → k < length xs → b ≡ true → IsTrue b ↔ P (get_or xs k d) → ((q : X) → Contains (take k xs) q → P q) → (q : X) → Contains (take (k + 1) xs) q → P q
  yes_all P xs k d b below holds test so_far = all_more P xs k d below so_far (test.0 holds)

  pub end_all : (P : X → Type 0) (xs : List X) (k : ℕ) → take k xs ≡ xs → ((q : X) → Contains (take k xs) q → P q) → (IsTrue true → (q : X) → Contains xs q → P q) × (((q : X) → Contains xs q → P q) → IsTrue true)
  end_all P xs k e so_far = ((λ h. all_all P xs k e so_far), (λ all. refl))

  pub none_more : (P : X → Type 0) (xs : List X) (k : ℕ) (d : X) (b : Bool) → k < length xs → b ≡ false → IsTrue b ↔ P (get_or xs k d) → ((q : X) → Contains (take k xs) q → P q → ⊥) → (q : X) → Contains (take (k + 1) xs) q → P q → ⊥
  none_more P xs k d b below fails test so_far = all_more (λ q. P q → ⊥) xs k d below so_far (λ p. false_not_true (sym fails ∙ test.1 p))

  pub end_none : (P : X → Type 0) (xs : List X) (k : ℕ) → take k xs ≡ xs → ((q : X) → Contains (take k xs) q → P q → ⊥) → (IsTrue false → (q : X) × Contains xs q × P q) × ((q : X) × Contains xs q × P q → IsTrue false)
  end_none P xs k e so_far = ((λ h. absurd (false_not_true h)), (λ h. absurd (all_all (λ q. P q → ⊥) xs k e so_far h.0 h.1 h.2)))

  pub found_one : (P : X → Type 0) (xs : List X) (k : ℕ) (d : X) (b : Bool) → k < length xs → b ≡ true → IsTrue b ↔ P (get_or xs k d) → (IsTrue true → (q : X) × Contains xs q × P q) × ((q : X) × Contains xs q × P q → IsTrue true)
  found_one P xs k d b below holds test = ((λ h. (get_or xs k d, Contains-get_or xs k d below, test.0 holds)), (λ h. refl))

  pub kept_all : (Top : X → Type 0) (xs tops v : List X) → ((r : X) → Contains tops r ↔ (Contains xs r × Top r)) → (length tops ≡ 0 → v ≡ xs) → (0 < length tops → v ≡ tops) → (r : X) → Contains v r ↔ (Contains xs r × (Top r ⊎ ((q : X) → Contains xs q → Top q → ⊥)))
  kept_all Top xs [] v members empty full r = (
    (λ h. (subst (λ (l : List X). Contains l r) (empty refl) h, inr (λ q a t. let w = (members q).1 (a, t) in let lt = w.1 in omega arith))),
    (λ h. subst (λ (l : List X). Contains l r) (sym (empty refl)) h.0),
  )
  kept_all Top xs (x ∷ ts) v members empty full r =
      let is : v ≡ x ∷ ts = full (omega arith) in (
        (λ h. let p = (members r).0 (subst (λ (l : List X). Contains l r) is h) in (p.0, inl p.1)),
        (λ h. subst (λ (l : List X). Contains l r) (sym is) ((members r).1 (h.0, ⊎_elim (λ t. t) (λ none. let p = (members x).0 (Contains-get_or (x ∷ ts) 0 x (omega arith)) in absurd (none x p.0 p.1)) h.1))),
      )

-- ---- what is made of those for which it holds

module _ {X Y : Type 0} (f : X → Y) (P : X → Type 0) where
  abbrev pub Made : List X → Y → Type 0
  Made xs y = (q : X) × Contains xs q × P q × (y ≡ f q)

  pub made_yes : (xs : List X) (found : List Y) (k : ℕ) (d : X) (z : Y) → k < length xs → P (get_or xs k d) → z ≡ f (get_or xs k d) → ((y : Y) → Contains found y ↔ Made (take k xs) y) → (y : Y) → Contains (found ++ z ∷ []) y ↔ Made (take (k + 1) xs) y
  made_yes xs found k d z below holds is so_far y = rw (take_more xs k d below) (
    (λ h. ⊎_elim (λ w. let p = (so_far y).0 w in (p.0, Contains-append_left (take k xs) (get_or xs k d ∷ []) p.0 p.1, p.2, p.3)) (λ e. (get_or xs k d, Contains-push (take k xs) (get_or xs k d), holds, sym e ∙ is)) (Contains-push_cases found z y h)),
    (λ h. ⊎_elim (λ w. Contains-append_left found (z ∷ []) y ((so_far y).1 (h.0, w, h.2, h.3))) (λ e. subst (Contains (found ++ z ∷ [])) (is ∙ ap f e ∙ sym h.3) (Contains-push found z)) (Contains-push_cases (take k xs) (get_or xs k d) h.0 h.1)),
  )

  pub made_no : (xs : List X) (found : List Y) (k : ℕ) (d : X) → k < length xs → (P (get_or xs k d) → ⊥) → ((y : Y) → Contains found y ↔ Made (take k xs) y) → (y : Y) → Contains found y ↔ Made (take (k + 1) xs) y
  made_no xs found k d below fails so_far y = rw (take_more xs k d below) (
    (λ h. let p = (so_far y).0 h in (p.0, Contains-append_left (take k xs) (get_or xs k d ∷ []) p.0 p.1, p.2, p.3)),
    (λ h. ⊎_elim (λ w. (so_far y).1 (h.0, w, h.2, h.3)) (λ e. absurd (fails (subst P (sym e) h.2))) (Contains-push_cases (take k xs) (get_or xs k d) h.0 h.1)),
  )

  pub made_all : (xs : List X) (found : List Y) (k : ℕ) → take k xs ≡ xs → ((y : Y) → Contains found y ↔ Made (take k xs) y) → (y : Y) → Contains found y ↔ Made xs y
  made_all xs found k e so_far y = subst (λ (l : List X). Contains found y ↔ Made l y) e (so_far y)
