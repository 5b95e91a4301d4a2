-- Lists of symbols, compared symbol by symbol.
use Rattle.std.proofs.Common.{◌≡◌, ◌∙◌, sym, ap, refl, subst, ℕ, zero, suc, ◌+◌, ◌<◌, ◌≤◌, ◌⊎◌, inl, inr, ⊎_elim, List, [], ◌∷◌, length, drop, get_or, slice_get, Option, Some, None, arith, ◌↔◌, Bool, true, false, nat_lt}
use Rattle.std.specs.Bool.{IsTrue}
use Rattle.std.specs.List.{Contains}
use Rattle.std.proofs.Math.Seq.{drop-cons}
use Rattle.std.proofs.lemmas.List.{drop_all}
use Rattle.ts_core.specs.declared.symbol.Symbol.{Symbol}
use Rattle.spec_tables.specs.Conflicts.{NotAfter, AreRisingRules}
use Rattle.ts_table.specs.declared.refusals.Refusal.{Refusal}
use Rattle.ts_table.specs.Rules.{ComesFirst, IsLesser}
use Rattle.ts_table.proofs.ListLemmas.{three, false_not_true, at_of, in_of, none_in, some_at}
use Rattle.std.proofs.lemmas.Option.{get_or_from_slice_get, slice_get-get_or}
use Rattle.std.proofs.lemmas.Bool.Decides.{nat_tests}

pub not_after_itself : (xs : List Symbol) → NotAfter xs xs
not_after_itself [] = tt
not_after_itself (x ∷ xs) = inr (refl, not_after_itself xs)

not_after_or : (xs ys : List Symbol) → NotAfter xs ys ⊎ (NotAfter xs ys → ⊥)
not_after_or [] ys = inl tt
not_after_or (x ∷ xs) [] = inr (λ h. h)
not_after_or (x ∷ xs) (y ∷ ys) = ⊎_elim
    (λ lt. inl (inl lt))
    (λ o. ⊎_elim
    (λ e. ⊎_elim (λ h. inl (inr (e, h))) (λ f. inr (λ h. ⊎_elim (λ lt. omega (arith, lt, e)) (λ w. f w.1) h)) (not_after_or xs ys))
    (λ gt. inr (λ h. ⊎_elim (λ lt. omega (arith, lt, gt)) (λ w. let e = w.0 in omega (arith, e, gt)) h)) o)
    (three x.0 y.0)

not_after_total : (xs ys : List Symbol) → (NotAfter xs ys → ⊥) → NotAfter ys xs
not_after_total [] ys f = absurd (f tt)
not_after_total (x ∷ xs) [] f = tt
not_after_total (x ∷ xs) (y ∷ ys) f = ⊎_elim (λ lt. absurd (f (inl lt))) (λ o. ⊎_elim (λ e. inr (sym e, not_after_total xs ys (λ h. f (inr (e, h))))) (λ gt. inl gt) o) (three x.0 y.0)

not_after_through : (xs ys zs : List Symbol) → NotAfter xs ys → NotAfter ys zs → NotAfter xs zs
not_after_through [] ys zs a b = tt
not_after_through (x ∷ xs) [] zs a b = absurd a
not_after_through (x ∷ xs) (y ∷ ys) [] a b = absurd b
not_after_through (x ∷ xs) (y ∷ ys) (z ∷ zs) a b = ⊎_elim
    (λ lt. ⊎_elim (λ l. inl (omega (arith, lt, l))) (λ w. let e = w.0 in inl (omega (arith, lt, e))) b)
    (λ v. let d = v.0 in ⊎_elim (λ l. inl (omega (arith, d, l))) (λ w. inr (d ∙ w.0, not_after_through xs ys zs v.1 w.1)) b)
    a

-- ---- with the token before

pub comes_total : (t u : ℕ) (xs ys : List Symbol) → (ComesFirst t xs u ys → ⊥) → ComesFirst u ys t xs
comes_total t u xs ys f = ⊎_elim (λ lt. absurd (f (inl lt))) (λ o. ⊎_elim (λ e. inr (sym e, not_after_total xs ys (λ h. f (inr (e, h))))) (λ gt. inl gt) o) (three t u)

pub comes_stable : (t u : ℕ) (xs ys : List Symbol) → ((ComesFirst t xs u ys → ⊥) → ⊥) → ComesFirst t xs u ys
comes_stable t u xs ys f = ⊎_elim (λ lt. inl lt)
    (λ o. ⊎_elim
    (λ e. ⊎_elim (λ h. inr (e, h)) (λ n. absurd (f (λ c. ⊎_elim (λ lt. omega (arith, lt, e)) (λ w. n w.1) c))) (not_after_or xs ys))
    (λ gt. absurd (f (λ c. ⊎_elim (λ lt. omega (arith, lt, gt)) (λ w. let e = w.0 in omega (arith, e, gt)) c))) o)
    (three t u)

pub comes_through : (t u v : ℕ) (xs ys zs : List Symbol) → ComesFirst t xs u ys → ComesFirst u ys v zs → ComesFirst t xs v zs
comes_through t u v xs ys zs a b = ⊎_elim
    (λ lt. ⊎_elim (λ l. inl (omega (arith, lt, l))) (λ w. let e = w.0 in inl (omega (arith, lt, e))) b)
    (λ p. let d = p.0 in ⊎_elim (λ l. inl (omega (arith, d, l))) (λ w. inr (d ∙ w.0, not_after_through xs ys zs p.1 w.1)) b)
    a

pub comes_itself : (t : ℕ) (xs : List Symbol) → ComesFirst t xs t xs
comes_itself t xs = inr (refl, not_after_itself xs)

-- ---- the loop

-- the lists compare as what is left of them does
abbrev pub LeftCompares : List Symbol → List Symbol → ℕ → Type 0
LeftCompares a b k = NotAfter a b ↔ NotAfter (drop k a) (drop k b)

pub compares_begin : (a b : List Symbol) → LeftCompares a b 0
compares_begin a b = ((λ h. h), (λ h. h))

module _ (a b : List Symbol) (k : ℕ) (x : Symbol) (la : k < length a) (ia : x ≡ get_or a k x) where
  front : (l : List Symbol) (y : Symbol) → k < length l → y ≡ get_or l k y → drop k l ≡ y ∷ drop (k + 1) l
  front l y below is = let e : k + 1 ≡ suc k = omega arith in drop-cons l k y below ∙ ap (λ (z : Symbol). z ∷ drop (suc k) l) (sym is) ∙ ap (λ (j : ℕ). y ∷ drop j l) (sym e)

  pub after_past : length b ≤ k → LeftCompares a b k → IsTrue true ↔ (NotAfter a b → ⊥)
  after_past past left = (
    (λ t h. subst (λ (l : List Symbol). NotAfter l []) (front a x la ia) (subst (NotAfter (drop k a)) (drop_all k b past) (left.0 h))),
    (λ f. refl),
  )

  module _ (y : Symbol) (lb : k < length b) (ib : y ≡ get_or b k y) (left : LeftCompares a b k) where
    heads : NotAfter a b ↔ NotAfter (x ∷ drop (k + 1) a) (y ∷ drop (k + 1) b)
    heads = subst (λ (l : List Symbol). NotAfter a b ↔ NotAfter l (y ∷ drop (k + 1) b)) (front a x la ia) (subst (λ (l : List Symbol). NotAfter a b ↔ NotAfter (drop k a) l) (front b y lb ib) left)

    pub after_here : (c : Bool) → (x.0 ≡ y.0 → ⊥) → IsTrue c ↔ (y.0 < x.0) → IsTrue c ↔ (NotAfter a b → ⊥)
    after_here c apart test = (
      (λ t h. let gt = test.0 t in ⊎_elim (λ lt. omega (arith, lt, gt)) (λ w. apart w.0) (heads.0 h)),
      (λ f. test.1 (⊎_elim (λ lt. absurd (f (heads.1 (inl lt)))) (λ o. ⊎_elim (λ e. absurd (apart e)) (λ gt. gt) o) (three x.0 y.0))),
    )

    pub after_more : x.0 ≡ y.0 → LeftCompares a b (k + 1)
    after_more same = (
      (λ h. ⊎_elim (λ lt. absurd (omega (arith, lt, same))) (λ w. w.1) (heads.0 h)),
      (λ h. heads.1 (inr (same, h))),
    )

pub after_end : (a b : List Symbol) (k : ℕ) → length a ≤ k → LeftCompares a b k → IsTrue false ↔ (NotAfter a b → ⊥)
after_end a b k past left = (
  (λ t. absurd (false_not_true t)),
  (λ f. absurd (f (left.1 (subst (λ (l : List Symbol). NotAfter l (drop k b)) (sym (drop_all k a past)) tt)))),
)

-- ---- the lesser

pub lower_other : (t u : ℕ) (rs us : List Symbol) (c : Bool) → (t ≡ u → ⊥) → IsTrue c ↔ (t < u) → IsTrue c ↔ (ComesFirst u us t rs → ⊥)
lower_other t u rs us c apart test = (
  (λ h f. let lt = test.0 h in ⊎_elim (λ gt. omega (arith, lt, gt)) (λ w. apart (sym w.0)) f),
  (λ f. test.1 (⊎_elim (λ lt. lt) (λ o. ⊎_elim (λ e. absurd (apart e)) (λ gt. absurd (f (inl gt))) o) (three t u))),
)

pub lower_same : (t u : ℕ) (rs us : List Symbol) (c : Bool) → t ≡ u → IsTrue c ↔ (NotAfter us rs → ⊥) → IsTrue c ↔ (ComesFirst u us t rs → ⊥)
lower_same t u rs us c same test = (
  (λ h f. ⊎_elim (λ lt. omega (arith, lt, same)) (λ w. test.0 h w.1) f),
  (λ f. test.1 (λ h. f (inr (sym same, h)))),
)

-- one that is lower, and the old one where it is not
pub lesser_new : (old r : Refusal) (o : Option Refusal) (t : ℕ) (rs : List Symbol) (c : Bool) → o ≡ Some old → r.token ≡ t → r.rules.items ≡ rs → IsTrue c ↔ (ComesFirst old.token old.rules.items t rs → ⊥) → c ≡ true → IsLesser o t rs r
lesser_new old r o t rs c is et er test yes' = record {
  one = inl (et, er);
  new = subst (λ (k : ℕ). ComesFirst k r.rules.items t rs) (sym et) (subst (λ (l : List Symbol). ComesFirst t l t rs) (sym er) (comes_itself t rs));
  before = λ p e.
      let same : old ≡ p = (let f : Some old ≡ Some p = sym is ∙ e in cc) in
      subst (λ (q : Refusal). ComesFirst r.token r.rules.items q.token q.rules.items) same
      (subst (λ (k : ℕ). ComesFirst k r.rules.items old.token old.rules.items) (sym et) (subst (λ (l : List Symbol). ComesFirst t l old.token old.rules.items) (sym er) (comes_total old.token t old.rules.items rs (test.0 yes'))));
}

pub lesser_old : (old : Refusal) (o : Option Refusal) (t : ℕ) (rs : List Symbol) (c : Bool) → o ≡ Some old → IsTrue c ↔ (ComesFirst old.token old.rules.items t rs → ⊥) → c ≡ false → IsLesser o t rs old
lesser_old old o t rs c is test no' = record {
  one = inr is;
  new = comes_stable old.token t old.rules.items rs (λ f. false_not_true (sym no' ∙ test.1 f));
  before = λ p e. let same : old ≡ p = (let f : Some old ≡ Some p = sym is ∙ e in cc) in subst (λ (q : Refusal). ComesFirst old.token old.rules.items q.token q.rules.items) same (comes_itself old.token old.rules.items);
}

pub lesser_first : (r : Refusal) (o : Option Refusal) (t : ℕ) (rs : List Symbol) → o ≡ None → r.token ≡ t → r.rules.items ≡ rs → IsLesser o t rs r
lesser_first r o t rs none et er = record {
  one = inl (et, er);
  new = subst (λ (k : ℕ). ComesFirst k r.rules.items t rs) (sym et) (subst (λ (l : List Symbol). ComesFirst t l t rs) (sym er) (comes_itself t rs));
  before = λ p e. absurd (let f : None ≡ Some p = sym none ∙ e in cc);
}

-- ---- rising lists with the same symbols are one list

rising_head : (x : Symbol) (xs : List Symbol) (s : Symbol) → AreRisingRules (x ∷ xs) → Contains xs s → x.0 < s.0
rising_head x xs s rise h = rise 0 (suc h.0) x s (omega arith) refl (at_of xs s h)

rising_tail : (x : Symbol) (xs : List Symbol) → AreRisingRules (x ∷ xs) → AreRisingRules xs
rising_tail x xs rise j k a b lt aj bk = rise (suc j) (suc k) a b (omega (arith, lt)) aj bk

cons_cases : (x : Symbol) (xs : List Symbol) (s : Symbol) → Contains (x ∷ xs) s → (s ≡ x) ⊎ Contains xs s
cons_cases x xs s h = by h.0 (at_of (x ∷ xs) s h)
  where
    by : (k : ℕ) → slice_get (x ∷ xs) k ≡ Some s → (s ≡ x) ⊎ Contains xs s
    by zero e = inl (let f : Some x ≡ Some s = e in let v : x ≡ s = cc in sym v)
    by (suc k) e = inr (in_of xs k s e)

in_tail : (x : Symbol) (xs : List Symbol) (s : Symbol) → Contains xs s → Contains (x ∷ xs) s
in_tail x xs s h = in_of (x ∷ xs) (suc h.0) s (at_of xs s h)

in_head : (x : Symbol) (xs : List Symbol) → Contains (x ∷ xs) x
in_head x xs = in_of (x ∷ xs) 0 x refl

tail_only : (x y : Symbol) (xs ys : List Symbol) → x ≡ y → AreRisingRules (x ∷ xs) → ((s : Symbol) → Contains (x ∷ xs) s → Contains (y ∷ ys) s) → (s : Symbol) → Contains xs s → Contains ys s
tail_only x y xs ys same rise to s h = ⊎_elim (λ e. absurd (let lt = rising_head x xs s rise h in let f = ap (λ (z : Symbol). z.0) (e ∙ sym same) in omega (arith, lt, f))) (λ w. w) (cons_cases y ys s (to s (in_tail x xs s h)))

pub same_rising : (xs ys : List Symbol) → AreRisingRules xs → AreRisingRules ys → ((s : Symbol) → Contains xs s ↔ Contains ys s) → xs ≡ ys
same_rising [] [] rx ry same = refl
same_rising [] (y ∷ ys) rx ry same = absurd (none_in y ((same y).1 (in_head y ys)))
same_rising (x ∷ xs) [] rx ry same = absurd (none_in x ((same x).0 (in_head x xs)))
same_rising (x ∷ xs) (y ∷ ys) rx ry same =
    let e : x ≡ y = ⊎_elim (λ a. a) (λ hx. ⊎_elim (λ b. sym b) (λ hy. absurd (let p = rising_head y ys x ry hx in let q = rising_head x xs y rx hy in omega (arith, p, q))) (cons_cases x xs y ((same y).1 (in_head y ys)))) (cons_cases y ys x ((same x).0 (in_head x xs))) in
    let rest = same_rising xs ys (rising_tail x xs rx) (rising_tail y ys ry) (λ s. (tail_only x y xs ys e rx (λ z. (same z).0) s, tail_only y x ys xs (sym e) ry (λ z. (same z).1) s)) in
    ap (λ (z : Symbol). z ∷ xs) e ∙ ap (λ (l : List Symbol). y ∷ l) rest

pub lt_iff : (m n : ℕ) → IsTrue (nat_lt m n) ↔ (m < n)
lt_iff m n = ((λ h. grind (arith, nat_tests)), (λ h. grind (arith, nat_tests)))

pub past_end : (a b : List Symbol) (k : ℕ) → k < length a → length b ≤ k → LeftCompares a b k → IsTrue true ↔ (NotAfter a b → ⊥)
past_end a b k la past left = let w = some_at a k la in after_past a b k w.0 la (sym (get_or_from_slice_get a k w.0 w.0 w.1)) past left

pub own_at : (l : List Symbol) (k : ℕ) (d : Symbol) → k < length l → get_or l k d ≡ get_or l k (get_or l k d)
own_at l k d lt = sym (get_or_from_slice_get l k (get_or l k d) (get_or l k d) (slice_get-get_or l k d lt))
