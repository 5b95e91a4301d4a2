-- A list of places that grows: the loop that goes along it, and adds what each place asks for,
-- makes the least set.
use Rattle.std.proofs.Common.{◌≡◌, ◌∙◌, sym, ap, refl, subst, ℕ, ◌+◌, ◌<◌, ◌≤◌, ◌⊎◌, ⊎_elim, Bool, true, false, IsTrue, ◌||◌, zero, suc, nat_eq, List, [], ◌∷◌, ◌++◌, length, slice_get, Some, append_assoc, if◌then◌else◌, arith, ◌↔◌}
use Rattle.std.specs.List.{Contains, list_any}
use Rattle.std.proofs.lemmas.Bool.Decides.{nat_tests}
use Rattle.std.proofs.lemmas.List.{append-nil}
use Rattle.std.proofs.lemmas.List.Elements.{Contains-append_left, Contains-append_cases, Contains-push, Contains-push_cases}
use Rattle.indexmap.specs.IndexSet.{insert_key}
use Rattle.indexmap.proofs.CallerLemmas.{Contains-list_any}
use Rattle.ts_base.proofs.PlaceLemmas.{in_prefix}
use Rattle.ts_fit.specs.Searches.{Adds, Least, given, asked}
use Rattle.ts_fit.proofs.ListLemmas.{cases_lt_or_eq, there, at_of}

same_nat : (x y : ℕ) → nat_eq x y ≡ true → x ≡ y
same_nat x y h = grind (arith, nat_tests)

itself : (x : ℕ) → nat_eq x x ≡ true
itself x = grind (arith, nat_tests)

none_in_nil : (x : ℕ) → Contains [] x → ⊥
none_in_nil x (k, below, _) = omega arith

one_in : (x y : ℕ) → Contains (x ∷ []) y → y ≡ x
one_in x y h = ⊎_elim (λ n. absurd (none_in_nil y n)) (λ e. sym e) (Contains-push_cases [] x y h)

any_of_element : (xs : List ℕ) (x : ℕ) (k : ℕ) → slice_get xs k ≡ Some x → list_any (nat_eq x) xs ≡ true
any_of_element [] x k h = cc
any_of_element (y ∷ xs) x zero h = let e : y ≡ x = cc in let t : nat_eq x y ≡ true = subst (λ (z : ℕ). nat_eq x z ≡ true) (sym e) (itself x) in rw t refl
any_of_element (y ∷ xs) x (suc k) h = by (nat_eq x y) (any_of_element xs x k h)
  where
    by : (b : Bool) → list_any (nat_eq x) xs ≡ true → (b || list_any (nat_eq x) xs) ≡ true
    by true e = refl
    by false e = e

pub among : (x : ℕ) (keys : List ℕ) (b : Bool) → b ≡ list_any (nat_eq x) keys → IsTrue b ↔ Contains keys x
among x keys b is = (λ t. Contains-list_any nat_eq (λ a c. same_nat a c) keys x (sym is ∙ t), λ w. is ∙ any_of_element keys x w.0 (at_of keys x w))

pub adds_none : (P : ℕ → Type 0) (xs : List ℕ) → ((i : ℕ) → P i → ⊥) → Adds P xs xs
adds_none P xs none = record { more = []; is = sym (append-nil xs); only = λ i h. absurd (none_in_nil i h); added = λ i p. absurd (none i p) }

pub adds_key : (old : List ℕ) (item : ℕ) → Adds (λ i. i ≡ item) old (insert_key nat_eq old item)
adds_key old item = by (list_any (nat_eq item) old) refl
  where
    by : (b : Bool) → list_any (nat_eq item) old ≡ b → Adds (λ i. i ≡ item) old (if b then old else old ++ item ∷ [])
    by true e = record {
      more = [];
      is = sym (append-nil old);
      only = λ i h. absurd (none_in_nil i h);
      added = λ i p. subst (Contains old) (sym p) (Contains-list_any nat_eq (λ a c. same_nat a c) old item e);
    }
    by false e = record {
      more = item ∷ [];
      is = refl;
      only = λ i h. one_in item i h;
      added = λ i p. subst (Contains (old ++ item ∷ [])) (sym p) (Contains-push old item);
    }

pub adds_both : (P Q R : ℕ → Type 0) (a b c : List ℕ) → Adds P a b → Adds Q b c → ((i : ℕ) → P i → R i) → ((i : ℕ) → Q i → R i) → ((i : ℕ) → R i → P i ⊎ Q i) → Adds R a c
adds_both P Q R a b c p q first second either = record {
  more = p.more ++ q.more;
  is = q.is ∙ ap (λ (l : List ℕ). l ++ q.more) p.is ∙ append_assoc a p.more q.more;
  only = λ i h. ⊎_elim (λ n. first i (p.only i n)) (λ n. second i (q.only i n)) (Contains-append_cases p.more q.more i h);
  added = λ i r. ⊎_elim (λ n. subst (λ (l : List ℕ). Contains l i) (sym q.is) (Contains-append_left b q.more i (p.added i n))) (λ n. q.added i n) (either i r);
}

pub adds_same : (P Q : ℕ → Type 0) (a b : List ℕ) → Adds P a b → ((i : ℕ) → P i → Q i) → ((i : ℕ) → Q i → P i) → Adds Q a b
adds_same P Q a b p to from = record { more = p.more; is = p.is; only = λ i h. to i (p.only i h); added = λ i q. p.added i (from i q) }

-- what the loop keeps
pub record Closing (Asks : ℕ → ℕ → Type 0) (kernel found : List ℕ) (next : ℕ) : Type 0 where
  pub sound : (i : ℕ) → Contains found i → Least Asks kernel i
  pub base : (i : ℕ) → Contains kernel i → Contains found i
  pub done : (k : ℕ) (i j : ℕ) → k < next → slice_get found k ≡ Some i → Asks i j → Contains found j

module _ (Asks : ℕ → ℕ → Type 0) where
  pub closing_begins : (kernel : List ℕ) → Closing Asks kernel kernel 0
  closing_begins kernel = record {
    sound = λ i h. given i h;
    base = λ i h. h;
    done = λ k i j below at e. absurd (omega arith);
  }

  pub closing_more : (kernel found new : List ℕ) (next : ℕ) (from : ℕ) → next < length found → slice_get found next ≡ Some from → Closing Asks kernel found next → Adds (Asks from) found new
      → Closing Asks kernel new (next + 1)
  closing_more kernel found new next from below at before adds = record {
    sound = λ i h. ⊎_elim (λ w. before.sound i w) (λ w. asked from i (before.sound from (there found next from at)) (adds.only i w))
        (Contains-append_cases found adds.more i (subst (λ (l : List ℕ). Contains l i) adds.is h));
    base = λ i h. kept i (before.base i h);
    done = λ k i j lt is e. ⊎_elim
        (λ w. kept j (before.done k i j w (old k i (omega arith) is) e))
        (λ w. adds.added j (subst (λ (x : ℕ). Asks x j) (same i (subst (λ (m : ℕ). slice_get new m ≡ Some i) w is)) e))
        (cases_lt_or_eq k next lt);
  }
    where
      kept : (i : ℕ) → Contains found i → Contains new i
      kept i h = subst (λ (l : List ℕ). Contains l i) (sym adds.is) (Contains-append_left found adds.more i h)

      old : (k : ℕ) (i : ℕ) → k < length found → slice_get new k ≡ Some i → slice_get found k ≡ Some i
      old k i lt is = sym (in_prefix found adds.more k lt) ∙ ap (λ (l : List ℕ). slice_get l k) (sym adds.is) ∙ is

      same : (i : ℕ) → slice_get new next ≡ Some i → i ≡ from
      same i is = let e : Some i ≡ Some from = sym (old next i below is) ∙ at in cc

  pub closed : (kernel found : List ℕ) (next : ℕ) → length found ≤ next → Closing Asks kernel found next → (i : ℕ) → Contains found i ↔ Least Asks kernel i
  closed kernel found next past c i = ((λ h. c.sound i h), (λ h. all i h))
    where
      all : (i : ℕ) → Least Asks kernel i → Contains found i
      all i (given _ h) = c.base i h
      all j (asked i _ h e) = let w = all i h in c.done w.0 i j (let lt = w.1 in omega arith) (at_of found i w) e
