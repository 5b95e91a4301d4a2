-- A list of items that grows.
use Rattle.std.proofs.Common.{◌≡◌, ◌∙◌, sym, ap, refl, subst, ℕ, ◌+◌, ◌<◌, Bool, true, false, List, [], ◌∷◌, ◌++◌, length, ◌⊎◌, inl, inr, ⊎_elim, if◌then◌else◌, append_assoc, arith, take, get_or}
use Rattle.std.specs.List.{Contains, list_any}
use Rattle.std.proofs.lemmas.List.{append-nil, take_more}
use Rattle.std.proofs.lemmas.List.Elements.{Contains-append_left, Contains-append_cases, Contains-push, Contains-push_cases}
use Rattle.indexmap.specs.IndexSet.{insert_key}
use Rattle.indexmap.proofs.CallerLemmas.{Contains-list_any}
use Rattle.ts_automata.specs.Sets.{Adds}

module _ {X : Type 0} where
  none_in_nil : (x : X) → Contains [] x → ⊥
  none_in_nil x (k, below, _) = omega arith

  pub one_in : (x y : X) → Contains (x ∷ []) y → y ≡ x
  one_in x y h = ⊎_elim (λ n. absurd (none_in_nil y n)) (λ e. sym e) (Contains-push_cases [] x y h)

  pub adds_none : (P : X → Type 0) (xs : List X) → ((i : X) → P i → ⊥) → Adds P xs xs
  adds_none P xs none = record { more = []; is = sym (append-nil xs); only = λ i h. absurd (none_in_nil i h); added = λ i p. absurd (none i p) }

  pub adds_key : (eq : X → X → Bool) → ((x y : X) → eq x y ≡ true → x ≡ y) → (old : List X) (item : X) → Adds (λ i. i ≡ item) old (insert_key eq old item)
  adds_key eq same old item = by (list_any (eq item) old) refl
    where
      by : (b : Bool) → list_any (eq item) old ≡ b → Adds (λ i. i ≡ item) old (if b then old else old ++ item ∷ [])
      by true e = record {
        more = [];
        is = sym (append-nil old);
        only = λ i h. absurd (none_in_nil i h);
        added = λ i p. subst (Contains old) (sym p) (Contains-list_any eq same old item e);
      }
      by false e = record {
        more = item ∷ [];
        is = refl;
        only = λ i h. one_in item i h;
        added = λ i p. subst (Contains (old ++ item ∷ [])) (sym p) (Contains-push old item);
      }

  pub adds_both : (P Q R : X → Type 0) (a b c : List X) → Adds P a b → Adds Q b c → ((i : X) → P i → R i) → ((i : X) → Q i → R i) → ((i : X) → R i → P i ⊎ Q i) → Adds R a c
  adds_both P Q R a b c p q first second either = record {
    more = p.more ++ q.more;
    is = q.is ∙ ap (λ (l : List X). l ++ q.more) p.is ∙ append_assoc a p.more q.more;
    only = λ i h. ⊎_elim (λ n. first i (p.only i n)) (λ n. second i (q.only i n)) (Contains-append_cases p.more q.more i h);
    added = λ i r. ⊎_elim (λ n. subst (λ (l : List X). Contains l i) (sym q.is) (Contains-append_left b q.more i (p.added i n))) (λ n. q.added i n) (either i r);
  }

  pub adds_same : (P Q : X → Type 0) (a b : List X) → Adds P a b → ((i : X) → P i → Q i) → ((i : X) → Q i → P i) → Adds Q a b
  adds_same P Q a b p to from = record { more = p.more; is = p.is; only = λ i h. to i (p.only i h); added = λ i q. p.added i (from i q) }

-- one element of the first ones more
pub kernel_more : (kernel : List ℕ) (k : ℕ) (d : ℕ) (b c : List ℕ) → k < length kernel → Adds (Contains (take k kernel)) [] b
    → Adds (λ i. i ≡ get_or kernel k d) b c → Adds (Contains (take (k + 1) kernel)) [] c
kernel_more kernel k d b c below before one =
    let x : ℕ = get_or kernel k d in
    rw (take_more kernel k d below) (adds_both (Contains (take k kernel)) (λ i. i ≡ x) (Contains (take k kernel ++ x ∷ [])) [] b c before one
    (λ i h. Contains-append_left (take k kernel) (x ∷ []) i h)
    (λ i h. subst (λ (u : ℕ). Contains (take k kernel ++ x ∷ []) u) (sym h) (Contains-push (take k kernel) x))
    (λ i h. ⊎_elim (λ w. inl w) (λ e. inr (sym e)) (Contains-push_cases (take k kernel) x i h)))

pub adds_two : (x y : ℕ) (a b c : List ℕ) → Adds (λ i. i ≡ x) a b → Adds (λ i. i ≡ y) b c → Adds (λ i. (i ≡ x) ⊎ (i ≡ y)) a c
adds_two x y a b c one two = adds_both (λ i. i ≡ x) (λ i. i ≡ y) (λ i. (i ≡ x) ⊎ (i ≡ y)) a b c one two (λ i h. inl h) (λ i h. inr h) (λ i h. h)

pub adds_push : (x : ℕ) (a b : List ℕ) → b ≡ a ++ x ∷ [] → Adds (λ i. i ≡ x) a b
adds_push x a b is = record {
  more = x ∷ [];
  is = is;
  only = λ i h. one_in x i h;
  added = λ i p. subst (λ (l : List ℕ). Contains l i) (sym is) (subst (Contains (a ++ x ∷ [])) (sym p) (Contains-push a x));
}

-- what was added to nothing is all
pub adds_all : (P : ℕ → Type 0) (xs : List ℕ) → Adds P [] xs → (i : ℕ) → (Contains xs i → P i) × (P i → Contains xs i)
adds_all P xs a i = ((λ h. a.only i (subst (λ (l : List ℕ). Contains l i) a.is h)), (λ p. a.added i p))
