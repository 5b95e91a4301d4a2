-- Lists whose elements are like those of a kind, one of them at least, where there are any.
use Rattle.std.proofs.Common.{◌≡◌, ◌∙◌, sym, ap, refl, subst, ℕ, ◌+◌, ◌<◌, ◌≤◌, List, [], ◌∷◌, ◌++◌, length, ◌⊎◌, inl, inr, ⊎_elim, take, get_or, Bool, true, false, ◌↔◌}
use Rattle.std.specs.List.{Contains}
use Rattle.std.proofs.lemmas.List.{take_more, take_all}
use Rattle.std.proofs.lemmas.List.Elements.{Contains-append_left, Contains-append_cases, Contains-push, Contains-push_cases}
use Rattle.ts_search.specs.Adding.{Adds, AreLike, FindsMost, Holds, IsLike, OfSome, Yields}
use Rattle.ts_search.proofs.GainLemmas.{late, not_both}
use Rattle.ts_search.proofs.PlaceLemmas.{none_in_nil}

module _ {X : Type 0} where
  in_nothing : (xs : List X) (x : X) → xs ≡ [] → Contains xs x → ⊥
  in_nothing xs x e h = none_in_nil x (subst (λ (l : List X). Contains l x) e h)

module _ {X : Type 0} (R : X → X → Type 0) where
  pub like_to : (P Q : X → Type 0) → ((i : X) → P i → Q i) → (i : X) → IsLike R P i → IsLike R Q i
  like_to P Q to i h = (h.0, to h.0 h.1, h.2)

  pub are_same : (P Q : X → Type 0) (xs : List X) → AreLike R P xs → ((i : X) → P i → Q i) → ((i : X) → Q i → P i) → AreLike R Q xs
  are_same P Q xs a to from = record { only = λ i h. like_to P Q to i (a.only i h); all = λ i q. a.all i (from i q) }

  pub yields_same : (P Q : X → Type 0) (u v : Bool) (xs : List X) → Yields R P u v xs → ((i : X) → P i → Q i) → ((i : X) → Q i → P i) → Yields R Q u v xs
  yields_same P Q u v xs y to from = record {
    part = record { only = λ i h. like_to P Q to i (y.part.only i h); any = λ i q. y.part.any i (from i q) };
    earlier = y.earlier;
    all = λ e i q. y.all e i (from i q);
  }

  pub yields_exact : (P : X → Type 0) (w : Bool) (xs : List X) → AreLike R P xs → Yields R P w w xs
  yields_exact P w xs are = record {
    part = record { only = are.only; any = λ i p. let x = are.all i p in (x.0, x.1) };
    earlier = λ e. e;
    all = λ e. are.all;
  }

  pub yields_none : (P : X → Type 0) (u v : Bool) (xs : List X) → xs ≡ [] → (v ≡ false → u ≡ false) → ((i : X) → P i → ⊥) → Yields R P u v xs
  yields_none P u v xs e earlier none = record {
    part = record { only = λ i h. absurd (in_nothing xs i e h); any = λ i p. absurd (none i p) };
    earlier = earlier;
    all = λ f i p. absurd (none i p);
  }

  pub yields_nothing : (P : X → Type 0) (w : Bool) (xs : List X) → xs ≡ [] → ((i : X) → P i → ⊥) → Yields R P w w xs
  yields_nothing P w xs e none = yields_none P w w xs e (λ f. f) none

  -- where nothing is found nothing was left out
  pub yields_empty : (P : X → Type 0) (u v w : Bool) (xs : List X) → Yields R P u v xs → xs ≡ [] → Yields R P w w xs
  yields_empty P u v w xs y e = yields_nothing P w xs e (λ i p. let x = y.part.any i p in in_nothing xs x.0 e x.1)

  pub yields_each : (P : X → Type 0) (u v : Bool) (b c : List X) → Yields R P u v b → ((i : X) → Contains c i ↔ Contains b i) → Yields R P u v c
  yields_each P u v b c y each = record {
    part = record { only = λ i h. y.part.only i ((each i).0 h); any = λ i p. let x = y.part.any i p in (x.0, (each x.0).1 x.1) };
    earlier = y.earlier;
    all = λ e i p. like_to (Contains b) (Contains c) (λ j. (each j).1) i (y.all e i p);
  }

  -- where nothing was left out these are all
  pub yields_all : (P : X → Type 0) (u v : Bool) (xs : List X) → Yields R P u v xs → v ≡ false → AreLike R P xs
  yields_all P u v xs y e = record { only = y.part.only; all = y.all e }

  pub yields_both : (P Q S : X → Type 0) (u v w : Bool) (a more b : List X) → Yields R P u v a → Yields R Q v w more → Adds (Contains more) a b
      → ((i : X) → P i → S i) → ((i : X) → Q i → S i) → ((i : X) → S i → P i ⊎ Q i) → Yields R S u w b
  yields_both P Q S u v w a more b p q adds first second either = record {
    part = record {
      only = λ i h. ⊎_elim (λ n. like_to P S first i (p.part.only i n)) (λ n. like_to Q S second i (q.part.only i (adds.only i n))) (Contains-append_cases a adds.more i (subst (λ (l : List X). Contains l i) adds.is h));
      any = λ i r. ⊎_elim (λ n. let x = p.part.any i n in (x.0, stays x.0 x.1)) (λ n. let x = q.part.any i n in (x.0, adds.added x.0 x.1)) (either i r);
    };
    earlier = λ e. p.earlier (q.earlier e);
    all = λ e i r. ⊎_elim (λ n. like_to (Contains a) (Contains b) stays i (p.all (q.earlier e) i n)) (λ n. like_to (Contains more) (Contains b) adds.added i (q.all e i n)) (either i r);
  }
    where
      stays : (i : X) → Contains a i → Contains b i
      stays i h = subst (λ (l : List X). Contains l i) (sym adds.is) (Contains-append_left a adds.more i h)

  some_in : (xs : List X) → (xs ≡ [] → ⊥) → (j : X) × Contains xs j
  some_in [] fails = absurd (fails refl)
  some_in (x ∷ xs) fails = (x, Contains-append_left (x ∷ []) xs x (Contains-push [] x))

  -- each element is like itself
  module _ (itself : (i : X) → R i i) where
    pub like_each : (P : X → Type 0) (xs : List X) → ((i : X) → Contains xs i ↔ P i) → AreLike R P xs
    like_each P xs are = record { only = λ i h. (i, (are i).0 h, itself i); all = λ i p. (i, (are i).1 p, itself i) }

    -- some were left out of those that are found, and one at least is there
    pub yields_cut : (P : X → Type 0) (u v w now : Bool) (xs : List X) → FindsMost P v w xs → now ≡ true → (xs ≡ [] → ⊥) → Yields R P u now xs
    yields_cut P u v w now xs finds cut fails = record {
      part = record { only = λ i h. (i, finds.only i h, itself i); any = λ i p. some_in xs fails };
      earlier = late u now cut;
      all = λ e. absurd (not_both now cut e);
    }

  -- what is like an element that is like a third is like that one
  module _ (through : (i j k : X) → R i j → R j k → R i k) where
    pub like_like : (P Q : X → Type 0) → ((i : X) → P i → IsLike R Q i) → (i : X) → IsLike R P i → IsLike R Q i
    like_like P Q to i h = let x = to h.0 h.1 in (x.0, x.1, through i h.0 x.0 h.2 x.2)

    pub are_like : (P : X → Type 0) (b c : List X) → AreLike R P b → AreLike R (Contains b) c → AreLike R P c
    are_like P b c y are = record {
      only = λ i h. like_like (Contains b) P y.only i (are.only i h);
      all = λ i p. like_like (Contains b) (Contains c) are.all i (y.all i p);
    }

    -- each is like one of other elements, of which each is like one of a third kind
    pub yields_like : (P Q : X → Type 0) (u v x : Bool) (xs : List X) → Yields R P v x xs → (v ≡ false → u ≡ false) → ((i : X) → P i → IsLike R Q i) → ((i : X) → Q i → (j : X) × P j) → (v ≡ false → (i : X) → Q i → IsLike R P i)
        → Yields R Q u x xs
    yields_like P Q u v x xs y earlier to any from = record {
      part = record { only = λ i h. like_like P Q to i (y.part.only i h); any = λ i q. let p = any i q in y.part.any p.0 p.1 };
      earlier = λ e. earlier (y.earlier e);
      all = λ e i q. like_like P (Contains xs) (y.all e) i (from (y.earlier e) i q);
    }

-- one more of the elements that a loop goes over
module _ {X Y : Type 0} (R : X → X → Type 0) (S : Y → X → Type 0) where
  pub yield_empty : (w : Bool) (a : List X) → a ≡ [] → Yields R (OfSome S []) w w a
  yield_empty w a e = yields_nothing R (OfSome S []) w a e (λ i h. none_in_nil h.0 h.1)

  pub yield_more : (ys : List Y) (n : ℕ) (y : Y) (u v w : Bool) (a more b : List X) → n < length ys → y ≡ get_or ys n y → Yields R (OfSome S (take n ys)) u v a → Yields R (S y) v w more → Adds (Contains more) a b
      → Yields R (OfSome S (take (n + 1) ys)) u w b
  yield_more ys n y u v w a more b below is before one adds =
      let e : take (n + 1) ys ≡ take n ys ++ y ∷ [] = take_more ys n y below ∙ ap (λ (z : Y). take n ys ++ z ∷ []) (sym is) in
      subst (λ (l : List Y). Yields R (OfSome S l) u w b) (sym e)
      (yields_both R (OfSome S (take n ys)) (S y) (OfSome S (take n ys ++ y ∷ [])) u v w a more b before one adds
      (λ i h. (h.0, Contains-append_left (take n ys) (y ∷ []) h.0 h.1, h.2))
      (λ i h. (y, Contains-push (take n ys) y, h))
      (λ i h. ⊎_elim (λ m. inl (h.0, m, h.2)) (λ f. inr (subst (λ (z : Y). S z i) (sym f) h.2)) (Contains-push_cases (take n ys) y h.0 h.1)))

  pub yield_all : (ys : List Y) (n : ℕ) (u v : Bool) (a : List X) → length ys ≤ n → Yields R (OfSome S (take n ys)) u v a → Yields R (OfSome S ys) u v a
  yield_all ys n u v a past h = subst (λ (l : List Y). Yields R (OfSome S l) u v a) (take_all n ys past) h

-- facts that hold but for what was left out
module _ (A B C D : Type 0) where
  pub holds_same : (u v : Bool) → Holds A B u v → (A → C) → (B → D) → Holds C D u v
  holds_same u v h part whole = record { holds = part h.holds; earlier = h.earlier; all = λ e. whole (h.all e) }

  pub holds_more : (u v w : Bool) → Holds A B u v → (w ≡ false → v ≡ false) → (A → C) → (w ≡ false → B → D) → Holds C D u w
  holds_more u v w h step part whole = record { holds = part h.holds; earlier = λ e. h.earlier (step e); all = λ e. whole e (h.all (step e)) }

pub holds_exact : (A B : Type 0) (w : Bool) → A → B → Holds A B w w
holds_exact A B w a b = record { holds = a; earlier = λ e. e; all = λ e. b }
