-- What begins a front is a front.
use Rattle.std.proofs.Common.{◌≡◌, ◌∙◌, sym, ap, subst, refl, ℕ, zero, suc, ◌<◌, ◌⊎◌, inl, inr, List, [], ◌∷◌, ◌++◌, Option, Some, None, append_assoc, arith}
use Rattle.std.proofs.lemmas.List.{append-nil}
use Rattle.spec_lexing.specs.Words.{Regular, empty, never, one_of, both, either, repeat, Times, Below, Word, Front}
use Rattle.spec_lexing.proofs.WordLemmas.{word_front}

-- one list in two parts in two ways: the first part of one ends inside the first part of the other,
-- or not
pub data Cut (u v a b : List ℕ) : Type 0 where
  inside : (c : List ℕ) → a ≡ u ++ c → Cut u v a b
  past : (c : List ℕ) → u ≡ a ++ c → b ≡ c ++ v → Cut u v a b

pub cut : (u v a b : List ℕ) → u ++ v ≡ a ++ b → Cut u v a b
cut [] v a b e = inside a refl
cut (x ∷ u) v [] b e = past (x ∷ u) refl (sym e)
cut (x ∷ u) v (y ∷ a) b e = (let h : x ≡ y = cc in let t : u ++ v ≡ a ++ b = cc in further h (cut u v a b t))
  where
    further : x ≡ y → Cut u v a b → Cut (x ∷ u) v (y ∷ a) b
    further h (inside c is) = inside c (ap (λ (l : List ℕ). y ∷ l) is ∙ ap (λ (z : ℕ). z ∷ (u ++ c)) (sym h))
    further h (past c is rest) = past c (ap (λ (l : List ℕ). x ∷ l) is ∙ ap (λ (z : ℕ). z ∷ (a ++ c)) h) rest

nothing_first : (u v : List ℕ) → u ++ v ≡ [] → u ≡ []
nothing_first [] v e = refl
nothing_first (x ∷ u) v e = cc

-- so many lists, and the beginning of one more
record Several (X F : List ℕ → Type 0) (k : ℕ) (u : List ℕ) : Type 0 where
  count : ℕ
  fewer : count < k
  before : List ℕ
  last : List ℕ
  is : u ≡ before ++ last
  words : Times X count before
  front : F last

abbrev Ends : (X F : List ℕ → Type 0) → ℕ → List ℕ → Type 0
Ends X F k u = (u ≡ []) ⊎ Several X F k u

several_more : (X F : List ℕ → Type 0) → ((x y : List ℕ) → X (x ++ y) → F x) → (k : ℕ) (u v a b : List ℕ) → X a → Times X k b
    → ((c : List ℕ) → b ≡ c ++ v → Ends X F k c) → Cut u v a b → Ends X F (suc k) u
several_more X F step k u v a b word words deep (inside c e) = inr (record { count = zero; fewer = omega arith; before = []; last = u; is = refl; words = refl; front = step u c (subst X e word) })
several_more X F step k u v a b word words deep (past c e f) = by (deep c f)
  where
    by : Ends X F k c → Ends X F (suc k) u
    by (inl none) =
        let same : a ≡ u ++ [] = sym (append-nil a) ∙ ap (λ (l : List ℕ). a ++ l) (sym none) ∙ sym e ∙ sym (append-nil u) in
        inr (record { count = zero; fewer = omega arith; before = []; last = u; is = refl; words = refl; front = step u [] (subst X same word) })
    by (inr s) = inr (record {
      count = suc s.count;
      fewer = (let l = s.fewer in omega arith);
      before = a ++ s.before;
      last = s.last;
      is = e ∙ ap (λ (l : List ℕ). a ++ l) s.is ∙ sym (append_assoc a s.before s.last);
      words = (a, s.before, refl, word, s.words);
      front = s.front;
    })

times_front : (X F : List ℕ → Type 0) → ((x y : List ℕ) → X (x ++ y) → F x) → (k : ℕ) (u v : List ℕ) → Times X k (u ++ v) → Ends X F k u
times_front X F step zero u v e = inl (nothing_first u v e)
times_front X F step (suc k) u v (a, b, is, word, words) =
    several_more X F step k u v a b word words (λ c f. times_front X F step k c v (subst (λ (l : List ℕ). Times X k l) f words)) (cut u v a b is)

below_fewer : (j k : ℕ) (most : Option ℕ) → j < k → Below k most → Below j most
below_fewer j k None lt h = tt
below_fewer j k (Some m) lt h = omega arith

both_prefix : (p q : Regular) → ((x y : List ℕ) → Front p (x ++ y) → Front p x) → ((x y : List ℕ) → Front q (x ++ y) → Front q x)
    → (u v a b : List ℕ) → Word p a → Front q b → Cut u v a b → Front (both p q) u
both_prefix p q P Q u v a b word f (inside c e) = inl (P u c (subst (λ (l : List ℕ). Front p l) e (word_front p a word)))
both_prefix p q P Q u v a b word f (past c e rest) = inr (a, c, e, word, Q c v (subst (λ (l : List ℕ). Front q l) rest f))

repeat_prefix : (p : Regular) (least : ℕ) (most : Option ℕ) → ((x y : List ℕ) → Front p (x ++ y) → Front p x)
    → (u v a b : List ℕ) (k : ℕ) → Below k most → Times (Word p) k a → Front p b → Cut u v a b → Front (repeat p least most) u
repeat_prefix p least most P u v a b k below words f (past c e rest) = inr (k, below, a, c, e, words, P c v (subst (λ (l : List ℕ). Front p l) rest f))
repeat_prefix p least most P u v a b k below words f (inside c e) = by (times_front (Word p) (Front p) (λ x y w. P x y (word_front p (x ++ y) w)) k u c (subst (λ (l : List ℕ). Times (Word p) k l) e words))
  where
    by : (u ≡ []) ⊎ Several (Word p) (Front p) k u → Front (repeat p least most) u
    by (inl none) = inl none
    by (inr s) = inr (s.count, below_fewer s.count k most s.fewer below, s.before, s.last, s.is, s.words, s.front)

pub front_prefix : (p : Regular) (u v : List ℕ) → Front p (u ++ v) → Front p u
front_prefix empty u v e = nothing_first u v e
front_prefix never u v e = nothing_first u v e
front_prefix (one_of ranges) u v (inl e) = inl (nothing_first u v e)
front_prefix (one_of ranges) u v (inr (c, e, member)) = by (cut u v (c ∷ []) [] (e ∙ sym (append-nil (c ∷ []))))
  where
    by : Cut u v (c ∷ []) [] → Front (one_of ranges) u
    by (inside [] is) = inr (c, sym (is ∙ append-nil u), member)
    by (inside (d ∷ ds) is) = inl (none u is)
      where
        none : (l : List ℕ) → c ∷ [] ≡ l ++ d ∷ ds → l ≡ []
        none [] f = refl
        none (x ∷ []) f = cc
        none (x ∷ y ∷ l) f = cc
    by (past x is rest) = inr (c, is ∙ ap (λ (l : List ℕ). c ∷ l) (nothing_first x v (sym rest)), member)
front_prefix (both p q) u v (inl f) = inl (front_prefix p u v f)
front_prefix (both p q) u v (inr (a, b, is, word, f)) = both_prefix p q (front_prefix p) (front_prefix q) u v a b word f (cut u v a b is)
front_prefix (either p q) u v (inl f) = inl (front_prefix p u v f)
front_prefix (either p q) u v (inr f) = inr (front_prefix q u v f)
front_prefix (repeat p least most) u v (inl e) = inl (nothing_first u v e)
front_prefix (repeat p least most) u v (inr (k, below, a, b, is, words, f)) = repeat_prefix p least most (front_prefix p) u v a b k below words f (cut u v a b is)
