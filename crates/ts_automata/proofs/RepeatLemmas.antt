-- Words and fronts of a repetition, one word at a time.
use Rattle.std.proofs.Common.{◌≡◌, ◌∙◌, sym, ap, subst, refl, ℕ, zero, suc, inl, inr, List, [], ◌++◌, Option, Some, None, arith, ◌↔◌, append_assoc}
use Rattle.std.proofs.lemmas.List.{append-nil}
use Rattle.ts_automata.specs.Grows.{more}
use Rattle.spec_lexing.specs.Words.{Regular, empty, never, one_of, both, either, repeat, Times, AtMost, Below, Word, Front}

pub front_empty : (p : Regular) → Front p []
front_empty empty = refl
front_empty never = refl
front_empty (one_of ranges) = inl refl
front_empty (both p q) = inl (front_empty p)
front_empty (either p q) = inl (front_empty p)
front_empty (repeat p least most) = inl refl

-- the last of several words
times_last : (X : List ℕ → Type 0) (k : ℕ) (w : List ℕ) → Times X (suc k) w → (u : List ℕ) × (v : List ℕ) × (w ≡ u ++ v) × Times X k u × X v
times_last X zero w h = ([], h.0, h.2 ∙ ap (λ (l : List ℕ). h.0 ++ l) h.4 ∙ append-nil h.0, refl, h.3)
times_last X (suc k) w h =
    let r = times_last X k h.1 h.4 in
    (h.0 ++ r.0, r.1, h.2 ∙ ap (λ (l : List ℕ). h.0 ++ l) r.2 ∙ sym (append_assoc h.0 r.0 r.1), (h.0, r.0, refl, h.3, r.3), r.4)

below_most : (k : ℕ) (most : Option ℕ) → AtMost (suc k) most → Below k most
below_most k None h = tt
below_most k (Some m) h = omega arith

pub word_front : (p : Regular) (w : List ℕ) → Word p w → Front p w
word_front empty w h = h
word_front never w h = absurd h
word_front (one_of ranges) w h = inr h
word_front (both p q) w h = inr (h.0, h.1, h.2, h.3, word_front q h.1 h.4)
word_front (either p q) w (inl h) = inl (word_front p w h)
word_front (either p q) w (inr h) = inr (word_front q w h)
word_front (repeat p least most) w (zero, low, high, words) = inl words
word_front (repeat p least most) w (suc k, low, high, words) =
    let r = times_last (Word p) k w words in
    inr (k, below_most k most high, r.0, r.1, r.2, r.3, word_front p r.1 r.4)

-- two expressions with the same words and the same fronts
pub record Alike (p q : Regular) : Type 0 where
  pub words : (w : List ℕ) → Word p w ↔ Word q w
  pub fronts : (w : List ℕ) → Front p w ↔ Front q w

more_at_most : (k : ℕ) (most : Option ℕ) → AtMost k most → AtMost (suc k) (more most)
more_at_most k None h = tt
more_at_most k (Some m) h = omega arith

less_at_most : (k : ℕ) (most : Option ℕ) → AtMost (suc k) (more most) → AtMost k most
less_at_most k None h = tt
less_at_most k (Some m) h = omega arith

more_below : (k : ℕ) (most : Option ℕ) → Below k most → Below (suc k) (more most)
more_below k None h = tt
more_below k (Some m) h = omega arith

less_below : (k : ℕ) (most : Option ℕ) → Below (suc k) (more most) → Below k most
less_below k None h = tt
less_below k (Some m) h = omega arith

none_below : (most : Option ℕ) → Below zero (more most)
none_below None = tt
none_below (Some m) = omega arith

module _ (p : Regular) (least : ℕ) (most : Option ℕ) where
  once_word : (w : List ℕ) → Word (both p (repeat p least most)) w → Word (repeat p (suc least) (more most)) w
  once_word w (u, v, is, word, (k, low, high, words)) = (suc k, (omega arith), more_at_most k most high, (u, v, is, word, words))

  many_word : (w : List ℕ) → Word (repeat p (suc least) (more most)) w → Word (both p (repeat p least most)) w
  many_word w (zero, low, high, words) = absurd (omega arith)
  many_word w (suc k, low, high, (u, v, is, word, words)) = (u, v, is, word, (k, (omega arith), less_at_most k most high, words))

  once_front : (w : List ℕ) → Front (both p (repeat p least most)) w → Front (repeat p (suc least) (more most)) w
  once_front w (inl f) = inr (zero, none_below most, [], w, refl, refl, f)
  once_front w (inr (u, v, is, word, inl e)) =
      inr (zero, none_below most, [], w, refl, refl, subst (λ (l : List ℕ). Front p l) (sym (is ∙ ap (λ (l : List ℕ). u ++ l) e ∙ append-nil u)) (word_front p u word))
  once_front w (inr (u, v, is, word, inr (k, high, a, b, and, words, f))) =
      inr (suc k, more_below k most high, u ++ a, b, is ∙ ap (λ (l : List ℕ). u ++ l) and ∙ sym (append_assoc u a b), (u, a, refl, word, words), f)

  many_front : (w : List ℕ) → Front (repeat p (suc least) (more most)) w → Front (both p (repeat p least most)) w
  many_front w (inl e) = inl (subst (λ (l : List ℕ). Front p l) (sym e) (front_empty p))
  many_front w (inr (zero, high, u, v, is, words, f)) = inl (subst (λ (l : List ℕ). Front p l) (sym (is ∙ ap (λ (l : List ℕ). l ++ v) words)) f)
  many_front w (inr (suc k, high, u, v, is, (a, b, and, word, words), f)) =
      inr (a, b ++ v, is ∙ ap (λ (l : List ℕ). l ++ v) and ∙ append_assoc a b v, word, inr (k, less_below k most high, b, v, refl, words, f))

  -- one word more in front
  pub once_more : Alike (both p (repeat p least most)) (repeat p (suc least) (more most))
  once_more = record {
    words = λ w. (once_word w, many_word w);
    fronts = λ w. (once_front w, many_front w);
  }

-- at most no word is the empty one
pub none_is_empty : (p : Regular) → Alike empty (repeat p 0 (Some 0))
none_is_empty p = record {
  words = λ w. ((λ e. (zero, (omega arith), (omega arith), e)), (λ h. no_words w h));
  fronts = λ w. ((λ e. inl e), (λ h. no_fronts w h));
}
  where
    no_words : (w : List ℕ) → Word (repeat p 0 (Some 0)) w → w ≡ []
    no_words w (zero, low, high, words) = words
    no_words w (suc k, low, high, words) = absurd (omega arith)

    no_fronts : (w : List ℕ) → Front (repeat p 0 (Some 0)) w → w ≡ []
    no_fronts w (inl e) = e
    no_fronts w (inr (k, high, u, v, is, words, f)) = absurd (omega arith)

-- more words at least than at most are none
pub too_few_is_never : (p : Regular) (d : ℕ) → Alike never (repeat p (suc d) (Some 0))
too_few_is_never p d = record {
  words = λ w. ((λ h. absurd h), (λ h. no_words w h));
  fronts = λ w. ((λ e. inl e), (λ h. no_fronts w h));
}
  where
    no_words : (w : List ℕ) → Word (repeat p (suc d) (Some 0)) w → ⊥
    no_words w (k, low, high, words) = omega arith

    no_fronts : (w : List ℕ) → Front (repeat p (suc d) (Some 0)) w → w ≡ []
    no_fronts w (inl e) = e
    no_fronts w (inr (k, high, u, v, is, words, f)) = absurd (omega arith)

-- at least one word, or the empty one
pub or_none : (p : Regular) (m : ℕ) → Alike (either (repeat p 1 (Some m)) empty) (repeat p 0 (Some m))
or_none p m = record {
  words = λ w. (any_words w, some_words w);
  fronts = λ w. (any_fronts w, (λ h. inl h));
}
  where
    any_words : (w : List ℕ) → Word (either (repeat p 1 (Some m)) empty) w → Word (repeat p 0 (Some m)) w
    any_words w (inl (k, low, high, words)) = (k, (omega arith), high, words)
    any_words w (inr e) = (zero, (omega arith), (omega arith), e)

    some_words : (w : List ℕ) → Word (repeat p 0 (Some m)) w → Word (either (repeat p 1 (Some m)) empty) w
    some_words w (zero, low, high, words) = inr words
    some_words w (suc k, low, high, words) = inl (suc k, (omega arith), high, words)

    any_fronts : (w : List ℕ) → Front (either (repeat p 1 (Some m)) empty) w → Front (repeat p 0 (Some m)) w
    any_fronts w (inl h) = h
    any_fronts w (inr e) = inl e
