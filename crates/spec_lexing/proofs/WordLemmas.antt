-- Words are fronts.
use Rattle.std.proofs.Common.{◌≡◌, ◌∙◌, ap, refl, ℕ, zero, suc, inl, inr, List, [], ◌++◌, Option, Some, None, arith, append_assoc, sym}
use Rattle.std.proofs.lemmas.List.{append-nil}
use Rattle.spec_lexing.specs.Words.{Regular, empty, never, one_of, both, either, repeat, Times, AtMost, Below, Word, Front}

-- the empty list is a front of everything
pub front_nothing : (p : Regular) → Front p []
front_nothing empty = refl
front_nothing never = refl
front_nothing (one_of ranges) = inl refl
front_nothing (both p q) = inl (front_nothing p)
front_nothing (either p q) = inl (front_nothing p)
front_nothing (repeat p least most) = inl refl

-- the last of several lists
times_last : (X : List ℕ → Type 0) (k : ℕ) (w : List ℕ) → Times X (suc k) w
    → (u : List ℕ) × (v : List ℕ) × (w ≡ u ++ v) × Times X k u × X v
times_last X zero w h = ([], h.0, h.2 ∙ ap (λ (l : List ℕ). h.0 ++ l) h.4 ∙ append-nil h.0, refl, h.3)
times_last X (suc k) w h =
    let r = times_last X k h.1 h.4 in
    (h.0 ++ r.0, r.1, h.2 ∙ ap (λ (l : List ℕ). h.0 ++ l) r.2 ∙ sym (append_assoc h.0 r.0 r.1), (h.0, r.0, refl, h.3, r.3), r.4)

below_most : (k : ℕ) (most : Option ℕ) → AtMost (suc k) most → Below k most
below_most k None h = tt
below_most k (Some m) h = omega arith

-- a word is a front of itself
pub word_front : (p : Regular) (w : List ℕ) → Word p w → Front p w
word_front empty w h = h
word_front never w h = absurd h
word_front (one_of ranges) w h = inr h
word_front (both p q) w h = inr (h.0, h.1, h.2, h.3, word_front q h.1 h.4)
word_front (either p q) w (inl h) = inl (word_front p w h)
word_front (either p q) w (inr h) = inr (word_front q w h)
word_front (repeat p least most) w (zero, low, high, words) = inl words
word_front (repeat p least most) w (suc k, low, high, words) =
    let r = times_last (Word p) k w words in
    inr (k, below_most k most high, r.0, r.1, r.2, r.3, word_front p r.1 r.4)
