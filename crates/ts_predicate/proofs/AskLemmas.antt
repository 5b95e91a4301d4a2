-- One text after another, or one pair after another, leaves the answer open or decides.
use Rattle.std.proofs.Common.{◌≡◌, ◌∙◌, ◌↔◌, sym, ap, refl, subst, ℕ, ◌+◌, ◌<◌, ◌≤◌, suc, ◌⊎◌, inl, inr, ⊎_elim, Bool, true, false, not, nat_eq, cond, IsTrue, List, [], ◌∷◌, ◌++◌, length, map, take, drop, slice_get, get_or, Option, Some, arith}
use Rattle.std.specs.List.{Contains}
use Rattle.std.proofs.lemmas.Bool.{cases_lt}
use Rattle.std.proofs.lemmas.List.{append-nil, map-append, take-append-drop}
use Rattle.std.proofs.lemmas.List.Elements.{Contains-append_left, Contains-push, Contains-push_cases, filter-append, filter_more}
use Rattle.std.proofs.lemmas.Option.{slice_get_within, slice_get-get_or}
use Rattle.ts_base.specs.Bytes.{Bytes}
use Rattle.ts_query_syntax.specs.declared.read_query.Asked.{Asked}
use Rattle.ts_query_syntax.specs.declared.read_query.Asked.TheVariants as asked
use Rattle.ts_query_syntax.specs.declared.read_query.Predicate.{Predicate}
use Rattle.spec_matches.specs.declared.found.Capture.{Capture}
use Rattle.ts_predicate.specs.Asking.{IsOfOne, LeavesOpen, AllLeaveOpen, PairsLeaveOpen}
use Rattle.ts_predicate.specs.Predicates.{IsAs, AsksBy, OfTexts, OfPairs, IsPair, capture_text, named_by, texts_of}

untrue : IsTrue false → ⊥
untrue e = cc

true_by : (b : Bool) → ((IsTrue b → ⊥) → ⊥) → IsTrue b
true_by true h = refl
true_by false h = absurd (h untrue)

carry : (some negated : Bool) (P Q : Type 0) → P ↔ Q → LeavesOpen some negated P → LeavesOpen some negated Q
carry false false P Q is h = is.0 h
carry false true P Q is h = λ q. h (is.1 q)
carry true false P Q is h = λ q. h (is.1 q)
carry true true P Q is h = is.0 h

-- ---- texts

pub open_more : (some negated : Bool) (Is : Bytes → Type 0) (texts : List Bytes) (text : Bytes) (b : Bool) → IsTrue b ↔ Is text → LeavesOpen some negated (IsTrue b) → AllLeaveOpen some negated Is texts → AllLeaveOpen some negated Is (texts ++ text ∷ [])
open_more some negated Is texts text b is here all other w =
    ⊎_elim (λ v. all other v) (λ e. subst (λ (t : Bytes). LeavesOpen some negated (Is t)) e (carry some negated (IsTrue b) (Is text) is here))
    (Contains-push_cases texts text other w)

pub decided : (some negated : Bool) (Is : Bytes → Type 0) (texts : List Bytes) (text : Bytes) (b : Bool) → Contains texts text → IsTrue b ↔ Is text → (LeavesOpen some negated (IsTrue b) → ⊥) → IsTrue some ↔ OfTexts some negated Is texts
decided false false Is texts text b w is closed = ((λ t. absurd (untrue t)), (λ all. absurd (closed (is.1 (all text w)))))
decided false true Is texts text b w is closed = ((λ t. absurd (untrue t)), (λ all. absurd (closed (λ t. all text w (is.0 t)))))
decided true false Is texts text b w is closed = ((λ t. (text, w, is.0 (true_by b closed))), (λ o. refl))
decided true true Is texts text b w is closed = ((λ t. (text, w, (λ q. closed (is.1 q)))), (λ o. refl))

pub ended : (some negated : Bool) (Is : Bytes → Type 0) (texts : List Bytes) → AllLeaveOpen some negated Is texts → IsTrue (not some) ↔ OfTexts some negated Is texts
ended false false Is texts all = ((λ t. all), (λ o. refl))
ended false true Is texts all = ((λ t. all), (λ o. refl))
ended true false Is texts all = ((λ t. absurd (untrue t)), (λ o. absurd (all o.0 o.1 o.2)))
ended true true Is texts all = ((λ t. absurd (untrue t)), (λ o. absurd (o.2 (all o.0 o.1))))

-- ---- pairs

same_some : (x y : Bytes) → ◌≡◌ {A = Option Bytes} (Some x) (Some y) → x ≡ y
same_some x y e = cc

pair_once : (texts others : List Bytes) (k : ℕ) (x y z w : Bytes) → IsPair texts others k x y → IsPair texts others k z w → (x ≡ z) × (y ≡ w)
pair_once texts others k x y z w p q = (same_some x z (sym p.first ∙ q.first), same_some y w (sym p.second ∙ q.second))

pub pairs_more : (some negated : Bool) (texts others : List Bytes) (n : ℕ) (x y : Bytes) (b : Bool) → IsPair texts others n x y → IsTrue b ↔ (x ≡ y) → LeavesOpen some negated (IsTrue b) → PairsLeaveOpen some negated n texts others → PairsLeaveOpen some negated (n + 1) texts others
pairs_more some negated texts others n x y b pair is here all k z w low other = ⊎_elim (λ lt. all k z w lt other) (λ e. last e) (below k n low)
  where
    below : (k n : ℕ) → k < n + 1 → (k < n) ⊎ (k ≡ n)
    below k n h = by (cases_lt k n)
      where
        by : (k < n) ⊎ (n ≤ k) → (k < n) ⊎ (k ≡ n)
        by (inl lt) = inl lt
        by (inr ge) = inr (omega (arith, h, ge))

    last : k ≡ n → LeavesOpen some negated (z ≡ w)
    last e =
        let q : IsPair texts others n z w = subst (λ (m : ℕ). IsPair texts others m z w) e other in
        let s = pair_once texts others n x y z w pair q in
        subst (λ (u : Bytes). LeavesOpen some negated (u ≡ w)) s.0 (subst (λ (u : Bytes). LeavesOpen some negated (x ≡ u)) s.1 (carry some negated (IsTrue b) (x ≡ y) is here))

pub pair_decides : (some negated : Bool) (texts others : List Bytes) (k : ℕ) (x y : Bytes) (b : Bool) → IsPair texts others k x y → IsTrue b ↔ (x ≡ y) → (LeavesOpen some negated (IsTrue b) → ⊥) → IsTrue some ↔ OfPairs some negated texts others
pair_decides false false texts others k x y b p is closed =
    ((λ t. absurd (untrue t)), (λ e. absurd (closed (is.1 (same_some x y (sym p.first ∙ ap (λ (l : List Bytes). slice_get l k) e ∙ p.second))))))
pair_decides false true texts others k x y b p is closed = ((λ t. absurd (untrue t)), (λ all. absurd (closed (λ t. all k x y p (is.0 t)))))
pair_decides true false texts others k x y b p is closed = ((λ t. (k, x, y, p, is.0 (true_by b closed))), (λ o. refl))
pair_decides true true texts others k x y b p is closed = ((λ t. (k, x, y, p, (λ q. closed (is.1 q)))), (λ o. refl))

-- lists of one length whose pairs are equal are equal
same_lists : (texts others : List Bytes) → length texts ≡ length others → ((k : ℕ) (x y : Bytes) → IsPair texts others k x y → x ≡ y) → texts ≡ others
same_lists [] [] e h = refl
same_lists [] (y ∷ ys) e h = absurd (omega (arith, e))
same_lists (x ∷ xs) [] e h = absurd (omega (arith, e))
same_lists (x ∷ xs) (y ∷ ys) e h =
    let first : x ≡ y = h 0 x y (record { first = refl; second = refl }) in
    let rest : xs ≡ ys = same_lists xs ys (omega (arith, e)) (λ k z w p. h (suc k) z w (record { first = p.first; second = p.second })) in
    cc

pub pairs_ended : (some negated : Bool) (texts others : List Bytes) (n : ℕ) → ((k : ℕ) → k < length texts → k < length others → k < n) → (some ≡ false → negated ≡ false → length texts ≡ length others) → PairsLeaveOpen some negated n texts others → IsTrue (not some) ↔ OfPairs some negated texts others
pairs_ended false false texts others n within lengths all = ((λ t. same_lists texts others (lengths refl refl) (λ k x y p. all k x y (within k (slice_get_within texts k x p.first) (slice_get_within others k y p.second)) p)), (λ o. refl))
pairs_ended false true texts others n within lengths all = ((λ t k x y p. all k x y (within k (slice_get_within texts k x p.first) (slice_get_within others k y p.second)) p), (λ o. refl))
pairs_ended true false texts others n within lengths all = ((λ t. absurd (untrue t)), (λ o. absurd (all o.0 o.1 o.2 (within o.0 (slice_get_within texts o.0 o.1 o.3.first) (slice_get_within others o.0 o.2 o.3.second)) o.3 o.4)))
pairs_ended true true texts others n within lengths all = ((λ t. absurd (untrue t)), (λ o. absurd (o.4 (all o.0 o.1 o.2 (within o.0 (slice_get_within texts o.0 o.1 o.3.first) (slice_get_within others o.0 o.2 o.3.second)) o.3))))

-- the same, where the texts are read out of their lists

read_pair : (texts others : List Bytes) (k : ℕ) (x y : Bytes) → k < length texts → k < length others → x ≡ get_or texts k x → y ≡ get_or others k y → IsPair texts others k x y
read_pair texts others k x y low high first second = record {
  first = slice_get-get_or texts k x low ∙ ap (λ (t : Bytes). Some t) (sym first);
  second = slice_get-get_or others k y high ∙ ap (λ (t : Bytes). Some t) (sym second);
}

pub pairs_more_read : (some negated : Bool) (texts others : List Bytes) (k : ℕ) (x y : Bytes) (b : Bool) → k < length texts → k < length others
    → x ≡ get_or texts k x → y ≡ get_or others k y → IsTrue b ↔ (x ≡ y) → LeavesOpen some negated (IsTrue b)
    → PairsLeaveOpen some negated k texts others → PairsLeaveOpen some negated (k + 1) texts others
pairs_more_read some negated texts others k x y b low high first second is here all =
    pairs_more some negated texts others k x y b (read_pair texts others k x y low high first second) is here all

pub pair_decides_read : (some negated : Bool) (texts others : List Bytes) (k : ℕ) (x y : Bytes) (b : Bool) → k < length texts → k < length others
    → x ≡ get_or texts k x → y ≡ get_or others k y → IsTrue b ↔ (x ≡ y) → (LeavesOpen some negated (IsTrue b) → ⊥)
    → IsTrue some ↔ OfPairs some negated texts others
pair_decides_read some negated texts others k x y b low high first second is closed =
    pair_decides some negated texts others k x y b (read_pair texts others k x y low high first second) is closed

-- ---- the texts that a capture names

module _ (text : Bytes) (name : ℕ) (captures : List Capture) (n : ℕ) (d : Capture) (low : n < length captures) where
  abbrev current : Capture
  current = get_or captures n d

  texts_push : texts_of text name (take (n + 1) captures) ≡ texts_of text name (take n captures) ++ map (capture_text text) (cond (nat_eq current.name name) (current ∷ []) [])
  texts_push =
      ap (map (capture_text text)) (filter_more (λ (c : Capture). nat_eq c.name name) captures n d low)
      ∙ map-append (capture_text text) (named_by name (take n captures)) (cond (nat_eq current.name name) (current ∷ []) [])

  pub texts_one : nat_eq current.name name ≡ true → texts_of text name (take (n + 1) captures) ≡ texts_of text name (take n captures) ++ capture_text text current ∷ []
  texts_one named = texts_push ∙ ap (λ (b : Bool). texts_of text name (take n captures) ++ map (capture_text text) (cond b (current ∷ []) [])) named

  pub texts_none : nat_eq current.name name ≡ false → texts_of text name (take (n + 1) captures) ≡ texts_of text name (take n captures)
  texts_none other = texts_push ∙ ap (λ (b : Bool). texts_of text name (take n captures) ++ map (capture_text text) (cond b (current ∷ []) [])) other ∙ append-nil (texts_of text name (take n captures))

  pub text_named : nat_eq current.name name ≡ true → Contains (texts_of text name captures) (capture_text text current)
  text_named named =
      subst (λ (l : List Bytes). Contains l (capture_text text current)) (sym whole)
      (Contains-append_left (texts_of text name (take (n + 1) captures)) (texts_of text name (drop (n + 1) captures)) (capture_text text current)
      (subst (λ (l : List Bytes). Contains l (capture_text text current)) (sym (texts_one named)) (Contains-push (texts_of text name (take n captures)) (capture_text text current))))
    where
      whole : texts_of text name captures ≡ texts_of text name (take (n + 1) captures) ++ texts_of text name (drop (n + 1) captures)
      whole =
          ap (texts_of text name) (sym (take-append-drop (n + 1) captures))
          ∙ ap (map (capture_text text)) (filter-append (λ (c : Capture). nat_eq c.name name) (take (n + 1) captures) (drop (n + 1) captures))
          ∙ map-append (capture_text text) (named_by name (take (n + 1) captures)) (named_by name (drop (n + 1) captures))

-- ---- one predicate

-- where no pairs are asked for, the predicate speaks of texts
pub of_texts_is : (host : ℕ → Bytes → Type 0) (text : Bytes) (captures : List Capture) (p : Predicate) (a : Asked) → IsOfOne a → OfTexts p.some p.negated (IsAs host a) (texts_of text p.capture captures) ≡ AsksBy host text captures p a
of_texts_is host text captures p (asked.Text wanted) one = refl
of_texts_is host text captures p (asked.Capture other) one = absurd one
of_texts_is host text captures p (asked.OneOf all) one = refl
of_texts_is host text captures p (asked.Found search) one = refl
of_texts_is host text captures p (asked.Host number) one = refl
