-- Ranges and the characters that they have.
use Rattle.std.proofs.Common.{◌≡◌, ◌≢◌, ℕ, ◌<◌, ◌≤◌, ◌⊎◌, Bool, true, false, not, ◌&&◌, ◌||◌, ◌==◌, nat_le, List, [], ◌∷◌, ◌++◌, length, IfOk, Result, Ok, Err, slice_index_or, zero, suc, Contains, refl, sym, ap, subst, ◌∙◌, true≢false, inl, inr, arith}
use Rattle.std.proofs.lemmas.Bool.{cases_lt, eqb-true, eq-eqb, le-leb}
use Rattle.std.proofs.lemmas.Bool.Decides.{nat_tests}
use Rattle.ucd_case.specs.CaseFolding.{fold_pairs, IsFoldPairs}
use Rattle.ucd_case.specs.FoldOtherRows.{fold_other_rows}
use Rattle.ucd_case.proofs.FoldPairsLemmas.{IsFoldPairs-fold_pairs}
use Rattle.ucd_table.specs.Rows as table
use Rattle.regex_class.specs.Ranges.{Range, in_range, in_ranges, in_image, IsCanonical, HasExactly, KeysRise}
use Rattle.regex_class.specs.declared.Class.{Class}
use Rattle.regex_class.proofs.RangesLemmas.{in_ranges-above_max, in_ranges-append, in_ranges-nil, keys_rise_from, KeysRise-from_test}
use Rattle.ts_pattern.specs.declared.item.Item.{Item}
use Rattle.ts_pattern.specs.Characters.{is_scalar}
use Rattle.ts_pattern.specs.Sets.{Folded, Unless, InItem, InUnion, InSet, AreRangesOf}
use Rattle.ts_pattern.specs.Classify.{Have, in_folded, in_inverted, in_characters}
use Rattle.ts_pattern.specs.declared.item.CharSet.{CharSet}

pub KeysRise-fold_pairs : KeysRise fold_pairs
unfolding keys_rise_from fold_pairs fold_other_rows
KeysRise-fold_pairs = KeysRise-from_test 0 fold_pairs refl

in_ranges-table : (rs : List Range) (c : ℕ) → in_ranges rs c ≡ table.in_ranges rs c
unfolding in_ranges in_range table.in_ranges
in_ranges-table [] c = refl
in_ranges-table (r ∷ rs) c = ap (λ b. in_range r c || b) (in_ranges-table rs c)

-- ranges that pass a test have just what passes it
pub have_test : (rs : List Range) (p : ℕ → Bool) → HasExactly rs p → Have rs (λ c. p c ≡ true)
have_test rs p h c le = (λ g. sym (h c le) ∙ g, λ g. h c le ∙ g)

pub have_table : (rs : List Range) (p : ℕ → Bool) → table.HasExactly rs p → Have rs (λ c. p c ≡ true)
have_table rs p h = have_test rs p (λ c le. in_ranges-table rs c ∙ h c le)

pub have_same : (rs ss : List Range) (M : ℕ → Type 0) → ((c : ℕ) → c ≤ 0x10FFFF → in_ranges ss c ≡ in_ranges rs c) → Have rs M → Have ss M
have_same rs ss M e h c le = (λ g. (h c le).0 (sym (e c le) ∙ g), λ g. e c le ∙ (h c le).1 g)

-- a class that has what one test passes has what an equal test passes
pub HasExactly-along : {E : Type 0} (r : Result Class E) (p q : ℕ → Bool) → ((x : ℕ) → p x ≡ q x) → IfOk r (λ v. HasExactly v.ranges.items p) → IfOk r (λ v. HasExactly v.ranges.items q)
HasExactly-along (Ok v) p q e h = λ x le. h x le ∙ e x
HasExactly-along (Err _) p q e h = h

pub HasExactly-within : {E : Type 0} (r : Result Class E) (p q : ℕ → Bool) → ((x : ℕ) → x ≤ 0x10FFFF → p x ≡ q x) → IfOk r (λ v. HasExactly v.ranges.items p) → IfOk r (λ v. HasExactly v.ranges.items q)
HasExactly-within (Ok v) p q e h = λ x le. h x le ∙ e x le
HasExactly-within (Err _) p q e h = h

-- ---- tests

either_true : (a b : Bool) → (a || b) ≡ true → (a ≡ true) ⊎ (b ≡ true)
either_true true b e = inl refl
either_true false b e = inr e

or_left : (a b : Bool) → a ≡ true → (a || b) ≡ true
or_left true b e = refl
or_left false b e = absurd (true≢false (sym e))

or_right : (a b : Bool) → b ≡ true → (a || b) ≡ true
or_right true b e = refl
or_right false b e = e

and_both : (a b : Bool) → (a && b) ≡ true → (a ≡ true) × (b ≡ true)
and_both true true e = (refl, refl)
and_both true false e = absurd (true≢false (sym e))
and_both false b e = absurd (true≢false (sym e))

and_of : (a b : Bool) → a ≡ true → b ≡ true → (a && b) ≡ true
and_of true true e f = refl
and_of true false e f = f
and_of false b e f = e

not_true : (a : Bool) → not a ≡ true → a ≡ true → ⊥
not_true true e f = true≢false (sym e)
not_true false e f = true≢false (sym f)

true_not : (a : Bool) → (a ≡ true → ⊥) → not a ≡ true
true_not true h = absurd (h refl)
true_not false h = refl

cases_eq : (a b : ℕ) → (a ≡ b) ⊎ (a ≢ b)
cases_eq a b = elim (cases_lt a b) [
  | inl lt ↦ inr (λ e. omega (arith, lt, e))
  | inr ge ↦ elim (cases_lt b a) [
    | inl gt ↦ inr (λ e. omega (arith, gt, e))
    | inr le ↦ inl (omega (arith, ge, le))
  ]
]

-- ---- folding

Contains-more : (x : ℕ × ℕ) (xs : List (ℕ × ℕ)) (y : ℕ × ℕ) → Contains xs y → Contains (x ∷ xs) y
Contains-more x xs y h = (suc h.0, omega (arith, h.1), h.2)

no_place : (k : ℕ) → k < 0 → ⊥
no_place k h = omega (arith, h)

image_true : (ps : List (ℕ × ℕ)) (rs : List Range) (c : ℕ) → in_image ps rs c ≡ true → (d : ℕ) × Contains ps (d, c) × (in_ranges rs d ≡ true)
unfolding in_image
image_true [] rs c e = absurd (true≢false (sym e))
image_true (p ∷ ps) rs c e = elim (either_true (in_ranges rs p.0 && (p.1 == c)) (in_image ps rs c) e) [
  | inl here ↦
      let both = and_both (in_ranges rs p.0) (p.1 == c) here in
      (p.0, (0, omega arith, ap (λ (n : ℕ). (p.0, n)) (eqb-true p.1 c both.1)), both.0)
  | inr there ↦ let i = image_true ps rs c there in (i.0, Contains-more p ps (i.0, c) i.1, i.2)
]

image_at : (ps : List (ℕ × ℕ)) (rs : List Range) (c d k : ℕ) → k < length ps → slice_index_or ps k (d, c) ≡ (d, c) → in_ranges rs d ≡ true → in_image ps rs c ≡ true
unfolding in_image
image_at [] rs c d k lt at e = absurd (no_place k lt)
image_at (p ∷ ps) rs c d zero lt at e =
    or_left (in_ranges rs p.0 && (p.1 == c)) (in_image ps rs c)
    (and_of (in_ranges rs p.0) (p.1 == c) (ap (λ (q : ℕ × ℕ). in_ranges rs q.0) at ∙ e) (eq-eqb p.1 c (ap (λ (q : ℕ × ℕ). q.1) at)))
image_at (p ∷ ps) rs c d (suc k) lt at e = or_right (in_ranges rs p.0 && (p.1 == c)) (in_image ps rs c) (image_at ps rs c d k (omega (arith, lt)) at e)

true_image : (ps : List (ℕ × ℕ)) (rs : List Range) (c d : ℕ) → Contains ps (d, c) → in_ranges rs d ≡ true → in_image ps rs c ≡ true
true_image ps rs c d h e = image_at ps rs c d h.0 h.1 h.2 e

bounded : (rs : List Range) (d : ℕ) → IsCanonical rs → in_ranges rs d ≡ true → d ≤ 0x10FFFF
bounded rs d h e = elim (cases_lt 0x10FFFF d) [
  | inl above ↦ absurd (true≢false (sym e ∙ in_ranges-above_max rs d h above))
  | inr le ↦ le
]

folded_in : (rs : List Range) (M : ℕ → Type 0) → IsFoldPairs fold_pairs → Have rs M → (c : ℕ) → c ≤ 0x10FFFF → Folded true M c → (in_ranges rs c || in_image fold_pairs rs c) ≡ true
folded_in rs M pairs g c le m = elim (cases_eq m.0 c) [
  | inl e ↦ or_left (in_ranges rs c) (in_image fold_pairs rs c) (subst (λ (n : ℕ). in_ranges rs n ≡ true) e ((g m.0 m.1).1 m.2))
  | inr ne ↦ or_right (in_ranges rs c) (in_image fold_pairs rs c) (true_image fold_pairs rs c m.0 ((pairs m.0 c).1 (ne, m.3)) ((g m.0 m.1).1 m.2))
]

pub have_folded : (ignore_case : Bool) (rs ss : List Range) (M : ℕ → Type 0) → IsCanonical rs → HasExactly ss (in_folded ignore_case rs) → Have rs M → Have ss (Folded ignore_case M)
have_folded false rs ss M canonical h g c le = have_same rs ss M h g c le
have_folded true rs ss M canonical h g c le = (
  λ e. elim (either_true (in_ranges rs c) (in_image fold_pairs rs c) (sym (h c le) ∙ e)) [
    | inl here ↦ (c, le, (g c le).0 here, refl)
    | inr there ↦
        let i = image_true fold_pairs rs c there in
        let small = bounded rs i.0 canonical i.2 in
        (i.0, small, (g i.0 small).0 i.2, ((IsFoldPairs-fold_pairs i.0 c).0 i.1).1)
  ],
  λ m. h c le ∙ folded_in rs M IsFoldPairs-fold_pairs g c le m,
)

-- ---- complements and surrogates

pub have_inverted : (inverted : Bool) (rs ss : List Range) (M : ℕ → Type 0) → HasExactly ss (in_inverted inverted rs) → Have rs M → Have ss (λ c. Unless inverted (M c))
have_inverted false rs ss M h g c le = have_same rs ss M h g c le
have_inverted true rs ss M h g c le = (
  λ e m. not_true (in_ranges rs c) (and_both (nat_le c 0x10FFFF) (not (in_ranges rs c)) (sym (h c le) ∙ e)).1 ((g c le).1 m),
  λ n. h c le ∙ and_of (nat_le c 0x10FFFF) (not (in_ranges rs c)) (le-leb c 0x10FFFF le) (true_not (in_ranges rs c) (λ e. n ((g c le).0 e))),
)

pub scalar_or_not : (c : ℕ) → c ≤ 0x10FFFF → not (in_ranges ((0xD800, 0xDFFF) ∷ []) c) ≡ is_scalar c
unfolding in_ranges in_range
scalar_or_not c le = grind (arith, nat_tests)

scalar_within : (c : ℕ) → is_scalar c ≡ true → c ≤ 0x10FFFF
scalar_within c e = grind (arith, nat_tests)

pub ranges_of : (rs us : List Range) (M : ℕ → Type 0) → IsCanonical us → HasExactly us (in_characters rs) → Have rs M → AreRangesOf us M
ranges_of rs us M canonical h g = record {
  canonical = canonical;
  members = λ c. (
    λ e.
        let le = bounded us c canonical e in
        let both = and_both (in_ranges rs c) (is_scalar c) (sym (h c le) ∙ e) in
        (both.1, (g c le).0 both.0),
    λ m.
        let le = scalar_within c m.0 in
        h c le ∙ and_of (in_ranges rs c) (is_scalar c) ((g c le).1 m.1) m.0,
  );
}

-- the ranges of a set, by way of all ranges of its items
pub set_is : (ignore_case : Bool) (set : CharSet) (all class folds sides last : List Range) → IsCanonical class → IsCanonical last →
    Have all (InUnion ignore_case set.items) → HasExactly class (in_ranges all) → HasExactly folds (in_folded ignore_case class) →
    HasExactly sides (in_inverted set.inverted folds) → HasExactly last (in_characters sides) → AreRangesOf last (InSet ignore_case set)
set_is ignore_case set all class folds sides last canonical final g hc hf hs hl =
    ranges_of sides last (InSet ignore_case set) final hl
    (have_inverted set.inverted folds sides (Folded ignore_case (InUnion ignore_case set.items)) hs
    (have_folded ignore_case class folds (InUnion ignore_case set.items) canonical hf
    (have_same all class (InUnion ignore_case set.items) hc g)))

-- the ranges of an item that has what others lack
pub lacking_item : (ignore_case lacking : Bool) (rs class folds sides : List Range) (M : ℕ → Type 0) → lacking ≡ true → IsCanonical class →
    HasExactly class (in_ranges rs) → HasExactly folds (in_folded ignore_case class) → HasExactly sides (in_inverted true folds) →
    Have rs M → Have sides (λ c. Unless lacking (Folded (ignore_case && lacking) M c))
lacking_item ignore_case false rs class folds sides M e canonical hc hf hs g = absurd (true≢false (sym e))
lacking_item true true rs class folds sides M e canonical hc hf hs g =
    have_inverted true folds sides (Folded true M) hs (have_folded true class folds M canonical hf (have_same rs class M hc g))
lacking_item false true rs class folds sides M e canonical hc hf hs g =
    have_inverted true folds sides (Folded false M) hs (have_folded false class folds M canonical hf (have_same rs class M hc g))

-- ---- items

union_push : (ignore_case : Bool) (c : ℕ) (xs : List Item) (x : Item) → InUnion ignore_case xs c ⊎ InItem ignore_case c x → InUnion ignore_case (xs ++ x ∷ []) c
union_push ignore_case c [] x (inl m) = absurd m
union_push ignore_case c [] x (inr m) = inl m
union_push ignore_case c (y ∷ ys) x (inl (inl m)) = inl m
union_push ignore_case c (y ∷ ys) x (inl (inr m)) = inr (union_push ignore_case c ys x (inl m))
union_push ignore_case c (y ∷ ys) x (inr m) = inr (union_push ignore_case c ys x (inr m))

push_union : (ignore_case : Bool) (c : ℕ) (xs : List Item) (x : Item) → InUnion ignore_case (xs ++ x ∷ []) c → InUnion ignore_case xs c ⊎ InItem ignore_case c x
push_union ignore_case c [] x (inl m) = inr m
push_union ignore_case c [] x (inr m) = absurd m
push_union ignore_case c (y ∷ ys) x (inl m) = inl (inl m)
push_union ignore_case c (y ∷ ys) x (inr m) = elim (push_union ignore_case c ys x m) [ inl n ↦ inl (inr n) | inr n ↦ inr n ]

pub have_more : (rs ss : List Range) (ignore_case : Bool) (xs : List Item) (x : Item) → Have rs (InUnion ignore_case xs) → Have ss (λ c. InItem ignore_case c x) → Have (rs ++ ss) (InUnion ignore_case (xs ++ x ∷ []))
have_more rs ss ignore_case xs x g h c le = (
  λ e. union_push ignore_case c xs x (elim (either_true (in_ranges rs c) (in_ranges ss c) (sym (in_ranges-append rs ss c) ∙ e)) [
    | inl a ↦ inl ((g c le).0 a)
    | inr b ↦ inr ((h c le).0 b)
  ]),
  λ m. in_ranges-append rs ss c ∙ elim (push_union ignore_case c xs x m) [
    | inl a ↦ or_left (in_ranges rs c) (in_ranges ss c) ((g c le).1 a)
    | inr b ↦ or_right (in_ranges rs c) (in_ranges ss c) ((h c le).1 b)
  ],
)

pub have_none : (ignore_case : Bool) → Have [] (InUnion ignore_case [])
have_none ignore_case c le = (λ e. absurd (true≢false (sym e ∙ in_ranges-nil c)), λ m. absurd m)
