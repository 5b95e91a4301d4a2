-- At a place stands one token, or one flaw.
use Rattle.std.proofs.Common.{◌≡◌, ℕ, ◌+◌, ◌<◌, Bool, true, false, ◌==◌, List, [], ◌∷◌, length, refl, sym, ap, subst, ◌∙◌, true≢false, inl, inr, arith}
use Rattle.std.proofs.lemmas.Bool.{cases_lt, eqb-true}
use Rattle.std.proofs.lemmas.List.{get_or_past}
use Rattle.regex_class.specs.Ranges.{in_ranges}
use Rattle.regex_class.proofs.RangesLemmas.{same_members-same}
use Rattle.ts_pattern.specs.declared.sight.Flaw.{Flaw}
use Rattle.ts_pattern.specs.declared.sight.Sight.{Sight}
use Rattle.ts_pattern.specs.declared.sight.Sight.TheVariants.{Sees, Wrong}
use Rattle.ts_pattern.specs.declared.item.Item.{Item}
use Rattle.ts_pattern.specs.declared.sign.Sign.{Sign}
use Rattle.ts_pattern.specs.declared.sign.Sign.TheVariants as sign
use Rattle.ts_pattern.specs.Characters.{Text, ending, peek}
use Rattle.ts_pattern.specs.Classes.{AreClassItems, item, is_class, opens_after, is_inverted, inside, IsClass, IsWrongClass}
use Rattle.ts_pattern.specs.Sets.{InSet, AreRangesOf}
use Rattle.ts_pattern.specs.Signs.{IsSign, IsNoSign}
use Rattle.ts_pattern.specs.Trees.{Token, one_of}
use Rattle.ts_pattern.specs.Reads.{Means, IsTokenAt}

-- ---- sights

abbrev seen_or : {T : Type 0} → T → Sight T → T
seen_or x (Sees y j) = y
seen_or x (Wrong f p) = x

abbrev end_or : {T : Type 0} → ℕ → Sight T → ℕ
end_or i (Sees y j) = j
end_or i (Wrong f p) = p

abbrev flaw_or : {T : Type 0} → Flaw → Sight T → Flaw
flaw_or g (Sees y j) = g
flaw_or g (Wrong f p) = f

abbrev is_seen : {T : Type 0} → Sight T → Bool
is_seen (Sees y j) = true
is_seen (Wrong f p) = false

same_seen : {T : Type 0} (x y : T) (j k : ℕ) → Sees x j ≡ Sees y k → x ≡ y
same_seen x y j k e = ap (seen_or x) e

same_end : {T : Type 0} (x y : T) (j k : ℕ) → Sees x j ≡ Sees y k → j ≡ k
same_end x y j k e = ap (end_or j) e

same_flaw : {T : Type 0} (f g : Flaw) (p q : ℕ) → ◌≡◌ {A = Sight T} (Wrong f p) (Wrong g q) → f ≡ g
same_flaw f g p q e = ap (flaw_or f) e

same_place : {T : Type 0} (f g : Flaw) (p q : ℕ) → ◌≡◌ {A = Sight T} (Wrong f p) (Wrong g q) → p ≡ q
same_place f g p q e = ap (end_or p) e

seen_wrong : {T : Type 0} (x : T) (j : ℕ) (f : Flaw) (p : ℕ) → Sees x j ≡ Wrong f p → ⊥
seen_wrong x j f p e = true≢false (ap is_seen e)

-- ---- classes

abbrev closes : Text → ℕ → Bool
closes w i = peek w i == 93

module _ (w : Text) where
  one_items : (xs ys : List Item) (o : Bool) (i j k : ℕ) → AreClassItems w o i xs j → AreClassItems w o i ys k → closes w j ≡ true → closes w k ≡ true → (xs ≡ ys) × (j ≡ k)
  one_items [] [] o i j k g h a b = (refl, sym g ∙ h)
  one_items [] (y ∷ ys) o i j k g h a b = absurd (true≢false (sym a ∙ ap (closes w) (sym g) ∙ h.1))
  one_items (x ∷ xs) [] o i j k g h a b = absurd (true≢false (sym b ∙ ap (closes w) (sym h) ∙ g.1))
  one_items (x ∷ xs) (y ∷ ys) o i j k g h a b =
      let s : Sees x g.0 ≡ Sees y h.0 = sym g.2 ∙ h.2 in
      let same = same_seen x y g.0 h.0 s in
      let there = subst (λ (z : Item). AreClassItems w (is_class z.base) h.0 ys k) (sym same) h.3 in
      let rest = one_items xs ys (is_class x.base) g.0 j k g.3 (subst (λ (n : ℕ). AreClassItems w (is_class x.base) n ys k) (sym (same_end x y g.0 h.0 s)) there) a b in
      (ap (λ (z : Item). z ∷ xs) same ∙ ap (λ (zs : List Item). y ∷ zs) rest.0, rest.1)

  items_wrong : (xs ys : List Item) (o : Bool) (i j k : ℕ) (f : Flaw) (p : ℕ) → AreClassItems w o i xs j → AreClassItems w o i ys k → closes w j ≡ true → closes w k ≡ false → item w (opens_after o ys) k ≡ Wrong f p → ⊥
  items_wrong [] [] o i j k f p g h a b e = true≢false (sym a ∙ ap (closes w) (sym g ∙ h) ∙ b)
  items_wrong [] (y ∷ ys) o i j k f p g h a b e = true≢false (sym a ∙ ap (closes w) (sym g) ∙ h.1)
  items_wrong (x ∷ xs) [] o i j k f p g h a b e = seen_wrong x g.0 f p (sym g.2 ∙ ap (item w o) h ∙ e)
  items_wrong (x ∷ xs) (y ∷ ys) o i j k f p g h a b e =
      let s : Sees x g.0 ≡ Sees y h.0 = sym g.2 ∙ h.2 in
      let same = same_seen x y g.0 h.0 s in
      let there = subst (λ (z : Item). AreClassItems w (is_class z.base) h.0 ys k) (sym same) h.3 in
      let last = subst (λ (z : Item). item w (opens_after (is_class z.base) ys) k ≡ Wrong f p) (sym same) e in
      items_wrong xs ys (is_class x.base) g.0 j k f p g.3 (subst (λ (n : ℕ). AreClassItems w (is_class x.base) n ys k) (sym (same_end x y g.0 h.0 s)) there) a b last

  one_wrong_item : (xs ys : List Item) (o : Bool) (i j k : ℕ) (f g : Flaw) (p q : ℕ) → AreClassItems w o i xs j → AreClassItems w o i ys k →
      item w (opens_after o xs) j ≡ Wrong f p → item w (opens_after o ys) k ≡ Wrong g q → (f ≡ g) × (p ≡ q)
  one_wrong_item [] [] o i j k f g p q a b d e =
      let s : ◌≡◌ {A = Sight Item} (Wrong f p) (Wrong g q) = sym d ∙ ap (item w o) (sym a ∙ b) ∙ e in (same_flaw f g p q s, same_place f g p q s)
  one_wrong_item [] (y ∷ ys) o i j k f g p q a b d e = absurd (seen_wrong y b.0 f p (sym b.2 ∙ ap (item w o) a ∙ d))
  one_wrong_item (x ∷ xs) [] o i j k f g p q a b d e = absurd (seen_wrong x a.0 g q (sym a.2 ∙ ap (item w o) b ∙ e))
  one_wrong_item (x ∷ xs) (y ∷ ys) o i j k f g p q a b d e =
      let s : Sees x a.0 ≡ Sees y b.0 = sym a.2 ∙ b.2 in
      let same = same_seen x y a.0 b.0 s in
      let there = subst (λ (z : Item). AreClassItems w (is_class z.base) b.0 ys k) (sym same) b.3 in
      let last = subst (λ (z : Item). item w (opens_after (is_class z.base) ys) k ≡ Wrong g q) (sym same) e in
      one_wrong_item xs ys (is_class x.base) a.0 j k f g p q a.3 (subst (λ (n : ℕ). AreClassItems w (is_class x.base) n ys k) (sym (same_end x y a.0 b.0 s)) there) d last

-- ---- signs

is_93 : (n : ℕ) → n ≡ 93 → (n == 93) ≡ true
is_93 n e = subst (λ (m : ℕ). (m == 93) ≡ true) (sym e) refl

one_sign : (w : Text) (i : ℕ) (s u : Sign) (j k : ℕ) → IsSign w i s j → IsSign w i u k → (s ≡ u) × (j ≡ k)
one_sign w i s u j k (inl g) (inl h) =
    let e : Sees s j ≡ Sees u k = sym g.2 ∙ h.2 in (same_seen s u j k e, same_end s u j k e)
one_sign w i s u j k (inl g) (inr h) = absurd (true≢false (sym h.0 ∙ g.0))
one_sign w i s u j k (inr g) (inl h) = absurd (true≢false (sym g.0 ∙ h.0))
one_sign w i s u j k (inr g) (inr h) =
    let a = g.2 in
    let b = h.2 in
    let both = one_items w g.1 h.1 true (inside w i) a.0 b.0 a.2 b.2 (is_93 _ a.3) (is_93 _ b.3) in (
      g.3 ∙ ap (λ (xs : List Item). sign.Set (record { inverted = is_inverted w i; items = xs })) both.0 ∙ sym h.3,
      a.4 ∙ ap (λ (n : ℕ). n + 1) both.1 ∙ sym b.4,
    )

wrong_class : (w : Text) (i : ℕ) (xs : List Item) (j : ℕ) (f : Flaw) (p : ℕ) → IsClass w i xs j → IsWrongClass w i f p → ⊥
wrong_class w i xs j f p g (inl h) = true≢false (sym h.0 ∙ g.1)
wrong_class w i xs j f p g (inr h) =
    let b = h.1 in items_wrong w xs b.0 true (inside w i) g.0 b.1 f p g.2 b.2 (is_93 _ g.3) b.3 b.4

pub sign_or_flaw : (w : Text) (i : ℕ) (s : Sign) (j : ℕ) (f : Flaw) (p : ℕ) → IsSign w i s j → IsNoSign w i f p → ⊥
sign_or_flaw w i s j f p (inl g) (inl h) = seen_wrong s j f p (sym g.2 ∙ h.2)
sign_or_flaw w i s j f p (inl g) (inr h) = true≢false (sym h.0 ∙ g.0)
sign_or_flaw w i s j f p (inr g) (inl h) = true≢false (sym g.0 ∙ h.0)
sign_or_flaw w i s j f p (inr g) (inr h) = wrong_class w i g.1 j f p g.2 h.1

one_wrong_class : (w : Text) (i : ℕ) (f g : Flaw) (p q : ℕ) → IsWrongClass w i f p → IsWrongClass w i g q → (f ≡ g) × (p ≡ q)
one_wrong_class w i f g p q (inl a) (inl b) = (a.1 ∙ sym b.1, a.2 ∙ sym b.2)
one_wrong_class w i f g p q (inl a) (inr b) = absurd (true≢false (sym a.0 ∙ b.0))
one_wrong_class w i f g p q (inr a) (inl b) = absurd (true≢false (sym b.0 ∙ a.0))
one_wrong_class w i f g p q (inr a) (inr b) =
    let x = a.1 in
    let y = b.1 in
    one_wrong_item w x.0 y.0 true (inside w i) x.1 y.1 f g p q x.2 y.2 x.4 y.4

pub one_flaw : (w : Text) (i : ℕ) (f g : Flaw) (p q : ℕ) → IsNoSign w i f p → IsNoSign w i g q → (f ≡ g) × (p ≡ q)
one_flaw w i f g p q (inl a) (inl b) =
    let s : ◌≡◌ {A = Sight Sign} (Wrong f p) (Wrong g q) = sym a.2 ∙ b.2 in (same_flaw f g p q s, same_place f g p q s)
one_flaw w i f g p q (inl a) (inr b) = absurd (true≢false (sym b.0 ∙ a.0))
one_flaw w i f g p q (inr a) (inl b) = absurd (true≢false (sym a.0 ∙ b.0))
one_flaw w i f g p q (inr a) (inr b) = one_wrong_class w i f g p q a.1 b.1

-- ---- tokens

both_true : (a b : Bool) → (a ≡ true → b ≡ true) → (b ≡ true → a ≡ true) → a ≡ b
both_true true b f g = sym (f refl)
both_true false true f g = g refl
both_true false false f g = refl

-- ranges in canonical form are told by their members
pub one_ranges : (M : ℕ → Type 0) (xs ys : List (ℕ × ℕ)) → AreRangesOf xs M → AreRangesOf ys M → xs ≡ ys
one_ranges M xs ys a b =
    same_members-same xs ys a.canonical b.canonical (λ c le. both_true (in_ranges xs c) (in_ranges ys c) (λ h. (b.members c).1 ((a.members c).0 h)) (λ h. (a.members c).1 ((b.members c).0 h)))

pub one_meaning : (ignore_case : Bool) (s : Sign) (t u : Token) → Means ignore_case s t → Means ignore_case s u → t ≡ u
one_meaning ignore_case (sign.Set s) t u g h = g.1 ∙ ap one_of (one_ranges (InSet ignore_case s) g.0 h.0 g.2 h.2) ∙ sym h.1
one_meaning ignore_case sign.Open t u g h = g ∙ sym h
one_meaning ignore_case sign.Close t u g h = g ∙ sym h
one_meaning ignore_case sign.Bar t u g h = g ∙ sym h
one_meaning ignore_case (sign.Times n m) t u g h = g ∙ sym h

pub one_token : (ignore_case : Bool) (w : Text) (i : ℕ) (t u : Token) (j k : ℕ) → IsTokenAt ignore_case w i t j → IsTokenAt ignore_case w i u k → (t ≡ u) × (j ≡ k)
one_token ignore_case w i t u j k g h =
    let both = one_sign w i g.0 h.0 j k g.1 h.1 in
    (one_meaning ignore_case g.0 t u g.2 (subst (λ (s : Sign). Means ignore_case s u) (sym both.0) h.2), both.1)

-- a character stands only within the text
peek_within : (w : Text) (i n : ℕ) → peek w i ≡ n → n < ending → i < length w
peek_within w i n e lt = elim (cases_lt i (length w)) [
  | inl h ↦ h
  | inr h ↦ let past : peek w i ≡ ending = get_or_past w i ending h in omega (arith, e, lt, past)
]

pub token_within : (ignore_case : Bool) (w : Text) (i : ℕ) (t : Token) (j : ℕ) → IsTokenAt ignore_case w i t j → i < length w
token_within ignore_case w i t j g = elim g.1 [ inl h ↦ h.1 | inr h ↦ peek_within w i 91 (eqb-true _ _ h.0) (omega arith) ]

pub no_sign_within : (w : Text) (i : ℕ) (f : Flaw) (p : ℕ) → IsNoSign w i f p → i < length w
no_sign_within w i f p g = elim g [ inl h ↦ h.1 | inr h ↦ peek_within w i 91 (eqb-true _ _ h.0) (omega arith) ]
