-- Each state goes on by one byte as it means.
use Rattle.std.proofs.Common.{◌≡◌, ℕ, ◌+◌, ◌<◌, ◌≤◌, ◌⊎◌, inl, inr, List, [], ◌∷◌, ◌++◌, length, get_or, drop, Bool, true, false, cond, ◌==◌, nat_lt, Option, Some, None, refl, sym, ap, subst, ◌∙◌, ◌↔◌}
use Rattle.std.proofs.lemmas.Bool.{eqb-true, eqb-false, ltb-true, ltb-false}
use Rattle.std.proofs.lemmas.List.{append_assoc, append-nil, drop_more, drop_all}
use Rattle.ts_ojson.specs.declared.class.Class.{Class}
use Rattle.ts_ojson.specs.declared.class.Class.TheVariants as class
use Rattle.ts_ojson.specs.declared.part.Part.{Part}
use Rattle.ts_ojson.specs.declared.part.Part.TheVariants as part
use Rattle.ts_ojson.specs.Pieces.{Piece}
use Rattle.ts_ojson.specs.Pieces.{reading, finished}
use Rattle.ts_ojson.specs.Frames as frame
use Rattle.ts_ojson.specs.declared.word.Word.{Word}
use Rattle.ts_ojson.specs.Roles.{Role}
use Rattle.ts_ojson.specs.Roles as role
use Rattle.ts_ojson.specs.States.{State}
use Rattle.ts_ojson.specs.States as state
use Rattle.ts_ojson.specs.declared.value.OJson.{OJson}
use Rattle.ts_ojson.specs.declared.value.OJson.TheVariants as json
use Rattle.ts_ojson.specs.Json.{Json, number, json_of}
use Rattle.ts_ojson.specs.Text.{Blanks, IsJsonText}
use Rattle.ts_ojson.specs.Strings.{next_piece, IsWithin}
use Rattle.ts_ojson.specs.Machine.{Frames, class_of, digit_next, whole_next, minus_next, more_whole, more_fraction, exponent_next, part_next, part_ends, word_bytes, word_value, Outcome, stuck, goes, fine, after, word_next, number_part, number_next, closed, text_piece, next}
use Rattle.ts_ojson.proofs.JsonLemmas.{json_of_num, json_of_text}
use Rattle.ts_ojson.proofs.Meaning.{Tail, PieceMeans, Rest, TextEnd, Completes, Means}
use Rattle.ts_ojson.proofs.NumberLemmas.{TailNext, tail_forward, tail_back, tail_end, ends_tail}
use Rattle.ts_ojson.proofs.StringLemmas.{head_is, tail_is, text_step}
use Rattle.ts_ojson.proofs.ValueLemmas.{cons_is, nil_is, begun_forward, begun_back, rest_forward, rest_back, item_forward, item_back, name_forward, name_back, colon_forward, colon_back, first_forward, first_back}

-- ---- no number goes on with what may follow a value
abbrev may_follow : Class → Bool
may_follow class.Blank = true
may_follow class.Comma = true
may_follow class.CloseArray = true
may_follow class.CloseObject = true
may_follow c = false

follows : (v : Json) (w : List ℕ) (o : OJson) (k : Frames) (c : Class) → Means (after o k c) v w → may_follow c ≡ true
follows v w o [] class.Blank h = refl
follows v w o [] c h = absurd h
follows v w o (frame.array xs ∷ k) class.Blank h = refl
follows v w o (frame.array xs ∷ k) class.Comma h = refl
follows v w o (frame.array xs ∷ k) class.CloseArray h = refl
follows v w o (frame.array xs ∷ k) c h = absurd h
follows v w o (frame.object xs n ∷ k) class.Blank h = refl
follows v w o (frame.object xs n ∷ k) class.Comma h = refl
follows v w o (frame.object xs n ∷ k) class.CloseObject h = refl
follows v w o (frame.object xs n ∷ k) c h = absurd h

digit_stops : (c : Class) (p : Part) → may_follow c ≡ true → digit_next c p ≡ None
digit_stops class.Zero p e = cc
digit_stops class.Digit p e = cc
digit_stops c p e = refl

whole_stops : (c : Class) → may_follow c ≡ true → whole_next c ≡ None
whole_stops class.Point e = cc
whole_stops class.Exponent e = cc
whole_stops c e = refl

minus_stops : (c : Class) → may_follow c ≡ true → minus_next c ≡ None
minus_stops class.Zero e = cc
minus_stops class.Digit e = cc
minus_stops c e = refl

more_stops : (c : Class) → may_follow c ≡ true → more_whole c ≡ None
more_stops class.Zero e = cc
more_stops class.Digit e = cc
more_stops class.Point e = cc
more_stops class.Exponent e = cc
more_stops c e = refl

fraction_stops : (c : Class) → may_follow c ≡ true → more_fraction c ≡ None
fraction_stops class.Zero e = cc
fraction_stops class.Digit e = cc
fraction_stops class.Exponent e = cc
fraction_stops c e = refl

exponent_stops : (c : Class) → may_follow c ≡ true → exponent_next c ≡ None
exponent_stops class.Zero e = cc
exponent_stops class.Digit e = cc
exponent_stops class.Plus e = cc
exponent_stops class.Minus e = cc
exponent_stops c e = refl

stops : (p : Part) (c : Class) → may_follow c ≡ true → part_next p c ≡ None
stops part.Minus c e = minus_stops c e
stops part.Zero c e = whole_stops c e
stops part.Whole c e = more_stops c e
stops part.Point c e = digit_stops c part.Fraction e
stops part.Fraction c e = fraction_stops c e
stops part.Exponent c e = exponent_stops c e
stops part.Sign c e = digit_stops c part.Power e
stops part.Power c e = digit_stops c part.Power e

-- a test of which both answers are known
yes_means : (v : Json) (w : List ℕ) (x y : Outcome) (t : Bool) → t ≡ true → Means x v w → Means (cond t x y) v w
yes_means v w x y t e h = subst (λ (z : Bool). Means (cond z x y) v w) (sym e) h

test_means : (v : Json) (w : List ℕ) (A : Type 0) (x y : Outcome) (t : Bool) → (t ≡ true → A ↔ Means x v w) → (t ≡ false → A ↔ Means y v w) → A ↔ Means (cond t x y) v w
test_means v w A x y true f g = f refl
test_means v w A x y false f g = g refl

pub number_rest : (s : List ℕ) (k : Frames) (v : Json) (r : List ℕ) → Rest k (number (s ++ [])) v r ↔ Rest k (json_of (json.Num s)) v r
number_rest s k v r =
    let same : number (s ++ []) ≡ json_of (json.Num s) = ap number (append-nil s) ∙ sym (json_of_num s) in
    ((λ h. subst (λ (x : Json). Rest k x v r) same h), (λ h. subst (λ (x : Json). Rest k x v r) (sym same) h))

further_number : (s : List ℕ) (b : ℕ) (t : List ℕ) (k : Frames) (v : Json) (r : List ℕ) → Rest k (number (s ++ b ∷ t)) v r ↔ Rest k (number ((s ++ b ∷ []) ++ t)) v r
further_number s b t k v r =
    let same : number (s ++ b ∷ t) ≡ number ((s ++ b ∷ []) ++ t) = ap number (sym (append_assoc s (b ∷ []) t)) in
    ((λ h. subst (λ (x : Json). Rest k x v r) same h), (λ h. subst (λ (x : Json). Rest k x v r) (sym same) h))

module _ (v : Json) (b : ℕ) (w : List ℕ) where
  -- ---- words
  word_on : (x : Word) (i : ℕ) (k : Frames) → i < length (word_bytes x) → Completes (state.word x i) k v (b ∷ w)
      ↔ Means (cond (get_or (word_bytes x) i 0 == b) (goes fine (state.word x (i + 1)) k) stuck) v w
  word_on x i k lt =
      let l = word_bytes x in
      let more : drop i l ≡ get_or l i 0 ∷ drop (i + 1) l = drop_more l i 0 lt in
      test_means v w (Completes (state.word x i) k v (b ∷ w)) _ _ (get_or l i 0 == b)
      (λ e. let is = eqb-true (get_or l i 0) b e in (
        (λ h. (h.0, tail_is (h.1 ∙ ap (λ z. z ++ h.0) more), h.2)),
        (λ h. (h.0, cons_is (sym is) h.1 ∙ ap (λ z. z ++ h.0) (sym more), h.2)),
      ))
      (λ e. ((λ h. eqb-false (get_or l i 0) b e (sym (head_is (h.1 ∙ ap (λ z. z ++ h.0) more)))), λ h. absurd h))

  word_off : (x : Word) (i : ℕ) (k : Frames) → length (word_bytes x) ≤ i → Completes (state.word x i) k v (b ∷ w) ↔ Means (after (word_value x) k (class_of b)) v w
  word_off x i k le =
      let none : drop i (word_bytes x) ≡ [] = drop_all i (word_bytes x) le in (
        (λ h. rest_forward v b w (word_value x) k (subst (λ (z : List ℕ). Rest k (json_of (word_value x)) v z) (sym (h.1 ∙ ap (λ z. z ++ h.0) none)) h.2)),
        (λ h. (b ∷ w, ap (λ z. z ++ (b ∷ w)) (sym none), rest_back v b w (word_value x) k (class_of b) refl h)),
      )

  word_step : (x : Word) (i : ℕ) (k : Frames) → Completes (state.word x i) k v (b ∷ w) ↔ Means (word_next x i k b) v w
  word_step x i k =
      test_means v w (Completes (state.word x i) k v (b ∷ w)) _ _ (nat_lt i (length (word_bytes x))) (λ e. word_on x i k (ltb-true i (length (word_bytes x)) e)) (λ e. word_off x i k (ltb-false i (length (word_bytes x)) e))

  -- ---- numbers
  number_ends : (p : Part) (s : List ℕ) (k : Frames) → part_ends p ≡ true → Means (after (json.Num s) k (class_of b)) v w → Means (number_next p s k b) v w
  number_ends p s k e h =
      subst (λ (o : Option Part). Means (number_part p s k b o) v w) (sym (stops p (class_of b) (follows v w (json.Num s) k (class_of b) h))) (yes_means v w (after (json.Num s) k (class_of b)) stuck (part_ends p) e h)

  number_goes : (p : Part) (s : List ℕ) (k : Frames) (o : Option Part) (t r : List ℕ) → TailNext o t [] → w ≡ t ++ r → Rest k (number (s ++ b ∷ t)) v r → Means (number_part p s k b o) v w
  number_goes p s k None t r n e h = absurd n
  number_goes p s k (Some q) t r n e h = (t, r, e, n, (further_number s b t k v r).0 h)

  number_more : (p : Part) (s : List ℕ) (k : Frames) (t r : List ℕ) → ([] ≡ b ∷ t) ⊎ TailNext (part_next p (class_of b)) t [] → w ≡ t ++ r → Rest k (number (s ++ b ∷ t)) v r → Means (number_next p s k b) v w
  number_more p s k t r (inl n) e h = absurd (nil_is b t n)
  number_more p s k t r (inr n) e h = number_goes p s k (part_next p (class_of b)) t r n e h

  number_on : (p : Part) (s : List ℕ) (k : Frames) (t r : List ℕ) → b ∷ w ≡ t ++ r → Tail p t [] → Rest k (number (s ++ t)) v r → Means (number_next p s k b) v w
  number_on p s k [] r e n h =
      number_ends p s k (ends_tail p n) (rest_forward v b w (json.Num s) k ((number_rest s k v (b ∷ w)).0 (subst (λ (z : List ℕ). Rest k (number (s ++ [])) v z) (sym e) h)))
  number_on p s k (c ∷ t) r e n h =
      number_more p s k t r (tail_forward p b t [] (subst (λ (z : ℕ). Tail p (z ∷ t) []) (sym (head_is e)) n)) (tail_is e) (subst (λ (z : ℕ). Rest k (number (s ++ z ∷ t)) v r) (sym (head_is e)) h)

  number_ended : (p : Part) (s : List ℕ) (k : Frames) (t : Bool) → part_ends p ≡ t → Means (cond t (after (json.Num s) k (class_of b)) stuck) v w → Completes (state.number p s) k v (b ∷ w)
  number_ended p s k false e h = absurd h
  number_ended p s k true e h = ([], b ∷ w, refl, tail_end p e, (number_rest s k v (b ∷ w)).1 (rest_back v b w (json.Num s) k (class_of b) refl h))

  number_off : (p : Part) (s : List ℕ) (k : Frames) (o : Option Part) → part_next p (class_of b) ≡ o → Means (number_part p s k b o) v w → Completes (state.number p s) k v (b ∷ w)
  number_off p s k None e h = number_ended p s k (part_ends p) refl h
  number_off p s k (Some q) e (t, r, f, n, h) =
      (b ∷ t, r, cons_is refl f, tail_back p b t [] (subst (λ (z : Option Part). TailNext z t []) (sym e) n), (further_number s b t k v r).1 h)

  -- ---- strings
  closed_means : (s : List ℕ) (r : Role) (k : Frames) → TextEnd r k v s w ↔ Means (closed s r k) v w
  closed_means s role.value k = ((λ h. subst (λ (x : Json). Rest k x v w) (sym (json_of_text s)) h), (λ h. subst (λ (x : Json). Rest k x v w) (json_of_text s) h))
  closed_means s (role.name p ms) k = ((λ h. h), λ h. h)

  piece_means : (r : Role) (k : Frames) (o : Option Piece) → PieceMeans (TextEnd r k v) w o ↔ Means (text_piece r k o) v w
  piece_means r k None = ((λ h. h), λ h. h)
  piece_means r k (Some (reading e s)) = ((λ h. h), λ h. h)
  piece_means r k (Some (finished s)) = closed_means s r k

-- numbers in an escape are as they can be
abbrev pub HasEscape : State → Type 0
HasEscape state.value = Unit {0}
HasEscape state.first_item = Unit {0}
HasEscape (state.after j) = Unit {0}
HasEscape state.first_name = Unit {0}
HasEscape (state.name ms) = Unit {0}
HasEscape (state.colon ms n) = Unit {0}
HasEscape (state.word x i) = Unit {0}
HasEscape (state.number p s) = Unit {0}
HasEscape (state.text e s r) = IsWithin e

pub step_is : (at : ℕ) (s : State) (k : Frames) (v : Json) (b : ℕ) (w : List ℕ) → HasEscape s → Completes s k v (b ∷ w) ↔ Means (next at s k b) v w
step_is at state.value k v b w is = ((λ h. begun_forward v b w k h), (λ h. begun_back v b w k (class_of b) refl h))
step_is at state.first_item k v b w is = ((λ h. item_forward v b w k h.0 h.1 h.2 h.3), (λ h. item_back v b w k (class_of b) refl h))
step_is at (state.after j) k v b w is = ((λ h. rest_forward v b w j k h), (λ h. rest_back v b w j k (class_of b) refl h))
step_is at state.first_name k v b w is = ((λ h. first_forward v b w at k h.0 h.1 h.2 h.3), (λ h. first_back v b w at k (class_of b) refl h))
step_is at (state.name ms) k v b w is = ((λ h. name_forward v b w at ms k h), (λ h. name_back v b w at ms k (class_of b) refl h))
step_is at (state.colon ms n) k v b w is = ((λ h. colon_forward v b w ms n k h), (λ h. colon_back v b w ms n k (class_of b) refl h))
step_is at (state.word x i) k v b w is = word_step v b w x i k
step_is at (state.number p s) k v b w is = ((λ h. number_on v b w p s k h.0 h.1 h.2 h.3 h.4), (λ h. number_off v b w p s k (part_next p (class_of b)) refl h))
step_is at (state.text e s r) k v b w is =
    let on = text_step (TextEnd r k v) e s w b is in
    let piece = piece_means v b w r k (next_piece e s b) in
    ((λ h. piece.0 (on.0 h)), (λ h. on.1 (piece.1 h)))

-- ---- the start
pub start_is : (v : Json) (w : List ℕ) → IsJsonText v w ↔ Completes state.value [] v w
start_is v w = ((λ h. (h.0, v, h.1, h.2, h.3, (refl, h.4))), (λ h. (h.0, h.2, h.3, subst (λ (x : Json). Rattle.ts_ojson.specs.Text.Value x h.0 h.2) (sym h.5.0) h.4, h.5.1)))
