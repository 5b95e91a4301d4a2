-- What a text may end in.
use Rattle.std.proofs.Common.{◌≡◌, ℕ, suc, ◌+◌, List, [], ◌∷◌, ◌++◌, length, get_or, drop, Bool, true, false, cond, nat_lt, Some, None, refl, sym, ap, subst, ◌∙◌, arith}
use Rattle.std.proofs.lemmas.Bool.{ltb-true, ltb-false}
use Rattle.std.proofs.lemmas.List.{append-nil, drop_more, drop_all}
use Rattle.ts_ojson.specs.declared.part.Part.{Part}
use Rattle.ts_ojson.specs.declared.escape.Escape.{Escape}
use Rattle.ts_ojson.specs.declared.escape.Escape.TheVariants.{Plain, Backslash, First, Second, Third, Fourth, High, HighBackslash, LowFirst, LowSecond, LowThird, LowFourth}
use Rattle.ts_ojson.specs.Frames as frame
use Rattle.ts_ojson.specs.declared.word.Word.{Word}
use Rattle.ts_ojson.specs.States.{State}
use Rattle.ts_ojson.specs.States as state
use Rattle.ts_ojson.specs.declared.value.OJson.{OJson}
use Rattle.ts_ojson.specs.declared.value.OJson.TheVariants as json
use Rattle.ts_ojson.specs.Json.{Json, null, boolean, number, string, array, object, Items, no_items, item, Members, no_members, member, json_of}
use Rattle.ts_ojson.specs.Characters.{Mark, raw, short, unit, pair, Characters, Quoted}
use Rattle.ts_ojson.specs.Text.{Value, FirstItem, FirstMember}
use Rattle.ts_ojson.specs.Machine.{Frames, part_ends, word_bytes, word_value, ended_in, ended}
use Rattle.ts_ojson.proofs.Meaning.{UnitRest, LowRest, InText, Rest, Begun, TextEnd, Completes}
use Rattle.ts_ojson.proofs.NumberLemmas.{tail_end, ends_tail, no_number}
use Rattle.ts_ojson.proofs.StringLemmas.{head_is, tail_is}
use Rattle.ts_ojson.proofs.ValueLemmas.{nil_is}
use Rattle.ts_ojson.proofs.StepLemmas.{number_rest}

-- ---- nothing begins with no bytes
no_quoted : (n a r : List ℕ) → a ≡ [] → Quoted n a r → ⊥
no_quoted n a r e (u, ms, h, x) = nil_is 34 u (sym e ∙ h)

no_value : (j : Json) (a r : List ℕ) → a ≡ [] → Value j a r → ⊥
no_value null a r e h = nil_is 110 (117 ∷ 108 ∷ 108 ∷ r) (sym e ∙ h)
no_value (boolean true) a r e h = nil_is 116 (114 ∷ 117 ∷ 101 ∷ r) (sym e ∙ h)
no_value (boolean false) a r e h = nil_is 102 (97 ∷ 108 ∷ 115 ∷ 101 ∷ r) (sym e ∙ h)
no_value (number []) a r e h = no_number h.1
no_value (number (c ∷ s)) a r e h = nil_is c (s ++ r) (sym e ∙ h.0)
no_value (string s) a r e h = no_quoted s a r e h
no_value (array js) a r e h = nil_is 91 h.0 (sym e ∙ h.1)
no_value (object ms) a r e h = nil_is 123 h.0 (sym e ∙ h.1)

no_begun : (k : Frames) (v : Json) → Begun k v [] → ⊥
no_begun k v (a, j, b, e, x, h) = no_value j a b e x

no_first : (m : Items) (t : List ℕ) → FirstItem m [] t → ⊥
no_first no_items t e = nil_is 93 t (sym e)
no_first (item j m) t (u, (a, c, e, x, last), more) = no_value j a c e x

no_member : (m : Members) (t : List ℕ) → FirstMember m [] t → ⊥
no_member no_members t e = nil_is 125 t (sym e)
no_member (member n j m) t (q, z, (a, c, e, x, last), more, others) = no_quoted n a c e x

no_characters : (ms : List Mark) (t r : List ℕ) → Characters ms t [] r → ⊥
no_characters [] t r h = nil_is 34 r h.1
no_characters (raw c ∷ ms) t r (q, v, is, h, x, y) = nil_is c v h
no_characters (short y c ∷ ms) t r (q, v, is, h, x, z) = nil_is 92 (y ∷ v) h
no_characters (unit u ∷ ms) t r (q, v, is, (z, h, x), y, more) = nil_is 92 (117 ∷ z) h
no_characters (pair i l ∷ ms) t r (q, m, v, i2, l2, (z, h, x), y, o, more) = nil_is 92 (117 ∷ z) h

lone : (y : ℕ) (v : List ℕ) → 92 ∷ [] ≡ 92 ∷ y ∷ v → ⊥
lone y v h = nil_is y v (tail_is h)

no_backslash : (ms : List Mark) (t r : List ℕ) → Characters ms t (92 ∷ []) r → ⊥
no_backslash [] t r h = let e = head_is h.1 in omega arith
no_backslash (raw c ∷ ms) t r (q, v, is, h, x, y) = is.2 (sym (head_is h))
no_backslash (short y c ∷ ms) t r (q, v, is, h, x, z) = lone y v h
no_backslash (unit u ∷ ms) t r (q, v, is, (z, h, x), y, more) = lone 117 z h
no_backslash (pair i l ∷ ms) t r (q, m, v, i2, l2, (z, h, x), y, o, more) = lone 117 z h

module _ (K : List ℕ → List ℕ → Type 0) where
  no_unit : (c n : ℕ) (s : List ℕ) → UnitRest (suc c) n s K [] → ⊥
  no_unit c n s (u, a, (d, v, h, x, z), y) = nil_is d v h

  no_low : (i c n : ℕ) (s : List ℕ) → LowRest i (suc c) n s K [] → ⊥
  no_low i c n s (l, a, low, (d, v, h, x, z), y) = nil_is d v h

  pub no_text : (e : Escape) (s : List ℕ) → InText e s K [] → ⊥
  no_text Plain s h = no_characters h.0 h.1 h.2 h.3
  no_text Backslash s h = no_backslash h.0 h.1 h.2 h.3
  no_text First s h = no_unit 3 0 s h
  no_text (Second n) s h = no_unit 2 n s h
  no_text (Third n) s h = no_unit 1 n s h
  no_text (Fourth n) s h = no_unit 0 n s h
  no_text (High i) s (l, a, low, (v, h, x), y) = nil_is 92 (117 ∷ v) h
  no_text (HighBackslash i) s (l, a, low, (v, h, x), y) = lone 117 v h
  no_text (LowFirst i) s h = no_low i 3 0 s h
  no_text (LowSecond i) s h = no_low i 2 13 s h
  no_text (LowThird i n) s h = no_low i 1 n s h
  no_text (LowFourth i n) s h = no_low i 0 n s h

-- ---- the end
rest_end : (k : Frames) (j v : Json) → Rest k j v [] → (k ≡ []) × (v ≡ j)
rest_end [] j v h = (refl, h.0)
rest_end (frame.array xs ∷ k) j v (a, no_items, t, e, more, h) = absurd (nil_is 93 t (sym e ∙ more))
rest_end (frame.array xs ∷ k) j v (a, item i m, t, e, (u, q, more, x, others), h) = absurd (nil_is 44 u (sym e ∙ more))
rest_end (frame.object ms n ∷ k) j v (a, no_members, t, e, more, h) = absurd (nil_is 125 t (sym e ∙ more))
rest_end (frame.object ms n ∷ k) j v (a, member l i m, t, e, (u, q, z, more, x, y, others), h) = absurd (nil_is 44 u (sym e ∙ more))

abbrev pub EndsAs : State → Frames → Json → Type 0
EndsAs s k v = (o : OJson) × (ended s k ≡ Some o) × (v ≡ json_of o)

ends_empty : (s : State) (k : Frames) (v j : Json) (o : OJson) → ended_in s ≡ Some o → j ≡ json_of o → Rest k j v [] → EndsAs s k v
ends_empty s k v j o e f h = let end = rest_end k j v h in (o, subst (λ (x : Frames). ended s x ≡ Some o) (sym end.0) e, end.1 ∙ f)

word_ends : (x : Word) (i : ℕ) (k : Frames) (v : Json) (t : Bool) → nat_lt i (length (word_bytes x)) ≡ t → Completes (state.word x i) k v [] → EndsAs (state.word x i) k v
word_ends x i k v true e (r, h, more) =
    absurd (nil_is (get_or (word_bytes x) i 0) (drop (i + 1) (word_bytes x) ++ r) (h ∙ ap (λ z. z ++ r) (drop_more (word_bytes x) i 0 (ltb-true i (length (word_bytes x)) e))))
word_ends x i k v false e (r, h, more) =
    ends_empty (state.word x i) k v (json_of (word_value x)) (word_value x) (ap (λ t. cond t None (Some (word_value x))) e) refl
    (subst (λ (z : List ℕ). Rest k (json_of (word_value x)) v z) (sym (h ∙ ap (λ z. z ++ r) (drop_all i (word_bytes x) (ltb-false i (length (word_bytes x)) e)))) more)

pub ended_is : (s : State) (k : Frames) (v : Json) → Completes s k v [] → EndsAs s k v
ended_is state.value k v h = absurd (no_begun k v h)
ended_is state.first_item k v h = absurd (no_first h.0 h.1 h.2)
ended_is (state.after o) k v h = ends_empty (state.after o) k v (json_of o) o refl refl h
ended_is state.first_name k v h = absurd (no_member h.0 h.1 h.2)
ended_is (state.name ms) k v h = absurd (no_quoted h.1 h.0 h.2 h.3 h.4)
ended_is (state.colon ms n) k v h = absurd (nil_is 58 h.0 (sym h.1))
ended_is (state.word x i) k v h = word_ends x i k v (nat_lt i (length (word_bytes x))) refl h
ended_is (state.number p s) k v ([], r, e, n, h) =
    ends_empty (state.number p s) k v (json_of (json.Num s)) (json.Num s) (ap (λ t. cond t (Some (json.Num s)) None) (ends_tail p n)) refl
    ((number_rest s k v []).0 (subst (λ (z : List ℕ). Rest k (number (s ++ [])) v z) (sym e) h))
ended_is (state.number p s) k v (c ∷ t, r, e, n, h) = absurd (nil_is c (t ++ r) e)
ended_is (state.text e s r) k v h = absurd (no_text (TextEnd r k v) e s h)

some_is : {A : Type 0} (x y : A) → Some x ≡ Some y → x ≡ y
some_is x y e = cc

word_back : (x : Word) (i : ℕ) (o : OJson) (t : Bool) → nat_lt i (length (word_bytes x)) ≡ t → cond t None (Some (word_value x)) ≡ Some o → Completes (state.word x i) [] (json_of o) []
word_back x i o true e h = let differ : None ≡ Some o = h in cc
word_back x i o false e h = ([], sym (append-nil (drop i (word_bytes x)) ∙ drop_all i (word_bytes x) (ltb-false i (length (word_bytes x)) e)), (ap json_of (sym (some_is (word_value x) o h)), refl))

number_back : (p : Part) (s : List ℕ) (o : OJson) (t : Bool) → part_ends p ≡ t → cond t (Some (json.Num s)) None ≡ Some o → Completes (state.number p s) [] (json_of o) []
number_back p s o false e h = let differ : None ≡ Some o = h in cc
number_back p s o true e h = ([], [], refl, tail_end p e, (number_rest s [] (json_of o) []).1 (ap json_of (sym (some_is (json.Num s) o h)), refl))

pub end_completes : (s : State) (k : Frames) (o : OJson) → ended s k ≡ Some o → Completes s k (json_of o) []
end_completes s (f ∷ k) o e = cc
end_completes state.value [] o e = cc
end_completes state.first_item [] o e = cc
end_completes (state.after j) [] o e = (ap json_of (sym (some_is j o e)), refl)
end_completes state.first_name [] o e = cc
end_completes (state.name ms) [] o e = cc
end_completes (state.colon ms n) [] o e = cc
end_completes (state.word x i) [] o e = word_back x i o (nat_lt i (length (word_bytes x))) refl e
end_completes (state.number p s) [] o e = number_back p s o (part_ends p) refl e
end_completes (state.text i s r) [] o e = cc
