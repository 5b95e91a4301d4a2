-- How values go on, byte for byte.
use Rattle.std.proofs.Common.{◌≡◌, ℕ, inl, inr, List, [], ◌∷◌, ◌++◌, map, true, false, refl, sym, ap, subst, ◌∙◌}
use Rattle.ts_ojson.specs.declared.class.Class.{Class}
use Rattle.ts_ojson.specs.declared.class.Class.TheVariants as class
use Rattle.ts_ojson.specs.Frames as frame
use Rattle.ts_ojson.specs.declared.word.Word.TheVariants as word
use Rattle.ts_ojson.specs.States as state
use Rattle.ts_ojson.specs.declared.value.OJson.{OJson}
use Rattle.ts_ojson.specs.declared.value.OJson.TheVariants as json
use Rattle.ts_ojson.specs.Json.{Json, null, boolean, number, string, array, object, Items, no_items, item, Members, no_members, member, json_of, items_of, members_of}
use Rattle.ts_ojson.specs.Number.{Number}
use Rattle.ts_ojson.specs.Characters.{Mark, Quoted}
use Rattle.ts_ojson.specs.Text.{IsBlank, Blanks, Value, FirstItem, MoreItems, FirstMember, MoreMembers}
use Rattle.ts_ojson.specs.Machine.{Frames, Gathered, class_of, word_value, Outcome, stays, begin_class, begin, value_class, after, item_first_class, item_first, name_first, name_next, colon_next}
use Rattle.ts_ojson.proofs.JsonLemmas.{json_of_null, json_of_bool, json_of_array, json_of_object}
use Rattle.ts_ojson.proofs.Meaning.{onto_items, onto_members, Rest, Begun, Coloned, Completes, Means}
use Rattle.ts_ojson.proofs.ClassLemmas.{of_class, blank_class}
use Rattle.ts_ojson.proofs.NumberLemmas.{NumberNext, number_forward, number_back, no_number}
use Rattle.ts_ojson.proofs.StringLemmas.{head_is, tail_is}

pub cons_is : {a b : ℕ} {x y : List ℕ} → a ≡ b → x ≡ y → a ∷ x ≡ b ∷ y
cons_is e f = cc

pub nil_is : (b : ℕ) (w : List ℕ) → [] ≡ b ∷ w → ⊥
nil_is b w h = cc

-- ---- gathered items and members
onto_append : (xs : List OJson) (o : OJson) (m : Items) → onto_items (xs ++ o ∷ []) m ≡ onto_items xs (item (json_of o) m)
onto_append [] o m = refl
onto_append (x ∷ xs) o m = ap (item (json_of x)) (onto_append xs o m)

items_onto : (xs : List OJson) → items_of (map json_of xs) ≡ onto_items xs no_items
items_onto [] = refl
items_onto (x ∷ xs) = ap (item (json_of x)) (items_onto xs)

pub array_is : (xs : List OJson) (o : OJson) → json_of (json.Array (xs ++ o ∷ [])) ≡ array (onto_items xs (item (json_of o) no_items))
array_is xs o = json_of_array (xs ++ o ∷ []) ∙ ap array (items_onto (xs ++ o ∷ []) ∙ onto_append xs o no_items)

onto_append_members : (xs : Gathered) (n : List ℕ) (o : OJson) (m : Members) → onto_members (xs ++ (n, o) ∷ []) m ≡ onto_members xs (member n (json_of o) m)
onto_append_members [] n o m = refl
onto_append_members (x ∷ xs) n o m = ap (member x.0 (json_of x.1)) (onto_append_members xs n o m)

members_onto : (xs : Gathered) → members_of (map (λ m. (m.0, json_of m.1)) xs) ≡ onto_members xs no_members
members_onto [] = refl
members_onto (x ∷ xs) = ap (member x.0 (json_of x.1)) (members_onto xs)

pub object_is : (xs : Gathered) (n : List ℕ) (o : OJson) → json_of (json.Object (xs ++ (n, o) ∷ [])) ≡ object (onto_members xs (member n (json_of o) no_members))
object_is xs n o = json_of_object (xs ++ (n, o) ∷ []) ∙ ap object (members_onto (xs ++ (n, o) ∷ []) ∙ onto_append_members xs n o no_members)

same_rest : (k : Frames) (i j v : Json) (r t : List ℕ) → i ≡ j → r ≡ t → Rest k i v r → Rest k j v t
same_rest k i j v r t e f h = subst (λ (x : List ℕ). Rest k j v x) f (subst (λ (x : Json). Rest k x v r) e h)

module _ (v : Json) (b : ℕ) (w : List ℕ) where
  by_class : (F : Class → Outcome) (c : Class) → class_of b ≡ c → Means (F c) v w → Means (F (class_of b)) v w
  by_class F c e h = subst (λ (x : Class). Means (F x) v w) (sym e) h

  -- ---- where a value begins
  start_number : (k : Frames) (t r : List ℕ) (c : Class) → NumberNext c t [] → w ≡ t ++ r → Rest k (number (b ∷ t)) v r → Means (begin_class k b c) v w
  start_number k t r class.Minus n e h = (t, r, e, n, h)
  start_number k t r class.Zero n e h = (t, r, e, n, h)
  start_number k t r class.Digit n e h = (t, r, e, n, h)
  start_number k t r c n e h = absurd n

  begin_number : (k : Frames) (s r : List ℕ) → b ∷ w ≡ s ++ r → Number s [] → Rest k (number s) v r → Means (begin k b) v w
  begin_number k [] r e n h = absurd (no_number n)
  begin_number k (c ∷ t) r e n h =
      start_number k t r (class_of b) (subst (λ (x : ℕ). NumberNext (class_of x) t []) (sym (head_is e)) (number_forward c t [] n)) (tail_is e)
      (subst (λ (x : ℕ). Rest k (number (x ∷ t)) v r) (sym (head_is e)) h)

  pub value_forward : (k : Frames) (j : Json) (r : List ℕ) → Value j (b ∷ w) r → Rest k j v r → Means (begin k b) v w
  value_forward k null r e h =
      by_class (begin_class k b) class.LetterN (ap class_of (head_is e)) (r, tail_is e, same_rest k null (json_of (word_value word.Null)) v r r (sym json_of_null) refl h)
  value_forward k (boolean true) r e h =
      by_class (begin_class k b) class.LetterT (ap class_of (head_is e)) (r, tail_is e, same_rest k (boolean true) (json_of (word_value word.True)) v r r (sym (json_of_bool true)) refl h)
  value_forward k (boolean false) r e h =
      by_class (begin_class k b) class.LetterF (ap class_of (head_is e)) (r, tail_is e, same_rest k (boolean false) (json_of (word_value word.False)) v r r (sym (json_of_bool false)) refl h)
  value_forward k (number s) r e h = begin_number k s r e.0 e.1 h
  value_forward k (string s) r (u, ms, e, x) h =
      by_class (begin_class k b) class.Quote (ap class_of (head_is e)) (ms, s, r, subst (λ (y : List ℕ). Rattle.ts_ojson.specs.Characters.Characters ms s y r) (sym (tail_is e)) x, h)
  value_forward k (array js) r (u, e, x) h =
      by_class (begin_class k b) class.OpenArray (ap class_of (head_is e)) (js, r, subst (λ (y : List ℕ). FirstItem js y r) (sym (tail_is e)) x, h)
  value_forward k (object ms) r (u, e, x) h =
      by_class (begin_class k b) class.OpenObject (ap class_of (head_is e)) (ms, r, subst (λ (y : List ℕ). FirstMember ms y r) (sym (tail_is e)) x, h)

  pub value_back : (k : Frames) (c : Class) → class_of b ≡ c → Means (begin_class k b c) v w → (j : Json) × (r : List ℕ) × Value j (b ∷ w) r × Rest k j v r
  value_back k class.Quote e (ms, t, r, x, h) = (string t, r, (w, ms, cons_is (of_class b class.Quote e) refl, x), h)
  value_back k class.OpenArray e (m, t, x, h) = (array m, t, (w, cons_is (of_class b class.OpenArray e) refl, x), h)
  value_back k class.OpenObject e (m, t, x, h) = (object m, t, (w, cons_is (of_class b class.OpenObject e) refl, x), h)
  value_back k class.Minus e (t, r, x, n, h) = (number (b ∷ t), r, (ap (λ y. b ∷ y) x, number_back b t [] class.Minus e n), h)
  value_back k class.Zero e (t, r, x, n, h) = (number (b ∷ t), r, (ap (λ y. b ∷ y) x, number_back b t [] class.Zero e n), h)
  value_back k class.Digit e (t, r, x, n, h) = (number (b ∷ t), r, (ap (λ y. b ∷ y) x, number_back b t [] class.Digit e n), h)
  value_back k class.LetterT e (r, x, h) =
      (boolean true, r, cons_is (of_class b class.LetterT e) x, same_rest k (json_of (word_value word.True)) (boolean true) v r r (json_of_bool true) refl h)
  value_back k class.LetterF e (r, x, h) =
      (boolean false, r, cons_is (of_class b class.LetterF e) x, same_rest k (json_of (word_value word.False)) (boolean false) v r r (json_of_bool false) refl h)
  value_back k class.LetterN e (r, x, h) =
      (null, r, cons_is (of_class b class.LetterN e) x, same_rest k (json_of (word_value word.Null)) null v r r json_of_null refl h)
  value_back k c e h = absurd h

  -- ---- behind blanks
  to_value : (k : Frames) (c : Class) → Means (begin_class k b c) v w → Means (value_class k b c) v w
  to_value k class.Blank h = absurd h
  to_value k c h = h

  pub begun_forward : (k : Frames) → Begun k v (b ∷ w) → Means (value_class k b (class_of b)) v w
  begun_forward k (a, j, r, inl e, x, h) = to_value k (class_of b) (value_forward k j r (subst (λ (y : List ℕ). Value j y r) e x) h)
  begun_forward k (a, j, r, inr (is, bl), x, h) = by_class (value_class k b) class.Blank (blank_class b is) (a, j, r, bl, x, h)

  begun : (k : Frames) → (j : Json) × (r : List ℕ) × Value j (b ∷ w) r × Rest k j v r → Begun k v (b ∷ w)
  begun k (j, r, x, h) = (b ∷ w, j, r, inl refl, x, h)

  pub begun_back : (k : Frames) (c : Class) → class_of b ≡ c → Means (value_class k b c) v w → Begun k v (b ∷ w)
  begun_back k class.Blank e (a, j, r, bl, x, h) = (a, j, r, inr (of_class b class.Blank e, bl), x, h)
  begun_back k c e h = begun k (value_back k c e h)

  -- ---- behind a value
  after_items : (xs : List OJson) (o : OJson) (k : Frames) (m : Items) (t : List ℕ) → MoreItems m (b ∷ w) t → Rest k (array (onto_items xs (item (json_of o) m))) v t
      → Means (after o (frame.array xs ∷ k) (class_of b)) v w
  after_items xs o k no_items t e h =
      by_class (after o (frame.array xs ∷ k)) class.CloseArray (ap class_of (head_is e))
      (same_rest k (array (onto_items xs (item (json_of o) no_items))) (json_of (json.Array (xs ++ o ∷ []))) v t w (sym (array_is xs o)) (sym (tail_is e)) h)
  after_items xs o k (item j m) t (u, q, e, (a, c, first, x, last), more) h =
      by_class (after o (frame.array xs ∷ k)) class.Comma (ap class_of (head_is e)) (
        a,
        j,
        c,
        subst (λ (y : List ℕ). Blanks y a) (sym (tail_is e)) first,
        x,
        (q, m, t, last, more, subst (λ (y : Items). Rest k (array y) v t) (sym (onto_append xs o (item j m))) h),
      )

  after_members : (xs : Gathered) (n : List ℕ) (o : OJson) (k : Frames) (m : Members) (t : List ℕ) → MoreMembers m (b ∷ w) t
      → Rest k (object (onto_members xs (member n (json_of o) m))) v t → Means (after o (frame.object xs n ∷ k) (class_of b)) v w
  after_members xs n o k no_members t e h =
      by_class (after o (frame.object xs n ∷ k)) class.CloseObject (ap class_of (head_is e))
      (same_rest k (object (onto_members xs (member n (json_of o) no_members))) (json_of (json.Object (xs ++ (n, o) ∷ []))) v t w (sym (object_is xs n o)) (sym (tail_is e)) h)
  after_members xs n o k (member l j m) t (u, q, z, e, (a, c, first, x, last), (d, f, before, y, behind), more) h =
      by_class (after o (frame.object xs n ∷ k)) class.Comma (ap class_of (head_is e)) (
        a,
        l,
        c,
        subst (λ (y : List ℕ). Blanks y a) (sym (tail_is e)) first,
        x,
        (q, last, (d, j, f, before, y, (z, m, t, behind, more, subst (λ (y : Members). Rest k (object y) v t) (sym (onto_append_members xs n o (member l j m))) h))),
      )

  pub rest_forward : (o : OJson) (k : Frames) → Rest k (json_of o) v (b ∷ w) → Means (after o k (class_of b)) v w
  rest_forward o [] (x, inl e) = absurd (nil_is b w e)
  rest_forward o [] (x, inr (is, bl)) = by_class (after o []) class.Blank (blank_class b is) (x, bl)
  rest_forward o (frame.array xs ∷ k) (a, m, t, inl e, more, h) = after_items xs o k m t (subst (λ (y : List ℕ). MoreItems m y t) e more) h
  rest_forward o (frame.array xs ∷ k) (a, m, t, inr (is, bl), more, h) = by_class (after o (frame.array xs ∷ k)) class.Blank (blank_class b is) (a, m, t, bl, more, h)
  rest_forward o (frame.object xs n ∷ k) (a, m, t, inl e, more, h) = after_members xs n o k m t (subst (λ (y : List ℕ). MoreMembers m y t) e more) h
  rest_forward o (frame.object xs n ∷ k) (a, m, t, inr (is, bl), more, h) = by_class (after o (frame.object xs n ∷ k)) class.Blank (blank_class b is) (a, m, t, bl, more, h)

  pub rest_back : (o : OJson) (k : Frames) (c : Class) → class_of b ≡ c → Means (after o k c) v w → Rest k (json_of o) v (b ∷ w)
  rest_back o [] class.Blank e (x, bl) = (x, inr (of_class b class.Blank e, bl))
  rest_back o [] c e h = absurd h
  rest_back o (frame.array xs ∷ k) class.Blank e (a, m, t, bl, more, h) = (a, m, t, inr (of_class b class.Blank e, bl), more, h)
  rest_back o (frame.array xs ∷ k) class.Comma e (a, j, c, first, x, (q, m, t, last, more, h)) = (
    b ∷ w,
    item j m,
    t,
    inl refl,
    (w, q, cons_is (of_class b class.Comma e) refl, (a, c, first, x, last), more),
    subst (λ (y : Items). Rest k (array y) v t) (onto_append xs o (item j m)) h,
  )
  rest_back o (frame.array xs ∷ k) class.CloseArray e h =
      (b ∷ w, no_items, w, inl refl, cons_is (of_class b class.CloseArray e) refl, subst (λ (y : Json). Rest k y v w) (array_is xs o) h)
  rest_back o (frame.array xs ∷ k) c e h = absurd h
  rest_back o (frame.object xs n ∷ k) class.Blank e (a, m, t, bl, more, h) = (a, m, t, inr (of_class b class.Blank e, bl), more, h)
  rest_back o (frame.object xs n ∷ k) class.Comma e (a, l, c, first, x, (q, last, (d, j, f, before, y, (z, m, t, behind, more, h)))) = (
    b ∷ w,
    member l j m,
    t,
    inl refl,
    (w, q, z, cons_is (of_class b class.Comma e) refl, (a, c, first, x, last), (d, f, before, y, behind), more),
    subst (λ (y : Members). Rest k (object y) v t) (onto_append_members xs n o (member l j m)) h,
  )
  rest_back o (frame.object xs n ∷ k) class.CloseObject e h =
      (b ∷ w, no_members, w, inl refl, cons_is (of_class b class.CloseObject e) refl, subst (λ (y : Json). Rest k y v w) (object_is xs n o) h)
  rest_back o (frame.object xs n ∷ k) c e h = absurd h

  -- ---- behind the bracket of an array
  to_item : (k : Frames) (c : Class) → Means (begin_class (frame.array [] ∷ k) b c) v w → Means (item_first_class k b c) v w
  to_item k class.Blank h = absurd h
  to_item k class.CloseArray h = absurd h
  to_item k c h = h

  pub item_forward : (k : Frames) (m : Items) (t : List ℕ) → FirstItem m (b ∷ w) t → Rest k (array m) v t → Means (item_first k b) v w
  item_forward k no_items t (inl e) h =
      by_class (item_first_class k b) class.CloseArray (ap class_of (sym (head_is e))) (same_rest k (array no_items) (json_of (json.Array [])) v t w (sym (json_of_array [])) (tail_is e) h)
  item_forward k no_items t (inr (is, bl)) h = by_class (item_first_class k b) class.Blank (blank_class b is) (no_items, t, bl, h)
  item_forward k (item j m) t (u, (a, c, inl e, x, last), more) h =
      to_item k (class_of b) (value_forward (frame.array [] ∷ k) j c (subst (λ (y : List ℕ). Value j y c) e x) (u, m, t, last, more, h))
  item_forward k (item j m) t (u, (a, c, inr (is, bl), x, last), more) h =
      by_class (item_first_class k b) class.Blank (blank_class b is) (item j m, t, (u, (a, c, bl, x, last), more), h)

  abbrev FirstRest : Frames → Type 0
  FirstRest k = (m : Items) × (t : List ℕ) × FirstItem m (b ∷ w) t × Rest k (array m) v t

  blank_item : (k : Frames) (m : Items) (t : List ℕ) → IsBlank b → FirstItem m w t → Rest k (array m) v t → FirstRest k
  blank_item k no_items t is bl h = (no_items, t, inr (is, bl), h)
  blank_item k (item j m) t is (u, (a, c, bl, x, last), more) h = (item j m, t, (u, (a, c, inr (is, bl), x, last), more), h)

  first_of_value : (k : Frames) → (j : Json) × (r : List ℕ) × Value j (b ∷ w) r × Rest (frame.array [] ∷ k) j v r → FirstRest k
  first_of_value k (j, r, x, (a, m, t, bl, more, h)) = (item j m, t, (a, (b ∷ w, r, inl refl, x, bl), more), h)

  pub item_back : (k : Frames) (c : Class) → class_of b ≡ c → Means (item_first_class k b c) v w → FirstRest k
  item_back k class.Blank e (m, t, x, h) = blank_item k m t (of_class b class.Blank e) x h
  item_back k class.CloseArray e h = (no_items, w, inl (cons_is (sym (of_class b class.CloseArray e)) refl), subst (λ (y : Json). Rest k y v w) (json_of_array []) h)
  item_back k c e h = first_of_value k (value_back (frame.array [] ∷ k) c e h)

  -- ---- names
  pub name_forward : (at : ℕ) (xs : Gathered) (k : Frames) → Completes (state.name xs) k v (b ∷ w) → Means (stays (name_next at xs (class_of b)) k) v w
  name_forward at xs k (a, n, c, inl e, q, h) = quoted (subst (λ (y : List ℕ). Quoted n y c) e q)
    where
      quoted : Quoted n (b ∷ w) c → Means (stays (name_next at xs (class_of b)) k) v w
      quoted (u, ms, f, x) =
          by_class (λ z. stays (name_next at xs z) k) class.Quote (ap class_of (head_is f)) (ms, n, c, subst (λ (y : List ℕ). Rattle.ts_ojson.specs.Characters.Characters ms n y c) (sym (tail_is f)) x, h)
  name_forward at xs k (a, n, c, inr (is, bl), q, h) = by_class (λ z. stays (name_next at xs z) k) class.Blank (blank_class b is) (a, n, c, bl, q, h)

  pub name_back : (at : ℕ) (xs : Gathered) (k : Frames) (c : Class) → class_of b ≡ c → Means (stays (name_next at xs c) k) v w → Completes (state.name xs) k v (b ∷ w)
  name_back at xs k class.Blank e (a, n, c, bl, q, h) = (a, n, c, inr (of_class b class.Blank e, bl), q, h)
  name_back at xs k class.Quote e (ms, n, r, x, h) = (b ∷ w, n, r, inl refl, (w, ms, cons_is (of_class b class.Quote e) refl, x), h)
  name_back at xs k c e h = absurd h

  pub colon_forward : (xs : Gathered) (n : List ℕ) (k : Frames) → Coloned xs n k v (b ∷ w) → Means (colon_next xs n k (class_of b)) v w
  colon_forward xs n k (u, inl e, h) = by_class (colon_next xs n k) class.Colon (ap class_of (sym (head_is e))) (subst (λ (y : List ℕ). Begun (frame.object xs n ∷ k) v y) (tail_is e) h)
  colon_forward xs n k (u, inr (is, bl), h) = by_class (colon_next xs n k) class.Blank (blank_class b is) (u, bl, h)

  pub colon_back : (xs : Gathered) (n : List ℕ) (k : Frames) (c : Class) → class_of b ≡ c → Means (colon_next xs n k c) v w → Coloned xs n k v (b ∷ w)
  colon_back xs n k class.Blank e (u, bl, h) = (u, inr (of_class b class.Blank e, bl), h)
  colon_back xs n k class.Colon e h = (w, inl (cons_is (sym (of_class b class.Colon e)) refl), h)
  colon_back xs n k c e h = absurd h

-- an object with a member is one whose first name comes next
pub to_named : (v : Json) (w : List ℕ) (k : Frames) (n : List ℕ) (j : Json) (m : Members) (t : List ℕ) → FirstMember (member n j m) w t → Rest k (object (member n j m)) v t
    → Completes (state.name []) k v w
to_named v w k n j m t (q, z, (a, c, first, x, last), (d, f, before, y, behind), more) h = (a, n, c, first, x, (q, last, (d, j, f, before, y, (z, m, t, behind, more, h))))

pub from_named : (v : Json) (w : List ℕ) (k : Frames) → Completes (state.name []) k v w → Completes state.first_name k v w
from_named v w k (a, n, c, first, x, (q, last, (d, j, f, before, y, (z, m, t, behind, more, h)))) =
    (member n j m, t, (q, z, (a, c, first, x, last), (d, f, before, y, behind), more), h)

module _ (v : Json) (b : ℕ) (w : List ℕ) where
  to_first : (at : ℕ) (k : Frames) (c : Class) → Means (stays (name_next at [] c) k) v w → Means (stays (name_first at c) k) v w
  to_first at k class.Blank h = from_named v w k h
  to_first at k class.Quote h = h
  to_first at k c h = absurd h

  pub first_forward : (at : ℕ) (k : Frames) (m : Members) (t : List ℕ) → FirstMember m (b ∷ w) t → Rest k (object m) v t → Means (stays (name_first at (class_of b)) k) v w
  first_forward at k no_members t (inl e) h =
      by_class v b w (λ z. stays (name_first at z) k) class.CloseObject (ap class_of (sym (head_is e))) (same_rest k (object no_members) (json_of (json.Object [])) v t w (sym (json_of_object [])) (tail_is e) h)
  first_forward at k no_members t (inr (is, bl)) h = by_class v b w (λ z. stays (name_first at z) k) class.Blank (blank_class b is) (no_members, t, bl, h)
  first_forward at k (member n j m) t x h = to_first at k (class_of b) (name_forward v b w at [] k (to_named v (b ∷ w) k n j m t x h))

  blank_first : (at : ℕ) (k : Frames) (m : Members) (t : List ℕ) → class_of b ≡ class.Blank → FirstMember m w t → Rest k (object m) v t → Completes state.first_name k v (b ∷ w)
  blank_first at k no_members t e bl h = (no_members, t, inr (of_class b class.Blank e, bl), h)
  blank_first at k (member n j m) t e x h = from_named v (b ∷ w) k (name_back v b w at [] k class.Blank e (to_named v w k n j m t x h))

  pub first_back : (at : ℕ) (k : Frames) (c : Class) → class_of b ≡ c → Means (stays (name_first at c) k) v w → Completes state.first_name k v (b ∷ w)
  first_back at k class.Blank e (m, t, x, h) = blank_first at k m t e x h
  first_back at k class.CloseObject e h = (no_members, w, inl (cons_is (sym (of_class b class.CloseObject e)) refl), subst (λ (y : Json). Rest k y v w) (json_of_object []) h)
  first_back at k class.Quote e h = from_named v (b ∷ w) k (name_back v b w at [] k class.Quote e h)
  first_back at k c e h = absurd h
