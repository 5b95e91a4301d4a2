-- No text and no list of a JSON value is longer than the bytes in which the value is written.
use Rattle.std.proofs.Common.{arith, ◌≡◌, ap, refl, subst, sym, ℕ, zero, suc, ◌+◌, ◌<◌, ◌≤◌, ◌⊎◌, inl, inr, Bool, true, false, List, [], ◌∷◌, ◌++◌, length}
use Rattle.std.proofs.lemmas.Str.{length-encode}
use Rattle.std.proofs.lemmas.List.{length-append}
use Rattle.std.specs.Char.{encode_utf8, len_utf8}
use Rattle.ts_base.specs.Bytes.{Bytes}
use Rattle.ts_ojson.specs.Json.{Json, null, boolean, number, string, array, object, Items, no_items, item, Members, no_members, member}
use Rattle.ts_ojson.specs.Characters.{Mark, raw, short, unit, pair, Characters, Quoted, Hex, Unit16, pair_of}
use Rattle.ts_ojson.specs.Text.{Blanks, Spaced, Value, FirstItem, MoreItems, FirstMember, MoreMembers, IsJsonText}

-- ---- what is shown

abbrev pub count_items : Items → ℕ
count_items no_items = 0
count_items (item j js) = suc (count_items js)

-- the value's texts and arrays are no longer than this
abbrev mutual
  pub Within : ℕ → Json → Type 0
  Within n null = Unit {0}
  Within n (boolean b) = Unit {0}
  Within n (number s) = Unit {0}
  Within n (string s) = length s ≤ n
  Within n (array js) = (count_items js ≤ n) × ItemsWithin n js
  Within n (object ms) = MembersWithin n ms

  pub ItemsWithin : ℕ → Items → Type 0
  ItemsWithin n no_items = Unit {0}
  ItemsWithin n (item j js) = Within n j × ItemsWithin n js

  pub MembersWithin : ℕ → Members → Type 0
  MembersWithin n no_members = Unit {0}
  MembersWithin n (member k j ms) = (length k ≤ n) × Within n j × MembersWithin n ms

-- ---- strings

few_bytes : (c : ℕ) → length (encode_utf8 c) ≤ 4
few_bytes c = grind (arith, length-encode, len_utf8)

hex_length : (k n u : ℕ) (w r : Bytes) → Hex k n u w r → length w ≡ k + length r
hex_length zero n u w r h = let e : length w ≡ length r = ap (λ (x : Bytes). length x) (sym h.1) in omega (arith, e)
hex_length (suc k) n u w r (d, v, is, digit, rest) =
    let e : length w ≡ suc (length v) = ap (λ (x : Bytes). length x) is in
    let i = hex_length k _ u v r rest in
    omega (arith, e, i)

unit_length : (u : ℕ) (w r : Bytes) → Unit16 u w r → length w ≡ 6 + length r
unit_length u w r (v, is, hex) =
    let e : length w ≡ suc (suc (length v)) = ap (λ (x : Bytes). length x) is in
    let i = hex_length 4 0 u v r hex in
    omega (arith, e, i)

longer : (xs ys : Bytes) → length (xs ++ ys) ≡ length xs + length ys
longer xs ys = length-append xs ys

characters_length : (ms : List Mark) (s w r : Bytes) → Characters ms s w r → length s + length r ≤ length w
characters_length [] s w r h =
    let a : length s ≡ 0 = ap (λ (x : Bytes). length x) h.0 in
    let b : length w ≡ suc (length r) = ap (λ (x : Bytes). length x) h.1 in
    omega (arith, a, b)
characters_length (raw c ∷ ms) s w r (t, v, is_raw, is, text, rest) =
    let a : length s ≡ suc (length t) = ap (λ (x : Bytes). length x) text in
    let b : length w ≡ suc (length v) = ap (λ (x : Bytes). length x) is in
    let i = characters_length ms t v r rest in
    omega (arith, a, b, i)
characters_length (short x c ∷ ms) s w r (t, v, known, is, text, rest) =
    let a : length s ≡ suc (length t) = ap (λ (y : Bytes). length y) text in
    let b : length w ≡ suc (suc (length v)) = ap (λ (y : Bytes). length y) is in
    let i = characters_length ms t v r rest in
    omega (arith, a, b, i)
characters_length (unit u ∷ ms) s w r (t, v, alone, is, text, rest) =
    let a : length s ≡ length (encode_utf8 u ++ t) = ap (λ (y : Bytes). length y) text in
    let l = longer (encode_utf8 u) t in
    let f = few_bytes u in
    let b = unit_length u w v is in
    let i = characters_length ms t v r rest in
    omega (arith, a, l, f, b, i)
characters_length (pair h l ∷ ms) s w r (t, m, v, high, low, first, second, text, rest) =
    let a : length s ≡ length (encode_utf8 (pair_of h l) ++ t) = ap (λ (y : Bytes). length y) text in
    let j = longer (encode_utf8 (pair_of h l)) t in
    let f = few_bytes (pair_of h l) in
    let b = unit_length h w m first in
    let c = unit_length l m v second in
    let i = characters_length ms t v r rest in
    omega (arith, a, j, f, b, c, i)

quoted_length : (s w r : Bytes) → Quoted s w r → length s + length r ≤ length w
quoted_length s w r (v, ms, is, characters) =
    let b : length w ≡ suc (length v) = ap (λ (y : Bytes). length y) is in
    let i = characters_length ms s v r characters in
    omega (arith, b, i)

-- ---- values

blanks_length : (w r : Bytes) → Blanks w r → length r ≤ length w
blanks_length [] r h = let e : length r ≡ 0 = ap (λ (y : Bytes). length y) h in omega (arith, e)
blanks_length (c ∷ w) r (inl same) = let e : length r ≡ suc (length w) = ap (λ (y : Bytes). length y) same in omega (arith, e)
blanks_length (c ∷ w) r (inr more) = let i = blanks_length w r more.1 in omega (arith, i)

-- what is known of a value that stands in at most n bytes
record Stands (n : ℕ) (j : Json) (w r : Bytes) : Type 0 where
  within : Within n j
  less : length r ≤ length w

record ItemsStand (n : ℕ) (js : Items) (w r : Bytes) : Type 0 where
  within : ItemsWithin n js
  less : count_items js + length r ≤ length w

record MembersStand (n : ℕ) (ms : Members) (w r : Bytes) : Type 0 where
  within : MembersWithin n ms
  less : length r ≤ length w

word_less : (b : Bool) (w r : Bytes) → Value (boolean b) w r → length r ≤ length w
word_less true w r is = let e : length w ≡ suc (suc (suc (suc (length r)))) = ap (λ (y : Bytes). length y) is in omega (arith, e)
word_less false w r is = let e : length w ≡ suc (suc (suc (suc (suc (length r))))) = ap (λ (y : Bytes). length y) is in omega (arith, e)

-- a value with blanks on both sides
spaced_stands : (n : ℕ) (j : Json) (w r : Bytes) → length w ≤ n
    → ((a b : Bytes) → length a ≤ n → Value j a b → Stands n j a b) → Spaced (Value j) w r → Stands n j w r
spaced_stands n j w r le inner (a, b, before, value, after) =
    let x = blanks_length w a before in
    let i = inner a b (omega (arith, x, le)) value in
    let y = blanks_length b r after in
    let less = i.less in
    record { within = i.within; less = omega (arith, x, y, less) }

-- a name and the colon behind it
name_stands : (n : ℕ) (k w v : Bytes) → length w ≤ n → Spaced (Quoted k) w (58 ∷ v) → (length k ≤ n) × (length v ≤ length w)
name_stands n k w v le (a, b, before, name, after) =
    let x = blanks_length w a before in
    let q = quoted_length k a b name in
    let y = blanks_length b (58 ∷ v) after in
    (omega (arith, x, q, le), omega (arith, x, q, y))

mutual
  value_stands : (n : ℕ) (j : Json) (w r : Bytes) → length w ≤ n → Value j w r → Stands n j w r
  value_stands n null w r le is =
      let e : length w ≡ suc (suc (suc (suc (length r)))) = ap (λ (y : Bytes). length y) is in
      record { within = tt; less = omega (arith, e) }
  value_stands n (boolean b) w r le is = record { within = tt; less = word_less b w r is }
  value_stands n (number s) w r le (is, numeral) =
      let e : length w ≡ length (s ++ r) = ap (λ (y : Bytes). length y) is in
      let l = longer s r in
      record { within = tt; less = omega (arith, e, l) }
  value_stands n (string s) w r le is =
      let q = quoted_length s w r is in
      record { within = omega (arith, q, le); less = omega (arith, q) }
  value_stands n (array js) w r le (v, is, items) =
      let e : length w ≡ suc (length v) = ap (λ (y : Bytes). length y) is in
      let i = first_item_stands n js v r (omega (arith, e, le)) items in
      let less = i.0 in
      record { within = (omega (arith, e, le, less), i.1); less = omega (arith, e, less) }
  value_stands n (object ms) w r le (v, is, members) =
      let e : length w ≡ suc (length v) = ap (λ (y : Bytes). length y) is in
      let i = first_member_stands n ms v r (omega (arith, e, le)) members in
      let less = i.less in
      record { within = i.within; less = omega (arith, e, less) }

  first_item_stands : (n : ℕ) (js : Items) (w r : Bytes) → suc (length w) ≤ n → FirstItem js w r
      → (count_items js + length r ≤ suc (length w)) × ItemsWithin n js
  first_item_stands n no_items w r le is =
      let x = blanks_length w (93 ∷ r) is in
      (omega (arith, x), tt)
  first_item_stands n (item j js) w r le (v, first, rest) =
      let i = spaced_stands n j w v (omega (arith, le)) (value_stands n j) first in
      let a = i.less in
      let k = more_items_stand n js v r (omega (arith, a, le)) rest in
      let b = k.less in
      (omega (arith, a, b), (i.within, k.within))

  more_items_stand : (n : ℕ) (js : Items) (w r : Bytes) → length w ≤ n → MoreItems js w r → ItemsStand n js w r
  more_items_stand n no_items w r le is =
      let e : length w ≡ suc (length r) = ap (λ (y : Bytes). length y) is in
      record { within = tt; less = omega (arith, e) }
  more_items_stand n (item j js) w r le (u, v, is, one, rest) =
      let e : length w ≡ suc (length u) = ap (λ (y : Bytes). length y) is in
      let i = spaced_stands n j u v (omega (arith, e, le)) (value_stands n j) one in
      let a = i.less in
      let k = more_items_stand n js v r (omega (arith, e, a, le)) rest in
      let b = k.less in
      record { within = (i.within, k.within); less = omega (arith, e, a, b) }

  first_member_stands : (n : ℕ) (ms : Members) (w r : Bytes) → length w ≤ n → FirstMember ms w r → MembersStand n ms w r
  first_member_stands n no_members w r le is =
      let x = blanks_length w (125 ∷ r) is in
      record { within = tt; less = omega (arith, x) }
  first_member_stands n (member k j ms) w r le (v, t, name, value, rest) =
      let x = name_stands n k w v le name in
      let p = x.1 in
      let i = spaced_stands n j v t (omega (arith, p, le)) (value_stands n j) value in
      let a = i.less in
      let m = more_members_stand n ms t r (omega (arith, p, a, le)) rest in
      let b = m.less in
      record { within = (x.0, i.within, m.within); less = omega (arith, p, a, b) }

  more_members_stand : (n : ℕ) (ms : Members) (w r : Bytes) → length w ≤ n → MoreMembers ms w r → MembersStand n ms w r
  more_members_stand n no_members w r le is =
      let e : length w ≡ suc (length r) = ap (λ (y : Bytes). length y) is in
      record { within = tt; less = omega (arith, e) }
  more_members_stand n (member k j ms) w r le (u, v, t, is, name, value, rest) =
      let e : length w ≡ suc (length u) = ap (λ (y : Bytes). length y) is in
      let x = name_stands n k u v (omega (arith, e, le)) name in
      let p = x.1 in
      let i = spaced_stands n j v t (omega (arith, e, p, le)) (value_stands n j) value in
      let a = i.less in
      let m = more_members_stand n ms t r (omega (arith, e, p, a, le)) rest in
      let b = m.less in
      record { within = (x.0, i.within, m.within); less = omega (arith, e, p, a, b) }

-- a text's value has no text and no list that is longer
pub text_within : (j : Json) (w : Bytes) → IsJsonText j w → Within (length w) j
text_within j w is = (spaced_stands (length w) j w [] (omega arith) (value_stands (length w) j) is).within
