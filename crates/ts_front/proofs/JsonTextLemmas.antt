-- The texts in a JSON value that is read from UTF-8 are UTF-8, and so are its members' names.
use Rattle.std.proofs.Common.{◌≡◌, ◌∙◌, sym, ap, subst, refl, ℕ, zero, suc, ◌+◌, ◌*◌, ◌/◌, ◌%◌, ◌<◌, ◌≤◌, ◌⊎◌, inl, inr, Bool, true, false, cond, ◌&&◌, ◌==◌, nat_lt, nat_le, List, [], ◌∷◌, ◌++◌, Option, Some, append_assoc, append-nil, arith}
use Rattle.std.specs.Char.{encode_utf8, digit_value, IsScalar}
use Rattle.std.specs.List.{AllByRecursion}
use Rattle.std.specs.Str.{IsUtf8}
use Rattle.std.proofs.lemmas.Str.{IsUtf8-append, IsUtf8-nil, IsUtf8-encode, IsUtf8-past_char, encode_ascii}
use lib.Utf8.{scalar, scalars, encode, encodes, low_scalar}
use lib.Dec.{ltb}
use Rattle.ts_base.specs.Bytes.{Bytes}
use Rattle.ts_ojson.specs.Characters.{short_of, Hex, Unit16, IsHigh, IsLow, IsAlone, pair_of, Mark, raw, short, unit, pair, Characters, Quoted}
use Rattle.ts_ojson.specs.Json.{Json, null, boolean, number, string, array, object, Items, no_items, item, Members, no_members, member, json_of}
use Rattle.ts_ojson.specs.Number.{Digits, SomeDigits, Minus, Whole, Fraction, Sign, Exponent, Number}
use Rattle.ts_ojson.specs.Reads.{Reads}
use Rattle.ts_ojson.specs.Text.{IsBlank, Blanks, null_word, bool_word, Spaced, Value, FirstItem, MoreItems, FirstMember, MoreMembers}
use Rattle.ts_ojson.specs.declared.value.OJson.{OJson}

abbrev mutual
  -- the texts in a value, and the names of its members
  pub HasTexts : Json → Type 0
  HasTexts null = Unit {0}
  HasTexts (boolean b) = Unit {0}
  HasTexts (number s) = Unit {0}
  HasTexts (string s) = IsUtf8 s
  HasTexts (array js) = ItemsHaveTexts js
  HasTexts (object ms) = MembersHaveTexts ms

  pub ItemsHaveTexts : Items → Type 0
  ItemsHaveTexts no_items = Unit {0}
  ItemsHaveTexts (item j js) = HasTexts j × ItemsHaveTexts js

  pub MembersHaveTexts : Members → Type 0
  MembersHaveTexts no_members = Unit {0}
  MembersHaveTexts (member k j ms) = IsUtf8 k × HasTexts j × MembersHaveTexts ms

-- ---- bytes

abbrev IsHighByte : ℕ → Type 0
IsHighByte b = 128 ≤ b

ascii_text : (c : ℕ) → c < 128 → IsUtf8 (c ∷ [])
ascii_text c lt = subst IsUtf8 (encode_ascii c lt) (IsUtf8-encode c (low_scalar c (omega (arith, lt))))

ascii_then : (c : ℕ) (t : Bytes) → c < 128 → IsUtf8 t → IsUtf8 (c ∷ t)
ascii_then c t lt u = IsUtf8-append (c ∷ []) t (ascii_text c lt) u

-- behind an ASCII byte
past : (c : ℕ) (v : Bytes) → c < 128 → IsUtf8 (c ∷ v) → IsUtf8 v
past c v lt u = IsUtf8-past_char (c ∷ v) v c u (ap (λ (x : Bytes). x ++ v) (sym (encode_ascii c lt)))

past_at : (c : ℕ) (w v : Bytes) → c < 128 → w ≡ c ∷ v → IsUtf8 w → IsUtf8 v
past_at c w v lt e u = past c v lt (subst IsUtf8 e u)

choose : {X : Type 0} (P : X → Type 0) (b : Bool) (x y : X) → (b ≡ true → P x) → (b ≡ false → P y) → P (cond b x y)
choose P true x y h k = h refl
choose P false x y h k = k refl

-- a character's bytes behind its first one are high
abbrev IsSpelled : List ℕ → Type 0
IsSpelled xs = (b : ℕ) × (bs : List ℕ) × (xs ≡ b ∷ bs) × AllByRecursion IsHighByte bs

-- a byte that is not a character's first
abbrev IsNext : ℕ → Type 0
IsNext b = (n : ℕ) × (b ≡ 128 + n)

is_high : (b : ℕ) → IsNext b → 128 ≤ b
is_high b h = let e = h.1 in omega (arith, e)

two_bytes : (a b : ℕ) → IsNext b → IsSpelled (a ∷ b ∷ [])
two_bytes a b h = (a, b ∷ [], refl, (is_high b h, tt))

three_bytes : (a b c : ℕ) → IsNext b → IsNext c → IsSpelled (a ∷ b ∷ c ∷ [])
three_bytes a b c h k = (a, b ∷ c ∷ [], refl, (is_high b h, (is_high c k, tt)))

four_bytes : (a b c d : ℕ) → IsNext b → IsNext c → IsNext d → IsSpelled (a ∷ b ∷ c ∷ d ∷ [])
four_bytes a b c d h k l = (a, b ∷ c ∷ d ∷ [], refl, (is_high b h, (is_high c k, (is_high d l, tt))))

spelled : (c : ℕ) → IsSpelled (encode c)
unfolding encode
spelled c = choose IsSpelled (ltb c 128) _ _ (λ e. (c, [], refl, tt))
    (λ e. choose IsSpelled (ltb c 2048) _ _ (λ f. two_bytes (192 + c / 64) (128 + c % 64) (c % 64, refl))
    (λ f. choose IsSpelled (ltb c 65536) _ _ (λ g. three_bytes (224 + c / 4096) (128 + c / 64 % 64) (128 + c % 64) (c / 64 % 64, refl) (c % 64, refl))
    (λ g. four_bytes (240 + c / 262144) (128 + c / 4096 % 64) (128 + c / 64 % 64) (128 + c % 64) (c / 4096 % 64, refl) (c / 64 % 64, refl) (c % 64, refl))))

-- the first character of a text, by its first byte
pub record Begins (c : ℕ) (u : Bytes) : Type 0 where
  pub more : List ℕ
  pub rest : Bytes
  pub is : u ≡ more ++ rest
  pub high : AllByRecursion IsHighByte more
  pub character : IsUtf8 (c ∷ more)
  pub text : IsUtf8 rest

both_true : (a b : Bool) → (a && b) ≡ true → (a ≡ true) × (b ≡ true)
both_true true b e = (refl, e)
both_true false b e = absurd cc

same_head : (b c : ℕ) (xs ys : Bytes) → b ∷ xs ≡ c ∷ ys → b ≡ c
same_head b c xs ys e = cc

same_tail : (b c : ℕ) (xs ys : Bytes) → b ∷ xs ≡ c ∷ ys → xs ≡ ys
same_tail b c xs ys e = cc

begins : (c : ℕ) (u : Bytes) → IsUtf8 (c ∷ u) → Begins c u
begins c u ([], (ok, e)) = absurd (let f : [] ≡ c ∷ u = e in cc)
begins c u (d ∷ ds, (ok, e)) =
    let s = spelled d in
    let b : ℕ = s.0 in
    let bs : List ℕ = s.1 in
    let parts = both_true (scalar d) (scalars ds) ok in
    let all : b ∷ (bs ++ encodes ds) ≡ c ∷ u = ap (λ (x : List ℕ). x ++ encodes ds) (sym s.2) ∙ e in
    let head : b ≡ c = same_head b c (bs ++ encodes ds) u all in
    record {
      more = bs;
      rest = encodes ds;
      is = sym (same_tail b c (bs ++ encodes ds) u all);
      high = s.3;
      character = subst (λ (z : ℕ). IsUtf8 (z ∷ bs)) head (subst IsUtf8 s.2 (IsUtf8-encode d parts.0));
      text = (ds, (parts.1, refl));
    }

-- ---- the characters of a string

is_code : (x k : ℕ) → (x == k) ≡ true → x ≡ k
is_code x k e = grind arith

same_code : (k c : ℕ) → Some k ≡ Some c → k ≡ c
same_code k c e = cc

-- the character is ASCII, and so is what stands for it
abbrev IsSmallShort : ℕ → ℕ → Option ℕ → Type 0
IsSmallShort x c o = o ≡ Some c → (x < 128) × (c < 128)

small_at : (x c k m : ℕ) → k < 128 → m < 128 → (x == k) ≡ true → IsSmallShort x c (Some m)
small_at x c k m lt less e f = let i = is_code x k e in let j = same_code m c f in (omega (arith, lt, i), omega (arith, less, j))

short_small : (x c : ℕ) → short_of x ≡ Some c → (x < 128) × (c < 128)
short_small x c =
    choose (IsSmallShort x c) (x == 34) _ _ (small_at x c 34 34 (omega arith) (omega arith)) (λ _.
    choose (IsSmallShort x c) (x == 92) _ _ (small_at x c 92 92 (omega arith) (omega arith)) (λ _.
    choose (IsSmallShort x c) (x == 47) _ _ (small_at x c 47 47 (omega arith) (omega arith)) (λ _.
    choose (IsSmallShort x c) (x == 98) _ _ (small_at x c 98 8 (omega arith) (omega arith)) (λ _.
    choose (IsSmallShort x c) (x == 102) _ _ (small_at x c 102 12 (omega arith) (omega arith)) (λ _.
    choose (IsSmallShort x c) (x == 110) _ _ (small_at x c 110 10 (omega arith) (omega arith)) (λ _.
    choose (IsSmallShort x c) (x == 114) _ _ (small_at x c 114 13 (omega arith) (omega arith)) (λ _.
    choose (IsSmallShort x c) (x == 116) _ _ (small_at x c 116 9 (omega arith) (omega arith)) (λ _ f. absurd cc))))))))

abbrev IsSmallDigit : ℕ → ℕ → Type 0
IsSmallDigit d n = n < 16 → d < 128

below_code : (d k : ℕ) → nat_lt d k ≡ true → d < k
below_code d k e = grind arith

digit_small : (d : ℕ) → digit_value d < 16 → d < 128
digit_small d =
    choose (IsSmallDigit d) (nat_lt d 48) _ _ (λ e lt. let h = below_code d 48 e in omega (arith, h)) (λ _.
    choose (IsSmallDigit d) (nat_lt d 58) _ _ (λ e lt. let h = below_code d 58 e in omega (arith, h)) (λ _.
    choose (IsSmallDigit d) (nat_lt d 65) _ _ (λ e lt. let h = below_code d 65 e in omega (arith, h)) (λ _.
    choose (IsSmallDigit d) (nat_lt d 91) _ _ (λ e lt. let h = below_code d 91 e in omega (arith, h)) (λ _.
    choose (IsSmallDigit d) (nat_lt d 97) _ _ (λ e lt. let h = below_code d 97 e in omega (arith, h)) (λ _.
    choose (IsSmallDigit d) (nat_lt d 123) _ _ (λ e lt. let h = below_code d 123 e in omega (arith, h)) (λ _ lt. absurd (omega (arith, lt))))))))

-- so many hex digits are ASCII
hex_text : (k n u : ℕ) (w r : Bytes) → Hex k n u w r → IsUtf8 w → IsUtf8 r
hex_text zero n u w r h t = subst IsUtf8 (sym h.1) t
hex_text (suc k) n u w r h t =
    let d : ℕ = h.0 in
    let lt : digit_value d < 16 = h.3 in
    hex_text k (n * 16 + digit_value d) u h.1 r h.4 (past_at d w h.1 (digit_small d lt) h.2 t)

unit_text : (u : ℕ) (w r : Bytes) → Unit16 u w r → IsUtf8 w → IsUtf8 r
unit_text u w r h t = hex_text 4 0 u h.0 r h.2 (past 117 h.0 (omega arith) (past_at 92 w (117 ∷ h.0) (omega arith) h.1 t))

-- four digits spell a number of 16 bits
hex_small : (u : ℕ) (w r : Bytes) → Hex 4 0 u w r → u < 65536
hex_small u w r h =
    let a = h.3 in
    let b = h.4.3 in
    let c = h.4.4.3 in
    let d = h.4.4.4.3 in
    let e = h.4.4.4.4.0 in
    omega (arith, a, b, c, d, e)

wide_scalar : (u : ℕ) → 57344 ≤ u → u < 1114112 → IsScalar u
wide_scalar u ge lt =
    let a : nat_lt u 55296 ≡ false = grind arith in
    let b : nat_le 57344 u ≡ true = grind arith in
    let c : nat_lt u 1114112 ≡ true = grind arith in
    rw (a, b, c) refl

alone_scalar : (u : ℕ) → u < 65536 → IsAlone u → IsScalar u
alone_scalar u lt (inl low) = low_scalar u low
alone_scalar u lt (inr high) = wide_scalar u high (omega (arith, lt))

pair_scalar : (h l : ℕ) → IsHigh h → IsLow l → IsScalar (pair_of h l)
pair_scalar h l a b =
    let low = a.0 in
    let high = a.1 in
    let least = b.0 in
    let most = b.1 in
    wide_scalar (pair_of h l) (omega arith) (omega (arith, low, high, least, most))

-- what stands before the string's end, where some bytes of a character are still to come
abbrev Ended : List ℕ → Bytes → Bytes → Type 0
Ended bs s r = ((t : Bytes) × (s ≡ bs ++ t) × IsUtf8 t) × IsUtf8 r

no_escape : (b k : ℕ) (bs v u w : Bytes) → 128 ≤ b → k < 128 → w ≡ b ∷ (bs ++ v) → w ≡ k ∷ u → ⊥
no_escape b k bs v u w high low e f = let same = same_head b k (bs ++ v) u (sym e ∙ f) in omega (arith, high, low, same)

characters_text : (ms : List Mark) (bs : List ℕ) (v s w r : Bytes) → AllByRecursion IsHighByte bs → IsUtf8 v → w ≡ bs ++ v → Characters ms s w r → Ended bs s r
characters_text [] [] v s w r high t e h = (([], h.0, IsUtf8-nil), past_at 34 w r (omega arith) h.1 (subst IsUtf8 (sym e) t))
characters_text [] (b ∷ bs) v s w r high t e h = absurd (no_escape b 34 bs v r w high.0 (omega arith) e h.1)
characters_text (raw c ∷ ms) [] v s w r high t e h =
    let first : Begins c h.1 = begins c h.1 (subst IsUtf8 (sym e ∙ h.3) t) in
    let rest = characters_text ms first.more first.rest h.0 h.1 r first.high first.text first.is h.5 in
    let is : s ≡ (c ∷ first.more) ++ rest.0.0 = h.4 ∙ ap (λ (x : Bytes). c ∷ x) rest.0.1 in
    ((s, refl, subst IsUtf8 (sym is) (IsUtf8-append (c ∷ first.more) rest.0.0 first.character rest.0.2)), rest.1)
characters_text (raw c ∷ ms) (b ∷ bs) v s w r high t e h =
    let both : b ∷ (bs ++ v) ≡ c ∷ h.1 = sym e ∙ h.3 in
    let rest = characters_text ms bs v h.0 h.1 r high.1 t (sym (same_tail b c (bs ++ v) h.1 both)) h.5 in
    let is : s ≡ (b ∷ bs) ++ rest.0.0 = h.4 ∙ ap (λ (x : Bytes). c ∷ x) rest.0.1 ∙ ap (λ (z : ℕ). z ∷ (bs ++ rest.0.0)) (sym (same_head b c (bs ++ v) h.1 both)) in
    ((rest.0.0, is, rest.0.2), rest.1)
characters_text (short x c ∷ ms) [] v s w r high t e h =
    let small = short_small x c h.2 in
    let next : IsUtf8 h.1 = past x h.1 small.0 (past_at 92 w (x ∷ h.1) (omega arith) h.3 (subst IsUtf8 (sym e) t)) in
    let rest = characters_text ms [] h.1 h.0 h.1 r tt next refl h.5 in
    ((s, refl, subst IsUtf8 (sym (h.4 ∙ ap (λ (x : Bytes). c ∷ x) rest.0.1)) (ascii_then c rest.0.0 small.1 rest.0.2)), rest.1)
characters_text (short x c ∷ ms) (b ∷ bs) v s w r high t e h = absurd (no_escape b 92 bs v (x ∷ h.1) w high.0 (omega arith) e h.3)
characters_text (unit u ∷ ms) [] v s w r high t e h =
    let next : IsUtf8 h.1 = unit_text u w h.1 h.3 (subst IsUtf8 (sym e) t) in
    let rest = characters_text ms [] h.1 h.0 h.1 r tt next refl h.5 in
    let here : IsUtf8 (encode_utf8 u) = IsUtf8-encode u (alone_scalar u (hex_small u h.3.0 h.1 h.3.2) h.2) in
    ((s, refl, subst IsUtf8 (sym (h.4 ∙ ap (λ (x : Bytes). encode_utf8 u ++ x) rest.0.1)) (IsUtf8-append (encode_utf8 u) rest.0.0 here rest.0.2)), rest.1)
characters_text (unit u ∷ ms) (b ∷ bs) v s w r high t e h = absurd (no_escape b 92 bs v (117 ∷ h.3.0) w high.0 (omega arith) e h.3.1)
characters_text (pair a l ∷ ms) [] v s w r high t e h =
    let middle : IsUtf8 h.1 = unit_text a w h.1 h.5 (subst IsUtf8 (sym e) t) in
    let next : IsUtf8 h.2 = unit_text l h.1 h.2 h.6 middle in
    let rest = characters_text ms [] h.2 h.0 h.2 r tt next refl h.8 in
    let here : IsUtf8 (encode_utf8 (pair_of a l)) = IsUtf8-encode (pair_of a l) (pair_scalar a l h.3 h.4) in
    ((s, refl, subst IsUtf8 (sym (h.7 ∙ ap (λ (x : Bytes). encode_utf8 (pair_of a l) ++ x) rest.0.1)) (IsUtf8-append (encode_utf8 (pair_of a l)) rest.0.0 here rest.0.2)), rest.1)
characters_text (pair a l ∷ ms) (b ∷ bs) v s w r high t e h = absurd (no_escape b 92 bs v (117 ∷ h.5.0) w high.0 (omega arith) e h.5.1)

pub quoted_text : (s w r : Bytes) → Quoted s w r → IsUtf8 w → IsUtf8 s × IsUtf8 r
quoted_text s w r h t =
    let all = characters_text h.1 [] h.0 s h.0 r tt (past_at 34 w h.0 (omega arith) h.2 t) refl h.3 in
    (subst IsUtf8 (sym all.0.1) all.0.2, all.1)

-- ---- numbers

-- the bytes up to these are ASCII
abbrev IsLowTo : Bytes → Bytes → Type 0
IsLowTo w r = (s : Bytes) × (w ≡ s ++ r) × AllByRecursion (λ (b : ℕ). b < 128) s

low_here : (w r : Bytes) → w ≡ r → IsLowTo w r
low_here w r e = ([], e, tt)

low_step : (c : ℕ) (w u r : Bytes) → c < 128 → w ≡ c ∷ u → IsLowTo u r → IsLowTo w r
low_step c w u r lt e h = (c ∷ h.0, e ∙ ap (λ (x : Bytes). c ∷ x) h.1, (lt, h.2))

low_digits : (w r : Bytes) → Digits w r → IsLowTo w r
low_digits [] r h = low_here [] r (sym h)
low_digits (c ∷ w) r (inl e) = low_here (c ∷ w) r (sym e)
low_digits (c ∷ w) r (inr h) = let top = h.0.1 in low_step c (c ∷ w) w r (omega (arith, top)) refl (low_digits w r h.1)

low_some : (w r : Bytes) → SomeDigits w r → IsLowTo w r
low_some w r h = let top = h.3.1 in low_step h.0 w h.1 r (omega (arith, top)) h.2 (low_digits h.1 r h.4)

low_join : (s t : Bytes) → AllByRecursion (λ (b : ℕ). b < 128) s → AllByRecursion (λ (b : ℕ). b < 128) t → AllByRecursion (λ (b : ℕ). b < 128) (s ++ t)
low_join [] t h k = k
low_join (b ∷ s) t h k = (h.0, low_join s t h.1 k)

low_then : (w u r : Bytes) → IsLowTo w u → IsLowTo u r → IsLowTo w r
low_then w u r h k = (h.0 ++ k.0, h.1 ∙ ap (λ (x : Bytes). h.0 ++ x) k.1 ∙ sym (append_assoc h.0 k.0 r), low_join h.0 k.0 h.2 k.2)

low_byte : (c : ℕ) (w r : Bytes) → c < 128 → w ≡ c ∷ r → IsLowTo w r
low_byte c w r lt e = low_step c w r r lt e (low_here r r refl)

low_minus : (w r : Bytes) → Minus w r → IsLowTo w r
low_minus w r (inl e) = low_here w r e
low_minus w r (inr e) = low_byte 45 w r (omega arith) e

low_whole : (w r : Bytes) → Whole w r → IsLowTo w r
low_whole w r (inl e) = low_byte 48 w r (omega arith) e
low_whole w r (inr h) = let top = h.4 in low_step h.0 w h.1 r (omega (arith, top)) h.2 (low_digits h.1 r h.5)

low_fraction : (w r : Bytes) → Fraction w r → IsLowTo w r
low_fraction w r (inl e) = low_here w r e
low_fraction w r (inr h) = low_step 46 w h.0 r (omega arith) h.1 (low_some h.0 r h.2)

low_sign : (w r : Bytes) → Sign w r → IsLowTo w r
low_sign w r (inl e) = low_here w r e
low_sign w r (inr (inl e)) = low_byte 43 w r (omega arith) e
low_sign w r (inr (inr e)) = low_byte 45 w r (omega arith) e

low_letter : (e : ℕ) → (e ≡ 101) ⊎ (e ≡ 69) → e < 128
low_letter e (inl is) = omega (arith, is)
low_letter e (inr is) = omega (arith, is)

low_exponent : (w r : Bytes) → Exponent w r → IsLowTo w r
low_exponent w r (inl e) = low_here w r e
low_exponent w r (inr h) = low_step h.0 w h.1 r (low_letter h.0 h.4) h.3 (low_then h.1 h.2 r (low_sign h.1 h.2 h.5) (low_some h.2 r h.6))

low_number : (w r : Bytes) → Number w r → IsLowTo w r
low_number w r h =
    low_then w h.0 r (low_minus w h.0 h.3)
    (low_then h.0 h.1 r (low_whole h.0 h.1 h.4)
    (low_then h.1 h.2 r (low_fraction h.1 h.2 h.5) (low_exponent h.2 r h.6)))

past_low : (s r : Bytes) → AllByRecursion (λ (b : ℕ). b < 128) s → IsUtf8 (s ++ r) → IsUtf8 r
past_low [] r h t = t
past_low (b ∷ s) r h t = past_low s r h.1 (past b (s ++ r) h.0 t)

number_text : (s w r : Bytes) → w ≡ s ++ r → Number s [] → IsUtf8 w → IsUtf8 r
number_text s w r e h t =
    let low = low_number s [] h in
    let is : s ≡ low.0 = low.1 ∙ append-nil low.0 in
    past_low s r (subst (λ (x : Bytes). AllByRecursion (λ (b : ℕ). b < 128) x) (sym is) low.2) (subst IsUtf8 e t)

-- ---- values

blank_low : (c : ℕ) → IsBlank c → c < 128
blank_low c (inl e) = omega (arith, e)
blank_low c (inr (inl e)) = omega (arith, e)
blank_low c (inr (inr (inl e))) = omega (arith, e)
blank_low c (inr (inr (inr e))) = omega (arith, e)

blanks_text : (w r : Bytes) → Blanks w r → IsUtf8 w → IsUtf8 r
blanks_text [] r h t = subst IsUtf8 (sym h) t
blanks_text (c ∷ w) r (inl e) t = subst IsUtf8 (sym e) t
blanks_text (c ∷ w) r (inr h) t = blanks_text w r h.1 (past c w (blank_low c h.0) t)

spaced_text : {X : Type 0} (Part : Bytes → Bytes → Type 0) → ((a b : Bytes) → Part a b → IsUtf8 a → X × IsUtf8 b) → (w r : Bytes) → Spaced Part w r → IsUtf8 w → X × IsUtf8 r
spaced_text Part to w r h t =
    let inside = to h.0 h.1 h.3 (blanks_text w h.0 h.2 t) in
    (inside.0, blanks_text h.1 r h.4 inside.1)

bool_past : (b : Bool) (w r : Bytes) → w ≡ bool_word b ++ r → IsUtf8 w → IsUtf8 r
bool_past true w r e t = past_low (bool_word true) r (omega arith, (omega arith, (omega arith, (omega arith, tt)))) (subst IsUtf8 e t)
bool_past false w r e t = past_low (bool_word false) r (omega arith, (omega arith, (omega arith, (omega arith, (omega arith, tt))))) (subst IsUtf8 e t)

mutual
  value_text : (j : Json) (w r : Bytes) → Value j w r → IsUtf8 w → HasTexts j × IsUtf8 r
  value_text null w r h t = (tt, past_low null_word r (omega arith, (omega arith, (omega arith, (omega arith, tt)))) (subst IsUtf8 h t))
  value_text (boolean b) w r h t = (tt, bool_past b w r h t)
  value_text (number s) w r h t = (tt, number_text s w r h.0 h.1 t)
  value_text (string s) w r h t = quoted_text s w r h t
  value_text (array js) w r h t = first_item_text js h.0 r h.2 (past_at 91 w h.0 (omega arith) h.1 t)
  value_text (object ms) w r h t = first_member_text ms h.0 r h.2 (past_at 123 w h.0 (omega arith) h.1 t)

  first_item_text : (js : Items) (w r : Bytes) → FirstItem js w r → IsUtf8 w → ItemsHaveTexts js × IsUtf8 r
  first_item_text no_items w r h t = (tt, past 93 r (omega arith) (blanks_text w (93 ∷ r) h t))
  first_item_text (item j js) w r h t =
      let one = spaced_text (Value j) (value_text j) w h.0 h.1 t in
      let more = more_items_text js h.0 r h.2 one.1 in
      ((one.0, more.0), more.1)

  more_items_text : (js : Items) (w r : Bytes) → MoreItems js w r → IsUtf8 w → ItemsHaveTexts js × IsUtf8 r
  more_items_text no_items w r h t = (tt, past_at 93 w r (omega arith) h t)
  more_items_text (item j js) w r h t =
      let one = spaced_text (Value j) (value_text j) h.0 h.1 h.3 (past_at 44 w h.0 (omega arith) h.2 t) in
      let more = more_items_text js h.1 r h.4 one.1 in
      ((one.0, more.0), more.1)

  first_member_text : (ms : Members) (w r : Bytes) → FirstMember ms w r → IsUtf8 w → MembersHaveTexts ms × IsUtf8 r
  first_member_text no_members w r h t = (tt, past 125 r (omega arith) (blanks_text w (125 ∷ r) h t))
  first_member_text (member k j ms) w r h t =
      let name = spaced_text (Quoted k) (quoted_text k) w (58 ∷ h.0) h.2 t in
      let one = spaced_text (Value j) (value_text j) h.0 h.1 h.3 (past 58 h.0 (omega arith) name.1) in
      let more = more_members_text ms h.1 r h.4 one.1 in
      ((name.0, one.0, more.0), more.1)

  more_members_text : (ms : Members) (w r : Bytes) → MoreMembers ms w r → IsUtf8 w → MembersHaveTexts ms × IsUtf8 r
  more_members_text no_members w r h t = (tt, past_at 125 w r (omega arith) h t)
  more_members_text (member k j ms) w r h t =
      let name = spaced_text (Quoted k) (quoted_text k) h.0 (58 ∷ h.1) h.4 (past_at 44 w h.0 (omega arith) h.3 t) in
      let one = spaced_text (Value j) (value_text j) h.1 h.2 h.5 (past 58 h.1 (omega arith) name.1) in
      let more = more_members_text ms h.2 r h.6 one.1 in
      ((name.0, one.0, more.0), more.1)

pub read_texts : (v : OJson) (w : Bytes) → Reads v w → HasTexts (json_of v)
read_texts v w h = let all = spaced_text (Value (json_of v)) (value_text (json_of v)) w [] h.text h.utf8 in all.0
