-- Names, blanks and strings in a text, byte for byte.
use Rattle.std.proofs.Common.{◌≡◌, ℕ, zero, suc, ◌+◌, ◌-◌, ◌<◌, ◌≤◌, Bool, true, false, not, ◌&&◌, ◌||◌, ◌==◌, List, [], ◌∷◌, ◌++◌, length, take, drop, get_or, slice_get, nat_eq, Option, Some, None, refl, sym, ap, ap₂, subst, ◌∙◌, append-nil, true≢false, arith, inl, inr, if◌then◌else◌}
use Rattle.std.specs.Option.{option_eq}
use Rattle.std.specs.Char.{encode_utf8}
use Rattle.std.specs.List.{prefix_len}
use Rattle.std.specs.Str.{IsUtf8, IsCharBoundary}
use Rattle.std.proofs.lemmas.List.{append_assoc, drop_more, get_or-drop, length-drop, drop-drop, drop_all}
use Rattle.std.proofs.lemmas.Bool.{cases_lt}
use Rattle.std.proofs.Math.Seq.{take-add}
use Rattle.std.proofs.lemmas.List.Sums.{prefix_len_passes, prefix_len_stops}
use Rattle.std.proofs.lemmas.Option.{none-some, same_Some, slice_get_cases, slice_get-get_or, get_or_from_slice_get}
use Rattle.std.proofs.lemmas.Str.{IsCharBoundary-after_ascii, IsCharBoundary-before_ascii, encode_ascii}
use Rattle.ts_base.specs.Bytes.{Bytes}
use Rattle.ts_query_tree.specs.Signs.{is_predicate_mark}
use Rattle.ts_query_tree.specs.Words.{is_name_start, is_name_byte, is_plain, run, holds, begins_name, letter_of, meaning, before, inside, escaped, ending, quoted}

-- what stands at a place, and that it is within the text
pub byte_there : (w : Bytes) (i c : ℕ) → slice_get w i ≡ Some c → (i < length w) × (get_or w i 0 ≡ c)
byte_there w i c e = elim (slice_get_cases w i).1 [
  | inl x ↦ (x.1, get_or_from_slice_get w i c 0 e)
  | inr x ↦ absurd (none-some c (sym x.1 ∙ e))
]

-- ---- names

start_ascii : (c : ℕ) → is_name_start c ≡ true → c < 128
start_ascii c e = grind arith

byte_ascii : (c : ℕ) → is_name_byte c ≡ true → c < 128
byte_ascii c e = grind arith

start_is_byte : (c : ℕ) → is_name_start c ≡ true → is_name_byte c ≡ true
start_is_byte c e = ap (λ (k : Bool). k || (c == 45) || (c == 46)) e

pub starts : (w : Bytes) (i : ℕ) → begins_name w i ≡ true → (i < length w) × (is_name_start (get_or w i 0) ≡ true)
starts w i e = by (slice_get w i) refl e
  where
    by : (o : Option ℕ) → slice_get w i ≡ o → holds is_name_start o ≡ true → (i < length w) × (is_name_start (get_or w i 0) ≡ true)
    by None k h = absurd (true≢false (sym h))
    by (Some c) k h = let t = byte_there w i c k in (t.0, ap is_name_start t.1 ∙ h)

some_run : (xs : List ℕ) → 0 < length xs → is_name_byte (get_or xs 0 0) ≡ true → 0 < prefix_len is_name_byte xs
some_run [] lt e = absurd (omega (arith, lt))
some_run (c ∷ xs) lt e = grind arith

pub record IsName (w : Bytes) (i end : ℕ) : Type 0 where
  pub later : i < end
  pub within : end ≤ length w
  pub from : IsCharBoundary w i
  pub to : IsCharBoundary w end

pub name_there : (w : Bytes) (i n : ℕ) → IsUtf8 w → begins_name w i ≡ true → n ≡ run is_name_byte w i → i + n ≤ length w → IsName w i (i + n)
name_there w i n utf8 e is le =
    let s = starts w i e in
    let first : is_name_byte (get_or (drop i w) 0 0) ≡ true = ap is_name_byte (get_or-drop i w 0 0 ∙ ap (λ (k : ℕ). get_or w k 0) (omega arith)) ∙ start_is_byte (get_or w i 0) s.1 in
    let many : 0 < length (drop i w) = subst (λ (k : ℕ). 0 < k) (sym (length-drop i w)) (omega (arith, s.0)) in
    let some = some_run (drop i w) many first in
    let one : 0 < n = omega (arith, is, some) in
    let last : is_name_byte (get_or (drop i w) (n - 1) 0) ≡ true = prefix_len_passes is_name_byte (drop i w) (n - 1) 0 (omega (arith, is, one)) in
    let ascii : get_or w (i + (n - 1)) 0 < 128 = byte_ascii _ (ap is_name_byte (sym (get_or-drop i w (n - 1) 0)) ∙ last) in
    let place : i + (n - 1) + 1 ≡ i + n = omega (arith, one) in
    record {
      later = omega (arith, one);
      within = le;
      from = IsCharBoundary-before_ascii w i s.0 (start_ascii _ s.1);
      to = subst (IsCharBoundary w) place (IsCharBoundary-after_ascii w (i + (n - 1)) utf8 (omega (arith, le, one)) ascii);
    }

-- ---- strings

before_nothing : (o : Option (Bytes × ℕ)) → before [] 0 o ≡ o
before_nothing None = refl
before_nothing (Some x) = ap (λ (n : ℕ). Some (x.0, n)) (omega arith)

before_before : (s t : Bytes) (m n : ℕ) (o : Option (Bytes × ℕ)) → before s m (before t n o) ≡ before (s ++ t) (m + n) o
before_before s t m n None = refl
before_before s t m n (Some x) = ap₂ (λ (u : Bytes) (k : ℕ). Some (u, k)) (sym (append_assoc s t x.0)) (omega arith)

both : (a b : Bool) → (a && b) ≡ true → (a ≡ true) × (b ≡ true)
both true b e = (refl, e)
both false b e = absurd (true≢false (sym e))

negated : (b : Bool) → not b ≡ true → b ≡ false
negated true e = absurd (true≢false (sym e))
negated false e = refl

inside_plain : (c : ℕ) (xs : Bytes) → is_plain c ≡ true → inside (c ∷ xs) ≡ before (c ∷ []) 1 (inside xs)
inside_plain c xs e =
    let t = both (not (c == 34)) (not (c == 92)) e in
    ap (λ (k : Bool). if k then Some ([], 1) else if c == 92 then escaped xs else before (c ∷ []) 1 (inside xs)) (negated _ t.0)
    ∙ ap (λ (k : Bool). if k then escaped xs else before (c ∷ []) 1 (inside xs)) (negated _ t.1)

plain_part : (n : ℕ) (xs : Bytes) → n ≤ length xs → ((k : ℕ) → k < n → is_plain (get_or xs k 0) ≡ true) → inside xs ≡ before (take n xs) n (inside (drop n xs))
plain_part zero xs le h = sym (before_nothing (inside xs))
plain_part (suc n) [] le h = absurd (omega (arith, le))
plain_part (suc n) (c ∷ xs) le h =
    inside_plain c xs (h 0 (omega arith))
    ∙ ap (before (c ∷ []) 1) (plain_part n xs (omega (arith, le)) (λ k lt. h (suc k) (omega (arith, lt))))
    ∙ before_before (c ∷ []) (take n xs) 1 n (inside (drop n xs))
    ∙ ap (λ (k : ℕ). before (c ∷ take n xs) k (inside (drop n xs))) (omega arith)

-- the text between two places
abbrev pub between : Bytes → ℕ → ℕ → Bytes
between w i j = take (j - i) (drop i w)

-- How far a string is read that begins at `from`: what was read, and the bytes from `kept` to `at`,
-- which stand for themselves.
pub record IsPiece (w : Bytes) (from kept at : ℕ) (read : Bytes) : Type 0 where
  pub order : (from ≤ kept) × (kept ≤ at) × (at ≤ length w)
  pub boundary : IsCharBoundary w kept
  pub is : inside (drop from w) ≡ before (read ++ between w kept at) (at - from) (inside (drop at w))

between_more : (w : Bytes) (i j k : ℕ) → i ≤ j → j ≤ k → k ≤ length w → between w i j ++ between w j k ≡ between w i k
between_more w i j k a b c =
    ap (λ (n : ℕ). take (j - i) (drop i w) ++ take (k - j) (drop n w)) at_j
    ∙ ap (λ (t : Bytes). take (j - i) (drop i w) ++ take (k - j) t) (sym (drop-drop (j - i) i w))
    ∙ sym (take-add (j - i) (k - j) (drop i w)) ∙ ap (λ (n : ℕ). take n (drop i w)) whole
  where
    at_j : j ≡ i + (j - i)
    at_j = omega (arith, a)

    whole : (j - i) + (k - j) ≡ k - i
    whole = omega (arith, a, b)

between_same : (w : Bytes) (i : ℕ) → between w i i ≡ []
between_same w i = let none : i - i ≡ 0 = omega arith in ap (λ (n : ℕ). take n (drop i w)) none

-- a piece of which more is written
on : (w : Bytes) (from kept at : ℕ) (read : Bytes) (t : Bytes) (n : ℕ) → IsPiece w from kept at read → inside (drop at w) ≡ before t n (inside (drop (at + n) w)) →
    inside (drop from w) ≡ before ((read ++ between w kept at) ++ t) ((at + n) - from) (inside (drop (at + n) w))
on w from kept at read t n p e =
    p.is ∙ ap (before (read ++ between w kept at) (at - from)) e ∙ before_before (read ++ between w kept at) t (at - from) n (inside (drop (at + n) w))
    ∙ ap (λ (k : ℕ). before ((read ++ between w kept at) ++ t) k (inside (drop (at + n) w))) (omega (arith, p.order.0, p.order.1))

pub piece_runs : (w : Bytes) (from kept at : ℕ) (read : Bytes) (n : ℕ) → IsPiece w from kept at read → n ≡ run is_plain w at → at + n ≤ length w → IsPiece w from kept (at + n) read
piece_runs w from kept at read n p e le =
    let within : n ≤ length (drop at w) = subst (λ (k : ℕ). n ≤ k) (sym (length-drop at w)) (omega (arith, le)) in
    let part = plain_part n (drop at w) within (λ k lt. prefix_len_passes is_plain (drop at w) k 0 (omega (arith, lt, e))) in
    let rest : inside (drop at w) ≡ before (take n (drop at w)) n (inside (drop (at + n) w)) = part ∙ ap (λ (xs : Bytes). before (take n (drop at w)) n (inside xs)) (drop-drop n at w) in
    let same : between w at (at + n) ≡ take n (drop at w) = ap (λ (k : ℕ). take k (drop at w)) (omega arith) in
    let bytes : (read ++ between w kept at) ++ take n (drop at w) ≡ read ++ between w kept (at + n) =
    append_assoc read (between w kept at) (take n (drop at w)) ∙ ap (λ (t : Bytes). read ++ (between w kept at ++ t)) (sym same)
    ∙ ap (λ (t : Bytes). read ++ t) (between_more w kept at (at + n) p.order.1 (omega arith) le) in record {
      order = (p.order.0, omega (arith, p.order.1), le);
      boundary = p.boundary;
      is = on w from kept at read (take n (drop at w)) n p rest ∙ ap (λ (s : Bytes). before s ((at + n) - from) (inside (drop (at + n) w))) bytes;
    }

-- where no plain byte stands
pub stands_plain : (w : Bytes) (at n : ℕ) → n ≡ run is_plain w at → at + n < length w → is_plain (get_or w (at + n) 0) ≡ false
stands_plain w at n e lt =
    let within : prefix_len is_plain (drop at w) < length (drop at w) = subst (λ (k : ℕ). prefix_len is_plain (drop at w) < k) (sym (length-drop at w)) (omega (arith, lt, e)) in
    ap is_plain (sym (get_or-drop at w n 0) ∙ ap (λ (k : ℕ). get_or (drop at w) k 0) e) ∙ prefix_len_stops is_plain (drop at w) 0 within

here : (w : Bytes) (i : ℕ) → i < length w → drop i w ≡ get_or w i 0 ∷ drop (i + 1) w
here w i lt = drop_more w i 0 lt

pub piece_ends : (w : Bytes) (from kept at : ℕ) (read : Bytes) → IsPiece w from kept at read → slice_get w at ≡ Some 34 → quoted w from ≡ Some (read ++ between w kept at, at + 1)
piece_ends w from kept at read p e =
    let b = byte_there w at 34 e in
    let ends : inside (drop at w) ≡ Some ([], 1) = ap inside (here w at b.0 ∙ ap (λ (c : ℕ). c ∷ drop (at + 1) w) b.1) in
    ap (ending from) (p.is ∙ ap (before (read ++ between w kept at) (at - from)) ends)
    ∙ ap₂ (λ (s : Bytes) (n : ℕ). Some (s, n)) (append-nil (read ++ between w kept at)) (omega (arith, p.order.0, p.order.1))

is_backslash : (c : ℕ) → is_plain c ≡ false → (c ≡ 34 → ⊥) → c ≡ 92
is_backslash c e n = grind arith

backslash : (w : Bytes) (at : ℕ) → at < length w → is_plain (get_or w at 0) ≡ false → (slice_get w at ≡ Some 34 → ⊥) → get_or w at 0 ≡ 92
backslash w at lt e n = is_backslash (get_or w at 0) e (λ h. n (slice_get-get_or w at 0 lt ∙ ap Some h))

pub piece_open : (w : Bytes) (from kept at : ℕ) (read : Bytes) → IsPiece w from kept at read → (at < length w → is_plain (get_or w at 0) ≡ false) → (slice_get w at ≡ Some 34 → ⊥) →
    slice_get w (at + 1) ≡ None → quoted w from ≡ None
piece_open w from kept at read p stop n e =
    ap (ending from) (p.is ∙ ap (before (read ++ between w kept at) (at - from)) nothing)
  where
    past : length w ≤ at + 1
    past = elim (slice_get_cases w (at + 1)).1 [
      | inl x ↦ absurd (none-some x.0 (sym e ∙ x.2))
      | inr x ↦ x.0
    ]

    nothing : inside (drop at w) ≡ None
    nothing = elim (cases_lt at (length w)) [
      | inl lt ↦ ap inside (here w at lt ∙ ap₂ (λ (c : ℕ) (t : Bytes). c ∷ t) (backslash w at lt (stop lt) n) (drop_all (at + 1) w past))
      | inr le ↦ ap inside (drop_all at w le)
    ]

escape : (w : Bytes) (at c : ℕ) → get_or w at 0 ≡ 92 → slice_get w (at + 1) ≡ Some c → inside (drop at w) ≡ before (meaning (letter_of c) c ∷ []) 2 (inside (drop (at + 2) w))
escape w at c e h =
    let b = byte_there w (at + 1) c h in
    let lt : at < length w = omega (arith, b.0) in
    ap inside (here w at lt ∙ ap₂ (λ (d : ℕ) (t : Bytes). d ∷ t) e (here w (at + 1) b.0 ∙ ap₂ (λ (d : ℕ) (t : Bytes). d ∷ t) b.1 (ap (λ (n : ℕ). drop n w) (omega arith))))

letter_ascii : (c d : ℕ) → letter_of c ≡ Some d → c < 128
letter_ascii c d e = grind arith

-- behind a letter that stands for another character
pub piece_letter : (w : Bytes) (from kept at : ℕ) (read : Bytes) (c d : ℕ) → IsUtf8 w → IsPiece w from kept at read → (at < length w → is_plain (get_or w at 0) ≡ false) → (slice_get w at ≡ Some 34 → ⊥) →
    slice_get w (at + 1) ≡ Some c → letter_of c ≡ Some d → IsPiece w from (at + 2) (at + 2) ((read ++ between w kept at) ++ d ∷ [])
piece_letter w from kept at read c d utf8 p stop n h l =
    let b = byte_there w (at + 1) c h in
    let lt : at < length w = omega (arith, b.0) in
    let more = escape w at c (backslash w at lt (stop lt) n) h ∙ ap (λ (o : Option ℕ). before (meaning o c ∷ []) 2 (inside (drop (at + 2) w))) l in
    let place : at + 1 + 1 ≡ at + 2 = omega arith in record {
      order = (omega (arith, p.order.0, p.order.1), omega arith, omega (arith, b.0));
      boundary = subst (IsCharBoundary w) place (IsCharBoundary-after_ascii w (at + 1) utf8 b.0 (subst (λ (k : ℕ). k < 128) (sym b.1) (letter_ascii c d l)));
      is = on w from kept at read (d ∷ []) 2 p more
          ∙ ap (λ (s : Bytes). before s ((at + 2) - from) (inside (drop (at + 2) w))) (sym (append-nil ((read ++ between w kept at) ++ d ∷ [])) ∙ ap (λ (t : Bytes). ((read ++ between w kept at) ++ d ∷ []) ++ t) (sym (between_same w (at + 2))));
    }

-- behind a backslash and another byte
pub piece_other : (w : Bytes) (from kept at : ℕ) (read : Bytes) (c : ℕ) → IsUtf8 w → IsPiece w from kept at read → (at < length w → is_plain (get_or w at 0) ≡ false) → (slice_get w at ≡ Some 34 → ⊥) →
    slice_get w (at + 1) ≡ Some c → letter_of c ≡ None → IsPiece w from (at + 1) (at + 2) (read ++ between w kept at)
piece_other w from kept at read c utf8 p stop n h l =
    let b = byte_there w (at + 1) c h in
    let lt : at < length w = omega (arith, b.0) in
    let slash = backslash w at lt (stop lt) n in
    let more = escape w at c slash h ∙ ap (λ (o : Option ℕ). before (meaning o c ∷ []) 2 (inside (drop (at + 2) w))) l in
    let width : (at + 2) - (at + 1) ≡ 1 = omega arith in
    let one : between w (at + 1) (at + 2) ≡ c ∷ [] =
    ap (λ (k : ℕ). take k (drop (at + 1) w)) width ∙ ap (take 1) (here w (at + 1) b.0) ∙ ap (λ (d : ℕ). d ∷ []) b.1 in record {
      order = (omega (arith, p.order.0, p.order.1), omega arith, omega (arith, b.0));
      boundary = IsCharBoundary-after_ascii w at utf8 lt (subst (λ (k : ℕ). k < 128) (sym slash) (omega arith));
      is = on w from kept at read (c ∷ []) 2 p more ∙ ap (λ (t : Bytes). before ((read ++ between w kept at) ++ t) ((at + 2) - from) (inside (drop (at + 2) w))) (sym one);
    }

-- a text may be cut before a quote and before a backslash
pub plain_boundary : (w : Bytes) (at : ℕ) → at < length w → is_plain (get_or w at 0) ≡ false → IsCharBoundary w at
plain_boundary w at lt e = IsCharBoundary-before_ascii w at lt (low (get_or w at 0) e)
  where
    low : (c : ℕ) → is_plain c ≡ false → c < 128
    low c e = grind arith

-- ---- what a test for a quote says

pub quote_there : (o : Option ℕ) → true ≡ option_eq nat_eq o (Some 34) → o ≡ Some 34
quote_there None e = absurd (true≢false e)
quote_there (Some c) e = let is : c ≡ 34 = grind arith in ap Some is

pub no_quote : (o : Option ℕ) → false ≡ option_eq nat_eq o (Some 34) → o ≡ Some 34 → ⊥
no_quote o e h = let t : false ≡ true = subst (λ (x : Option ℕ). false ≡ option_eq nat_eq x (Some 34)) h e in true≢false (sym t)

pub at_end : (w : Bytes) (from kept at : ℕ) (read s t : Bytes) → IsPiece w from kept at read → slice_get w at ≡ Some 34 → t ≡ between w kept at → s ≡ read ++ t →
    Some (s, at + 1) ≡ quoted w from
at_end w from kept at read s t p e ht hs =
    ap (λ (x : Bytes). Some (x, at + 1)) (hs ∙ ap (λ (x : Bytes). read ++ x) ht) ∙ sym (piece_ends w from kept at read p e)

pub letter_bytes : (c d : ℕ) → letter_of c ≡ Some d → encode_utf8 d ≡ d ∷ []
letter_bytes c d e = encode_ascii d low
  where
    low : d < 128
    low = grind arith

-- ---- where a text may be cut

pub boundary_here : (w : Bytes) (i c : ℕ) → slice_get w i ≡ Some c → c < 128 → IsCharBoundary w i
boundary_here w i c e lt = let b = byte_there w i c e in IsCharBoundary-before_ascii w i b.0 (subst (λ (k : ℕ). k < 128) (sym b.1) lt)

-- behind the mark of a predicate
pub mark_there : (w : Bytes) (i : ℕ) → IsUtf8 w → is_predicate_mark (slice_get w i) ≡ true → (i < length w) × IsCharBoundary w (i + 1)
mark_there w i utf8 e = by (slice_get w i) refl e
  where
    low : (c : ℕ) → ((c == 63) || (c == 33)) ≡ true → c < 128
    low c h = grind arith

    by : (o : Option ℕ) → slice_get w i ≡ o → is_predicate_mark o ≡ true → (i < length w) × IsCharBoundary w (i + 1)
    by None k h = absurd (true≢false (sym h))
    by (Some c) k h = let b = byte_there w i c k in (b.0, IsCharBoundary-after_ascii w i utf8 b.0 (subst (λ (n : ℕ). n < 128) (sym b.1) (low c h)))

pub boundary_behind : (w : Bytes) (i c : ℕ) → IsUtf8 w → slice_get w i ≡ Some c → c < 128 → IsCharBoundary w (i + 1)
boundary_behind w i c utf8 e lt = let b = byte_there w i c e in IsCharBoundary-after_ascii w i utf8 b.0 (subst (λ (k : ℕ). k < 128) (sym b.1) lt)

-- ---- how long strings are

before_some : (s : Bytes) (n : ℕ) (o : Option (Bytes × ℕ)) (x : Bytes × ℕ) → before s n o ≡ Some x → (y : Bytes × ℕ) × (o ≡ Some y) × (n + y.1 ≡ x.1)
before_some s n None x e = absurd (none-some x e)
before_some s n (Some y) x e = (y, refl, ap (λ (z : Bytes × ℕ). z.1) (same_Some _ _ e))

abbrev IsLength : Bytes → Bytes × ℕ → Type 0
IsLength w x = (0 < x.1) × (x.1 ≤ length w)

-- what is said of the bytes behind the first, and behind the first two
abbrev Behind : Bytes → Type 0
Behind w = (y : Bytes × ℕ) → inside w ≡ Some y → IsLength w y

module _ (c : ℕ) (x : Bytes × ℕ) where
  plain_length : (w : Bytes) → Behind w → before (c ∷ []) 1 (inside w) ≡ Some x → IsLength (c ∷ w) x
  plain_length w more h =
      let b = before_some (c ∷ []) 1 (inside w) x h in
      let l = more b.0 b.1 in
      let at : 1 + b.0.1 ≡ x.1 = b.2 in
      (omega (arith, at), omega (arith, at, l.1))

  slashed_length : (w : Bytes) → ((d : ℕ) (v : Bytes) → w ≡ d ∷ v → Behind v) → escaped w ≡ Some x → IsLength (c ∷ w) x
  slashed_length [] more h = absurd (none-some x h)
  slashed_length (d ∷ v) more h =
      let b = before_some (meaning (letter_of d) d ∷ []) 2 (inside v) x h in
      let l = more d v refl b.0 b.1 in
      let at : 2 + b.0.1 ≡ x.1 = b.2 in
      (omega (arith, at), omega (arith, at, l.1))

  length_by : (w : Bytes) → Behind w → ((d : ℕ) (v : Bytes) → w ≡ d ∷ v → Behind v) → (k j : Bool) →
      (if k then Some ([], 1) else if j then escaped w else before (c ∷ []) 1 (inside w)) ≡ Some x → IsLength (c ∷ w) x
  length_by w one two true j h = let n : 1 ≡ x.1 = ap (λ (z : Bytes × ℕ). z.1) (same_Some _ _ h) in (omega (arith, n), omega (arith, n))
  length_by w one two false true h = slashed_length w two h
  length_by w one two false false h = plain_length w one h

inside_within : (n : ℕ) (w : Bytes) → length w ≤ n → Behind w
inside_within n [] le x e = absurd (none-some x e)
inside_within zero (c ∷ w) le x e = absurd (omega (arith, le))
inside_within (suc n) (c ∷ w) le x e =
    length_by c x w (inside_within n w (omega (arith, le)))
    (λ d v k. inside_within n v (let m : length w ≡ length (d ∷ v) = ap length k in omega (arith, le, m)))
    (c == 34) (c == 92) e

pub quoted_within : (w : Bytes) (i : ℕ) (x : Bytes × ℕ) → i ≤ length w → Some x ≡ quoted w i → (i < x.1) × (x.1 ≤ length w)
quoted_within w i x le e = by (inside (drop i w)) refl e
  where
    by : (o : Option (Bytes × ℕ)) → inside (drop i w) ≡ o → Some x ≡ ending i o → (i < x.1) × (x.1 ≤ length w)
    by None k h = absurd (none-some x (sym h))
    by (Some y) k h =
        let l = inside_within (length (drop i w)) (drop i w) (omega arith) y k in
        let n : x.1 ≡ i + y.1 = ap (λ (z : Bytes × ℕ). z.1) (same_Some _ _ h) in
        let most : y.1 ≤ length w - i = subst (λ (m : ℕ). y.1 ≤ m) (length-drop i w) l.1 in
        (omega (arith, n, l.0), omega (arith, n, most, le))
