-- Bytes that are pieces, one for each item of a list, and lists of lines that tell them.
use Rattle.std.proofs.Common.{arith, ◌≡◌, ◌∙◌, refl, sym, ap, subst, ℕ, zero, suc, ◌+◌, ◌<◌, ◌≤◌, ◌⊎◌, inl, inr, List, [], ◌∷◌, ◌++◌, append-nil, length, length-append, length-take-le, get_or, take, take_all, map, option_map, Option, Some, slice_get}
use Rattle.std.proofs.lemmas.Option.{none-some, same_Some, slice_get_within, slice_get-map}
use Rattle.std.proofs.lemmas.List.{take_more, length-map, flat_map_more}
use Rattle.ts_base.specs.Bytes.{Bytes}
use Rattle.ts_core.specs.declared.flat.FlatGrammar.{FlatGrammar}
use Rattle.spec_history.specs.Printed.{TellsEach}
use Rattle.ts_transcript.specs.declared.line.RunLine.{RunLine}
use Rattle.ts_transcript.specs.Told.{AddsLines}
use Rattle.ts_transcript.proofs.LineLemmas.{Then, added_then, tells_as_well}

-- ---- places of lists

-- what stands at a place of a list with one more item at its end
abbrev IsAtEnd : {A : Type 0} → List A → A → A → ℕ → Type 0
IsAtEnd xs x y n = (slice_get xs n ≡ Some y) ⊎ ((n ≡ length xs) × (y ≡ x))

one_later : {A : Type 0} (z : A) (xs : List A) (x y : A) (n : ℕ) → IsAtEnd xs x y n → IsAtEnd (z ∷ xs) x y (suc n)
one_later z xs x y n (inl h) = inl h
one_later z xs x y n (inr h) = inr (ap suc h.0, h.1)

at_end : {A : Type 0} (xs : List A) (x y : A) (n : ℕ) → slice_get (xs ++ x ∷ []) n ≡ Some y → IsAtEnd xs x y n
at_end [] x y zero e = inr (refl, sym (same_Some x y e))
at_end [] x y (suc n) e = absurd (none-some y e)
at_end (z ∷ xs) x y zero e = inl e
at_end (z ∷ xs) x y (suc n) e = one_later z xs x y n (at_end xs x y n e)

pub there_is : {A : Type 0} (xs : List A) (n : ℕ) → n < length xs → (x : A) × (slice_get xs n ≡ Some x)
there_is [] n lt = let f : ⊥ = omega (arith, lt) in elim f [ ]
there_is (x ∷ xs) zero lt = (x, refl)
there_is (x ∷ xs) (suc n) lt = there_is xs n (omega (arith, lt))

-- ---- no piece, one more piece

no_piece : {A : Type 0} (Tells : ℕ → A → Bytes → Type 0) (bytes : Bytes) → bytes ≡ [] → TellsEach Tells [] bytes
no_piece {A = A} Tells bytes is = record {
  pieces = [];
  count = refl;
  each = λ n x piece here there.
      let nothing : List A = [] in
      let within = slice_get_within nothing n x here in
      let f : ⊥ = omega (arith, within) in
      elim f [ ];
  bytes_are = is;
}

picked : {A : Type 0} (Tells : ℕ → A → Bytes → Type 0) (xs : List A) (pieces : List Bytes) (x y : A) (piece p : Bytes) (n : ℕ) → length pieces ≡ length xs
    → (slice_get xs n ≡ Some y → slice_get pieces n ≡ Some p → Tells n y p) → Tells (length xs) x piece
    → IsAtEnd xs x y n → IsAtEnd pieces piece p n → Tells n y p
picked Tells xs pieces x y piece p n count both tells (inl a) (inl b) = both a b
picked Tells xs pieces x y piece p n count both tells (inl a) (inr b) =
    let within = slice_get_within xs n y a in
    let f : ⊥ = omega (arith, within, count, b.0) in
    elim f [ ]
picked Tells xs pieces x y piece p n count both tells (inr a) (inl b) =
    let within = slice_get_within pieces n p b in
    let f : ⊥ = omega (arith, within, count, a.0) in
    elim f [ ]
picked {A = A} Tells xs pieces x y piece p n count both tells (inr a) (inr b) =
    subst (λ (k : ℕ). Tells k y p) (sym a.0)
    (subst (λ (z : A). Tells (length xs) z p) (sym a.1)
    (subst (λ (q : Bytes). Tells (length xs) x q) (sym b.1) tells))

one_more : {A : Type 0} (Tells : ℕ → A → Bytes → Type 0) (xs : List A) (x : A) (bytes piece : Bytes) → Tells (length xs) x piece
    → TellsEach Tells xs bytes → TellsEach Tells (xs ++ x ∷ []) (bytes ++ piece)
one_more Tells xs x bytes piece tells so =
    let a = length-append so.pieces (piece ∷ []) in
    let b = length-append xs (x ∷ []) in
    let c = so.count in
    record {
      pieces = so.pieces ++ piece ∷ [];
      count = omega arith;
      each = λ n y p here there.
          picked Tells xs so.pieces x y piece p n c (so.each n y p) tells (at_end xs x y n here) (at_end so.pieces piece p n there);
      bytes_are = ap (λ (w : Bytes). w ++ piece) so.bytes_are ∙ flat_map_more (λ (w : Bytes). w) [] so.pieces piece;
    }

-- ---- loops

module _ {A : Type 0} (Tells : FlatGrammar → ℕ → A → Bytes → Type 0) (xs : List A) where
  pub add_none : (start : List RunLine) → AddsLines (λ g. TellsEach (Tells g) (take 0 xs)) start start
  add_none start = record {
    added = [];
    tell = λ g bytes are. no_piece (Tells g) bytes are;
    after_is = sym (append-nil start);
  }

  pub add_more : (i : ℕ) (x : A) (start before after : List RunLine) → i < length xs → x ≡ get_or xs i x → AddsLines (λ g. Tells g i x) before after
      → AddsLines (λ g. TellsEach (Tells g) (take i xs)) start before → AddsLines (λ g. TellsEach (Tells g) (take (i + 1) xs)) start after
  add_more i x start before after lt is new so =
      let count : length (take i xs) ≡ i = length-take-le i xs (omega (arith, lt)) in
      let next : take (i + 1) xs ≡ take i xs ++ x ∷ [] = take_more xs i x lt ∙ ap (λ (y : A). take i xs ++ y ∷ []) (sym is) in
      tells_as_well (Then (λ g. TellsEach (Tells g) (take i xs)) (λ g. Tells g i x)) (λ g. TellsEach (Tells g) (take (i + 1) xs)) start after
      (λ g bytes s.
      let told : Tells g (length (take i xs)) x s.1 = subst (λ (k : ℕ). Tells g k x s.1) (sym count) s.3 in
      subst (λ (w : Bytes). TellsEach (Tells g) (take (i + 1) xs) w) (sym s.4)
      (subst (λ (ys : List A). TellsEach (Tells g) ys (s.0 ++ s.1)) (sym next) (one_more (Tells g) (take i xs) x s.0 s.1 told s.2)))
      (added_then (λ g. TellsEach (Tells g) (take i xs)) (λ g. Tells g i x) start before after so new)

  pub add_all : (i : ℕ) (start after : List RunLine) → length xs ≤ i → AddsLines (λ g. TellsEach (Tells g) (take i xs)) start after
      → AddsLines (λ g. TellsEach (Tells g) xs) start after
  add_all i start after end so = subst (λ (ys : List A). AddsLines (λ g. TellsEach (Tells g) ys) start after) (take_all i xs end) so

-- ---- another list

-- the pieces tell the items of another list, if each tells that at the same place
pub beside : {A B : Type 0} (P : ℕ → A → Bytes → Type 0) (Q : ℕ → B → Bytes → Type 0) (xs : List A) (ys : List B) (bytes : Bytes) → length ys ≡ length xs
    → ((n : ℕ) (x : A) (y : B) (piece : Bytes) → slice_get xs n ≡ Some x → slice_get ys n ≡ Some y → P n x piece → Q n y piece)
    → TellsEach P xs bytes → TellsEach Q ys bytes
beside P Q xs ys bytes same as_well so = record {
  pieces = so.pieces;
  count = so.count ∙ sym same;
  each = λ n y piece here there.
      let within = slice_get_within ys n y here in
      let found = there_is xs n (omega (arith, within, same)) in
      as_well n found.0 y piece found.1 here (so.each n found.0 piece found.1 there);
  bytes_are = so.bytes_are;
}

-- the pieces tell what a function makes of the items
pub told_mapped : {A B : Type 0} (P : ℕ → A → Bytes → Type 0) (Q : ℕ → B → Bytes → Type 0) (f : A → B) (xs : List A) (bytes : Bytes)
    → ((n : ℕ) (x : A) (piece : Bytes) → slice_get xs n ≡ Some x → P n x piece → Q n (f x) piece)
    → TellsEach P xs bytes → TellsEach Q (map f xs) bytes
told_mapped {A = A} {B = B} P Q f xs bytes as_well so =
    beside P Q xs (map f xs) bytes (length-map xs f)
    (λ n x y piece here there told.
    let made : Some (f x) ≡ Some y = sym (slice_get-map f xs n ∙ ap (λ (o : Option A). option_map f o) here) ∙ there in
    subst (λ (z : B). Q n z piece) (same_Some (f x) y made) (as_well n x piece here told))
    so
