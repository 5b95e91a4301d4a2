-- Where an edit moves places, and how long it leaves the text.
use Rattle.std.proofs.Common.{◌≡◌, ℕ, ◌+◌, ◌-◌, ◌<◌, ◌≤◌, ◌⊎◌, inl, inr, refl, arith, Bool, true, false, nat_lt, List, [], ◌∷◌, ◌++◌, length, length-append, drop, All}
use Rattle.std.proofs.lemmas.List.{length-take, length-drop}
use Rattle.std.proofs.lemmas.List.Elements.{All-head, All-tail}
use Rattle.std.specs.List.{slice_range}
use Rattle.ts_base.specs.Bytes.{Bytes}
use Rattle.ts_text.specs.declared.edit.Edit.{Edit}
use Rattle.ts_text.specs.declared.edit.Part.{Part}
use Rattle.ts_text.specs.Edit.{IsPartOf, InRange, apply_of, replaced_from}
use Rattle.spec_reuse.specs.Changes.{moved, moved_from}

-- ---- tests of numbers

lower : (a b : ℕ) → nat_lt a b ≡ true → a < b
lower a b e = grind arith

not_lower : (a b : ℕ) → nat_lt a b ≡ false → b ≤ a
not_lower a b e = grind arith

is_lower : (a b : ℕ) → a < b → nat_lt a b ≡ true
is_lower a b h = by (nat_lt a b) refl
  where
    by : (t : Bool) → nat_lt a b ≡ t → nat_lt a b ≡ true
    by true e = e
    by false e = absurd (omega (arith, h, not_lower a b e))

is_not_lower : (a b : ℕ) → b ≤ a → nat_lt a b ≡ false
is_not_lower a b h = by (nat_lt a b) refl
  where
    by : (t : Bool) → nat_lt a b ≡ t → nat_lt a b ≡ false
    by true e = absurd (omega (arith, h, lower a b e))
    by false e = e

less_or : (a b : ℕ) → (a < b) ⊎ (b ≤ a)
less_or a b = by (nat_lt a b) refl
  where
    by : (t : Bool) → nat_lt a b ≡ t → (a < b) ⊎ (b ≤ a)
    by true e = inl (lower a b e)
    by false e = inr (not_lower a b e)

-- ---- where places go

moved_low : (from : ℕ) (p : Part) (ps : List Part) (place : ℕ) → place < p.start → moved_from from (p ∷ ps) place ≡ place - from
moved_low from p ps place h = rw (is_lower place p.start h) refl

moved_high : (from : ℕ) (p : Part) (ps : List Part) (place : ℕ) → p.start ≤ place → moved_from from (p ∷ ps) place ≡ (p.start - from) + (length p.new + moved_from p.end ps place)
moved_high from p ps place h = rw (is_not_lower place p.start h) refl

rises_from : (from : ℕ) (ps : List Part) (a b : ℕ) → a ≤ b → moved_from from ps a ≤ moved_from from ps b
rises_from from [] a b h = omega (arith, h)
rises_from from (p ∷ ps) a b h = by (less_or a p.start) (less_or b p.start) (rises_from p.end ps a b h)
  where
    by : (a < p.start) ⊎ (p.start ≤ a) → (b < p.start) ⊎ (p.start ≤ b) → moved_from p.end ps a ≤ moved_from p.end ps b → moved_from from (p ∷ ps) a ≤ moved_from from (p ∷ ps) b
    by (inl x) (inl y) r = omega (arith, moved_low from p ps a x, moved_low from p ps b y, h)
    by (inl x) (inr y) r = omega (arith, moved_low from p ps a x, moved_high from p ps b y, x)
    by (inr x) (inl y) r = absurd (omega (arith, x, y, h))
    by (inr x) (inr y) r = omega (arith, moved_high from p ps a x, moved_high from p ps b y, r)

-- an edit keeps the order of places
pub moved_rises : (e : Edit) (a b : ℕ) → a ≤ b → moved e a ≤ moved e b
moved_rises e a b h = rises_from 0 e.parts a b h

-- ---- how long the text becomes

length_from : (text : Bytes) (from : ℕ) (ps : List Part) → All (IsPartOf text) ps → length (replaced_from text from ps) ≡ moved_from from ps (length text)
length_from text from [] w = length-drop from text
length_from text from (p ∷ ps) w =
    let own : IsPartOf text p = All-head (IsPartOf text) p ps w in
    let inside : p.start ≤ length text = own.start_on.0 in
    let rest = length_from text p.end ps (All-tail (IsPartOf text) p ps w) in
    let one : length (slice_range text from p.start) ≡ p.start - from = omega (arith, length-take (p.start - from) (drop from text), length-drop from text, inside) in
    let two : length (slice_range text from p.start ++ p.new) ≡ length (slice_range text from p.start) + length p.new = length-append (slice_range text from p.start) p.new in
    let all : length ((slice_range text from p.start ++ p.new) ++ replaced_from text p.end ps) ≡ length (slice_range text from p.start ++ p.new) + length (replaced_from text p.end ps) =
    length-append (slice_range text from p.start ++ p.new) (replaced_from text p.end ps) in
    let m = moved_high from p ps (length text) inside in
    omega (arith, one, two, all, rest, m)

-- the places of the text go where the edited text has places
pub moved_within : (text : Bytes) (e : Edit) (place : ℕ) → InRange text e → place ≤ length text → moved e place ≤ length (apply_of text e)
moved_within text e place r h =
    let l = length_from text 0 e.parts r.within in
    let m = moved_rises e place (length text) h in
    omega (arith, l, m)
